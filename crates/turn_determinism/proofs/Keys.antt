-- Steps that make metadata, change their keys and write them.
use Rattle.std.proofs.Common.{◌≡◌, ◌∙◌, ◌⊎◌, inl, inr, ℕ, ◌≤◌, List, length, refl, ap, sym, subst, Bool, Option, None, Some, Result, Ok, Err}
use Rattle.command_rows.specs.Rows.{MakesProvider, Reach, without_value}
use Rattle.command_rows.specs.Vocabulary.{Components, DeletesKeys, Deletion, DiskState, EntropyState, Event, InitOptions, Inits, KeyChange, KeyFault, Logs, MakesKey, MakesMetadata, Metadata, Refusal, Restores, Rose, SetsKey, Takes, UserKey, change_refusal, changed_iterations, deletion_refusal, early_refusal, encoded, filler_size, init_events, pass_events, random_size, replace_events, restored, salt_in, store_events, user_key, with_key}
use Rattle.eli_base.specs.declared.refusals.Refusal.TheVariants as refusals
use Rattle.command_rows.specs.verbs.Delkey.{TakesKeysOut}
use Rattle.command_rows.specs.verbs.Restore.{RestoresBackup}
use Rattle.command_rows.specs.verbs.Setkey.{StoresKey}
use Rattle.turn_determinism.proofs.Alike.{AlikeDisk, AlikeEntropy, logs_alike, still_cabinet, still_disk, still_entropy, takes_alike, takes_same, uncounted_same}
use Rattle.turn_determinism.proofs.Disks.{beside_later, beside_settled, same_holding, same_loads}
use Rattle.turn_determinism.proofs.Steps.{Both, Later, Settled, Sure, same_cabinet_later, same_disk_later, same_entropy_later, settled}

-- ---- steps that keep the cabinet

pub drawing_later : (old new : Reach) → old.disk.faults ≤ new.disk.faults → old.entropy.faults ≤ new.entropy.faults → new.cabinet ≡ old.cabinet → Later old new
drawing_later old new disk entropy cabinet = record { disk = disk; cabinet = same_cabinet_later old.cabinet new.cabinet cabinet; entropy = entropy }

-- all but the disk and the entropy stays
pub drawing_settled : {A : Type 0} (old old' : Reach) (answer answer' : Result A Refusal) (new new' : Reach) → (both : Both old old' new new') → answer' ≡ answer → AlikeDisk new.disk new'.disk → AlikeEntropy new.entropy new'.entropy
    → new.holding ≡ old.holding → new'.holding ≡ old'.holding → new.cabinet ≡ old.cabinet → new'.cabinet ≡ old'.cabinet → Settled both.counts answer answer' new new'
drawing_settled old old' answer answer' new new' both agrees disk entropy holding holding' cabinet cabinet' =
    settled both.counts answer answer' new new' agrees
    (record {
      disk = disk;
      holding = same_holding old old' new new' both.same holding holding';
      cabinet = still_cabinet old.cabinet old'.cabinet new.cabinet new'.cabinet both.same.cabinet cabinet cabinet';
      entropy = entropy;
    })
    (λ on. same_loads old old' new new' (both.loads on) cabinet cabinet')

-- the last sector gets the same metadata, if the disks have the same size
replaced_same : (d d' : DiskState) (m m' : Metadata) → d'.size ≡ d.size → m' ≡ m → replace_events d' m' ≡ replace_events d m
replaced_same d d' m m' size is = rw (size, is) refl

stored_same : (d d' : DiskState) (m m' : Metadata) → d'.size ≡ d.size → m' ≡ m → store_events d' (encoded m') ≡ store_events d (encoded m)
stored_same d d' m m' size is = rw (size, is) refl

-- disks that log the same events, and of which nothing is read, stay alike
pub unread_alike : (events events' : List Event) (d d' e e' : DiskState) → AlikeDisk d d' → events' ≡ events → Logs events d e → Logs events' d' e' → e.reads ≡ d.reads → e'.reads ≡ d'.reads → AlikeDisk e e'
unread_alike events events' d d' e e' same is logs logs' unasked unasked' =
    let P : List Event → Type 0 = λ es. Logs es d' e' in
    logs_alike events d d' e e' same logs (subst P is logs') (uncounted_same same.reads unasked unasked')

-- two keys that are made of the same are the same
key_same : (made made' : Result UserKey KeyFault) (key key' : UserKey) → made ≡ Ok key → made' ≡ Ok key' → made' ≡ made → key' ≡ key
key_same made made' key key' h h' is = let e : Ok key' ≡ Ok key = sym h' ∙ is ∙ h in cc e

-- two refusals of the same are the same
pub refusal_same : (o o' : Option Refusal) (refusal refusal' : Refusal) → o ≡ Some refusal → o' ≡ Some refusal' → o' ≡ o → refusal' ≡ refusal
refusal_same o o' refusal refusal' h h' is = let e : Some refusal' ≡ Some refusal = sym h' ∙ is ∙ h in cc e

pub unrefused : (o o' : Option Refusal) (refusal : Refusal) → o ≡ None → o' ≡ Some refusal → o' ≡ o → ⊥
unrefused o o' refusal h h' is = let e : Some refusal ≡ None = sym h' ∙ is ∙ h in cc e

-- ---- a provider is made

inits_later : (options : InitOptions) (parts : Components) (d : DiskState) (e : EntropyState) (made : Result Metadata Refusal) (d' : DiskState) (e' : EntropyState) → Inits options parts d e made d' e'
    → (d.faults ≤ d'.faults) × (e.faults ≤ e'.faults)
inits_later options parts d e (Ok m) d' e' h = (h.logs.faults, h.makes.taken.later)
inits_later options parts d e (Err refusals.DeviceFault) d' e' h = (h.fails.logs.faults, h.makes.taken.later)
inits_later options parts d e (Err refusals.EntropyFault) d' e' h = (same_disk_later d d' h.unchanged, h.none.later)
inits_later options parts d e (Err refusal) d' e' h = (same_disk_later d d' h.disk_unchanged, same_entropy_later e e' h.entropy_unchanged)

-- metadata are made and written
record InitDone (options : InitOptions) (parts : Components) (d : DiskState) (e : EntropyState) (made : Result Metadata Refusal) (d' : DiskState) (e' : EntropyState) : Type 0 where
  m : Metadata
  is : made ≡ Ok m
  makes : MakesMetadata options parts d.size e m e'
  logs : Logs (init_events d m) d d'
  unasked : d'.reads ≡ d.reads

-- making a provider is refused, and nothing is done
record InitRefused (options : InitOptions) (parts : Components) (d : DiskState) (e : EntropyState) (made : Result Metadata Refusal) (d' : DiskState) (e' : EntropyState) : Type 0 where
  refusal : Refusal
  is : made ≡ Err refusal
  cause : early_refusal options parts d.size ≡ Some refusal
  disk : d' ≡ d
  entropy : e' ≡ e

inits_is : (options : InitOptions) (parts : Components) (d : DiskState) (e : EntropyState) (made : Result Metadata Refusal) (d' : DiskState) (e' : EntropyState) → ¬ Rose d.faults d'.faults → ¬ Rose e.faults e'.faults
    → Inits options parts d e made d' e' → InitDone options parts d e made d' e' ⊎ InitRefused options parts d e made d' e'
inits_is options parts d e (Ok made) d' e' quiet full h = inl (record { m = made; is = refl; makes = h.makes; logs = h.logs; unasked = h.unasked })
inits_is options parts d e (Err refusals.DeviceFault) d' e' quiet full h = absurd (quiet h.fails.rose)
inits_is options parts d e (Err refusals.EntropyFault) d' e' quiet full h = absurd (full h.none.rose)
inits_is options parts d e (Err found) d' e' quiet full h = inr (record { refusal = found; is = refl; cause = h.cause; disk = h.disk_unchanged; entropy = h.entropy_unchanged })

made_same : (options : InitOptions) (parts : Components) (n n' : ℕ) (e e' f f' : EntropyState) (m m' : Metadata) → AlikeEntropy e e' → n' ≡ n → MakesMetadata options parts n e m f → MakesMetadata options parts n' e' m' f' → m' ≡ m
made_same options parts n n' e e' f f' m m' same size h h' =
    let random : h'.random ≡ h.random = takes_same random_size h.random h'.random e e' f f' same h.size h'.size h.taken h'.taken in
    let key : h'.key ≡ h.key = key_same _ _ h.key h'.key h.derived h'.derived (ap (λ (r : List ℕ). user_key parts (salt_in r) options.iterations) random) in
    h'.metadata ∙ rw (size, random, key) (sym h.metadata)

init_by : (options : InitOptions) (parts : Components) (old old' : Reach) (answer answer' : Result Metadata Refusal) (new new' : Reach) → (both : Both old old' new new') → MakesProvider options parts old answer new → MakesProvider options parts old' answer' new'
    → InitDone options parts old.disk old.entropy answer new.disk new.entropy ⊎ InitRefused options parts old.disk old.entropy answer new.disk new.entropy
    → InitDone options parts old'.disk old'.entropy answer' new'.disk new'.entropy ⊎ InitRefused options parts old'.disk old'.entropy answer' new'.disk new'.entropy → Settled both.counts answer answer' new new'
init_by options parts old old' answer answer' new new' both h h' (inl i) (inl i') =
    let m : i'.m ≡ i.m = made_same options parts old.disk.size old'.disk.size old.entropy old'.entropy new.entropy new'.entropy i.m i'.m both.same.entropy both.same.disk.size i.makes i'.makes in
    drawing_settled old old' answer answer' new new' both (i'.is ∙ ap (λ (x : Metadata). Ok x) m ∙ sym i.is)
    (unread_alike (init_events old.disk i.m) (init_events old'.disk i'.m) old.disk old'.disk new.disk new'.disk both.same.disk (replaced_same old.disk old'.disk i.m i'.m both.same.disk.size m) i.logs i'.logs i.unasked i'.unasked)
    (takes_alike random_size i.makes.random i'.makes.random old.entropy old'.entropy new.entropy new'.entropy both.same.entropy i.makes.size i'.makes.size i.makes.taken i'.makes.taken)
    h.holding h'.holding h.cabinet h'.cabinet
init_by options parts old old' answer answer' new new' both h h' (inl i) (inr i') =
    absurd (unrefused _ _ i'.refusal i.makes.served i'.cause (ap (λ (n : ℕ). early_refusal options parts n) both.same.disk.size))
init_by options parts old old' answer answer' new new' both h h' (inr i) (inl i') =
    absurd (unrefused _ _ i.refusal i'.makes.served i.cause (ap (λ (n : ℕ). early_refusal options parts n) (sym both.same.disk.size)))
init_by options parts old old' answer answer' new new' both h h' (inr i) (inr i') =
    let refusal : i'.refusal ≡ i.refusal = refusal_same _ _ i.refusal i'.refusal i.cause i'.cause (ap (λ (n : ℕ). early_refusal options parts n) both.same.disk.size) in
    drawing_settled old old' answer answer' new new' both (i'.is ∙ ap (λ (x : Refusal). Err x) refusal ∙ sym i.is)
    (still_disk old.disk old'.disk new.disk new'.disk both.same.disk i.disk i'.disk)
    (still_entropy old.entropy old'.entropy new.entropy new'.entropy both.same.entropy i.entropy i'.entropy)
    h.holding h'.holding h.cabinet h'.cabinet

pub makes_sure : (options : InitOptions) (parts : Components) → Sure (MakesProvider options parts)
makes_sure options parts = record {
  goes = λ old answer new h. let later = inits_later options parts old.disk old.entropy answer new.disk new.entropy h.inits in drawing_later old new later.0 later.1 h.cabinet;
  settles = λ old old' answer answer' new new' both memory memory' h h'.
      init_by options parts old old' answer answer' new new' both h h'
      (inits_is options parts old.disk old.entropy answer new.disk new.entropy both.quiet.disk both.quiet.entropy h.inits)
      (inits_is options parts old'.disk old'.entropy answer' new'.disk new'.entropy both.quiet'.disk both.quiet'.entropy h'.inits);
}

-- ---- a key is stored

sets_later : (asked : KeyChange) (d : DiskState) (made : Result Metadata Refusal) (e : DiskState) → SetsKey asked d made e → d.faults ≤ e.faults
sets_later asked d (Ok m) e h = h.logs.faults
sets_later asked d (Err refusals.DeviceFault) e h = h.fails.logs.faults
sets_later asked d (Err refusal) e h = same_disk_later d e h.unchanged

record SetDone (asked : KeyChange) (d : DiskState) (made : Result Metadata Refusal) (e : DiskState) : Type 0 where
  m : Metadata
  is : made ≡ Ok m
  makes : MakesKey asked m
  logs : Logs (store_events d (encoded m)) d e
  unasked : e.reads ≡ d.reads

record SetRefused (asked : KeyChange) (d : DiskState) (made : Result Metadata Refusal) (e : DiskState) : Type 0 where
  refusal : Refusal
  is : made ≡ Err refusal
  cause : change_refusal asked ≡ Some refusal
  disk : e ≡ d

sets_is : (asked : KeyChange) (d : DiskState) (made : Result Metadata Refusal) (e : DiskState) → ¬ Rose d.faults e.faults → SetsKey asked d made e → SetDone asked d made e ⊎ SetRefused asked d made e
sets_is asked d (Ok made) e quiet h = inl (record { m = made; is = refl; makes = h.makes; logs = h.logs; unasked = h.unasked })
sets_is asked d (Err refusals.DeviceFault) e quiet h = absurd (quiet h.fails.rose)
sets_is asked d (Err found) e quiet h = inr (record { refusal = found; is = refl; cause = h.cause; disk = h.unchanged })

-- the user key is that of the old salt, under the new iterations
derived_by : (asked : KeyChange) (m : Metadata) (u : List ℕ) (key : UserKey) → m ≡ with_key asked u → user_key asked.parts m.salt m.iterations ≡ Ok key → user_key asked.parts asked.meta.salt (changed_iterations asked) ≡ Ok key
derived_by asked m u key is derived =
    let P : Metadata → Type 0 = λ x. user_key asked.parts x.salt x.iterations ≡ Ok key in
    subst P is derived

keys_same : (asked : KeyChange) (m m' : Metadata) → MakesKey asked m → MakesKey asked m' → m' ≡ m
keys_same asked m m' h h' =
    let key : h'.key ≡ h.key = key_same _ _ h.key h'.key (derived_by asked m h.key.bytes h.key h.metadata h.derived) (derived_by asked m' h'.key.bytes h'.key h'.metadata h'.derived) refl in
    h'.metadata ∙ ap (λ (k : UserKey). with_key asked k.bytes) key ∙ sym h.metadata

sets_by : (asked : KeyChange) (d d' : DiskState) (made made' : Result Metadata Refusal) (e e' : DiskState) → AlikeDisk d d' → SetDone asked d made e ⊎ SetRefused asked d made e → SetDone asked d' made' e' ⊎ SetRefused asked d' made' e'
    → (made' ≡ made) × AlikeDisk e e'
sets_by asked d d' made made' e e' same (inl s) (inl s') =
    let m : s'.m ≡ s.m = keys_same asked s.m s'.m s.makes s'.makes in (
      s'.is ∙ ap (λ (x : Metadata). Ok x) m ∙ sym s.is,
      unread_alike (store_events d (encoded s.m)) (store_events d' (encoded s'.m)) d d' e e' same (stored_same d d' s.m s'.m same.size m) s.logs s'.logs s.unasked s'.unasked,
    )
sets_by asked d d' made made' e e' same (inl s) (inr s') = absurd (unrefused _ _ s'.refusal s.makes.served s'.cause refl)
sets_by asked d d' made made' e e' same (inr s) (inl s') = absurd (unrefused _ _ s.refusal s'.makes.served s.cause refl)
sets_by asked d d' made made' e e' same (inr s) (inr s') =
    let refusal : s'.refusal ≡ s.refusal = refusal_same _ _ s.refusal s'.refusal s.cause s'.cause refl in
    (s'.is ∙ ap (λ (x : Refusal). Err x) refusal ∙ sym s.is, still_disk d d' e e' same s.disk s'.disk)

pub stores_key_sure : (asked : KeyChange) → Sure (StoresKey asked)
stores_key_sure asked = record {
  goes = λ old answer new h. beside_later old new (sets_later asked old.disk h.made new.disk h.sets) h.cabinet h.entropy;
  settles = λ old old' answer answer' new new' both memory memory' h h'.
      let is = sets_by asked old.disk old'.disk h.made h'.made new.disk new'.disk both.same.disk (sets_is asked old.disk h.made new.disk both.quiet.disk h.sets) (sets_is asked old'.disk h'.made new'.disk both.quiet'.disk h'.sets) in
      beside_settled old old' answer answer' new new' both (h'.answered ∙ ap (λ (r : Result Metadata Refusal). without_value r) is.0 ∙ sym h.answered) is.1
      (same_holding old old' new new' both.same h.holding h'.holding) h.cabinet h'.cabinet h.entropy h'.entropy;
}

-- ---- keys are taken out

deletes_later : (asked : Deletion) (d : DiskState) (e : EntropyState) (made : Result Metadata Refusal) (d' : DiskState) (e' : EntropyState) → DeletesKeys asked d e made d' e' → (d.faults ≤ d'.faults) × (e.faults ≤ e'.faults)
deletes_later asked d e (Ok m) d' e' h = (h.logs.faults, h.draws.taken.later)
deletes_later asked d e (Err refusals.DeviceFault) d' e' h = (h.fails.logs.faults, h.draws.taken.later)
deletes_later asked d e (Err refusals.EntropyFault) d' e' h = (same_disk_later d d' h.unchanged, h.none.later)
deletes_later asked d e (Err refusal) d' e' h = (same_disk_later d d' h.disk_unchanged, same_entropy_later e e' h.entropy_unchanged)

record DeleteDone (asked : Deletion) (d : DiskState) (e : EntropyState) (answer : Result (Unit {0}) Refusal) (d' : DiskState) (e' : EntropyState) : Type 0 where
  is : answer ≡ Ok tt
  served : deletion_refusal asked.meta asked.which asked.force ≡ None
  random : List ℕ
  size : length random ≡ filler_size asked.which
  taken : Takes random e e'
  logs : Logs (pass_events d asked.meta asked.which random) d d'
  unasked : d'.reads ≡ d.reads

record DeleteRefused (asked : Deletion) (d : DiskState) (e : EntropyState) (answer : Result (Unit {0}) Refusal) (d' : DiskState) (e' : EntropyState) : Type 0 where
  refusal : Refusal
  is : answer ≡ Err refusal
  cause : deletion_refusal asked.meta asked.which asked.force ≡ Some refusal
  disk : d' ≡ d
  entropy : e' ≡ e

deletes_is : (asked : Deletion) (d : DiskState) (e : EntropyState) (made : Result Metadata Refusal) (d' : DiskState) (e' : EntropyState) → ¬ Rose d.faults d'.faults → ¬ Rose e.faults e'.faults → DeletesKeys asked d e made d' e'
    → DeleteDone asked d e (without_value made) d' e' ⊎ DeleteRefused asked d e (without_value made) d' e'
deletes_is asked d e (Ok m) d' e' quiet full h =
    inl (record { is = refl; served = h.draws.served; random = h.random; size = h.draws.size; taken = h.draws.taken; logs = h.logs; unasked = h.unasked })
deletes_is asked d e (Err refusals.DeviceFault) d' e' quiet full h = absurd (quiet h.fails.rose)
deletes_is asked d e (Err refusals.EntropyFault) d' e' quiet full h = absurd (full h.none.rose)
deletes_is asked d e (Err found) d' e' quiet full h = inr (record { refusal = found; is = refl; cause = h.cause; disk = h.disk_unchanged; entropy = h.entropy_unchanged })

passes_same : (asked : Deletion) (d d' : DiskState) (random random' : List ℕ) → d'.size ≡ d.size → random' ≡ random → pass_events d' asked.meta asked.which random' ≡ pass_events d asked.meta asked.which random
passes_same asked d d' random random' size is = rw (size, is) refl

deletes_by : (asked : Deletion) (old old' : Reach) (answer answer' : Result (Unit {0}) Refusal) (new new' : Reach) → (both : Both old old' new new') → TakesKeysOut asked old answer new → TakesKeysOut asked old' answer' new'
    → DeleteDone asked old.disk old.entropy answer new.disk new.entropy ⊎ DeleteRefused asked old.disk old.entropy answer new.disk new.entropy
    → DeleteDone asked old'.disk old'.entropy answer' new'.disk new'.entropy ⊎ DeleteRefused asked old'.disk old'.entropy answer' new'.disk new'.entropy → Settled both.counts answer answer' new new'
deletes_by asked old old' answer answer' new new' both h h' (inl x) (inl x') =
    let random : x'.random ≡ x.random = takes_same (filler_size asked.which) x.random x'.random old.entropy old'.entropy new.entropy new'.entropy both.same.entropy x.size x'.size x.taken x'.taken in
    drawing_settled old old' answer answer' new new' both (x'.is ∙ sym x.is)
    (unread_alike (pass_events old.disk asked.meta asked.which x.random) (pass_events old'.disk asked.meta asked.which x'.random) old.disk old'.disk new.disk new'.disk both.same.disk
    (passes_same asked old.disk old'.disk x.random x'.random both.same.disk.size random) x.logs x'.logs x.unasked x'.unasked)
    (takes_alike (filler_size asked.which) x.random x'.random old.entropy old'.entropy new.entropy new'.entropy both.same.entropy x.size x'.size x.taken x'.taken)
    h.holding h'.holding h.cabinet h'.cabinet
deletes_by asked old old' answer answer' new new' both h h' (inl x) (inr x') = absurd (unrefused _ _ x'.refusal x.served x'.cause refl)
deletes_by asked old old' answer answer' new new' both h h' (inr x) (inl x') = absurd (unrefused _ _ x.refusal x'.served x.cause refl)
deletes_by asked old old' answer answer' new new' both h h' (inr x) (inr x') =
    let refusal : x'.refusal ≡ x.refusal = refusal_same _ _ x.refusal x'.refusal x.cause x'.cause refl in
    drawing_settled old old' answer answer' new new' both (x'.is ∙ ap (λ (r : Refusal). Err r) refusal ∙ sym x.is)
    (still_disk old.disk old'.disk new.disk new'.disk both.same.disk x.disk x'.disk)
    (still_entropy old.entropy old'.entropy new.entropy new'.entropy both.same.entropy x.entropy x'.entropy)
    h.holding h'.holding h.cabinet h'.cabinet

taken_out : (asked : Deletion) (old : Reach) (answer : Result (Unit {0}) Refusal) (new : Reach) → ¬ Rose old.disk.faults new.disk.faults → ¬ Rose old.entropy.faults new.entropy.faults → TakesKeysOut asked old answer new
    → DeleteDone asked old.disk old.entropy answer new.disk new.entropy ⊎ DeleteRefused asked old.disk old.entropy answer new.disk new.entropy
taken_out asked old answer new quiet full h =
    let P : Result (Unit {0}) Refusal → Type 0 = λ r. DeleteDone asked old.disk old.entropy r new.disk new.entropy ⊎ DeleteRefused asked old.disk old.entropy r new.disk new.entropy in
    subst P (sym h.answered) (deletes_is asked old.disk old.entropy h.made new.disk new.entropy quiet full h.deletes)

pub takes_keys_out_sure : (asked : Deletion) → Sure (TakesKeysOut asked)
takes_keys_out_sure asked = record {
  goes = λ old answer new h. let later = deletes_later asked old.disk old.entropy h.made new.disk new.entropy h.deletes in drawing_later old new later.0 later.1 h.cabinet;
  settles = λ old old' answer answer' new new' both memory memory' h h'.
      deletes_by asked old old' answer answer' new new' both h h' (taken_out asked old answer new both.quiet.disk both.quiet.entropy h) (taken_out asked old' answer' new' both.quiet'.disk both.quiet'.entropy h');
}

-- ---- a backup is written back

restores_later : (bytes : List ℕ) (force : Bool) (d : DiskState) (made : Result Metadata Refusal) (e : DiskState) → Restores bytes force d made e → d.faults ≤ e.faults
restores_later bytes force d (Ok m) e h = h.logs.faults
restores_later bytes force d (Err refusals.DeviceFault) e h = h.fails.logs.faults
restores_later bytes force d (Err refusal) e h = same_disk_later d e h.unchanged

record RestoreDone (bytes : List ℕ) (force : Bool) (d : DiskState) (made : Result Metadata Refusal) (e : DiskState) : Type 0 where
  m : Metadata
  is : made ≡ Ok m
  served : restored bytes force d.size ≡ Ok m
  logs : Logs (replace_events d m) d e
  unasked : e.reads ≡ d.reads

record RestoreRefused (bytes : List ℕ) (force : Bool) (d : DiskState) (made : Result Metadata Refusal) (e : DiskState) : Type 0 where
  refusal : Refusal
  is : made ≡ Err refusal
  cause : restored bytes force d.size ≡ Err refusal
  disk : e ≡ d

restores_is : (bytes : List ℕ) (force : Bool) (d : DiskState) (made : Result Metadata Refusal) (e : DiskState) → ¬ Rose d.faults e.faults → Restores bytes force d made e → RestoreDone bytes force d made e ⊎ RestoreRefused bytes force d made e
restores_is bytes force d (Ok made) e quiet h = inl (record { m = made; is = refl; served = h.gives.served; logs = h.logs; unasked = h.unasked })
restores_is bytes force d (Err refusals.DeviceFault) e quiet h = absurd (quiet h.fails.rose)
restores_is bytes force d (Err found) e quiet h = inr (record { refusal = found; is = refl; cause = h.cause; disk = h.unchanged })

restores_by : (bytes : List ℕ) (force : Bool) (d d' : DiskState) (made made' : Result Metadata Refusal) (e e' : DiskState) → AlikeDisk d d' → RestoreDone bytes force d made e ⊎ RestoreRefused bytes force d made e
    → RestoreDone bytes force d' made' e' ⊎ RestoreRefused bytes force d' made' e' → (made' ≡ made) × AlikeDisk e e'
restores_by bytes force d d' made made' e e' same (inl x) (inl x') =
    let given : Ok x'.m ≡ Ok x.m = sym x'.served ∙ ap (λ (n : ℕ). restored bytes force n) same.size ∙ x.served in
    let m : x'.m ≡ x.m = cc given in (
      x'.is ∙ ap (λ (y : Metadata). Ok y) m ∙ sym x.is,
      unread_alike (replace_events d x.m) (replace_events d' x'.m) d d' e e' same (replaced_same d d' x.m x'.m same.size m) x.logs x'.logs x.unasked x'.unasked,
    )
restores_by bytes force d d' made made' e e' same (inl x) (inr x') =
    let given : Err x'.refusal ≡ Ok x.m = sym x'.cause ∙ ap (λ (n : ℕ). restored bytes force n) same.size ∙ x.served in
    absurd (let no : ⊥ = cc given in no)
restores_by bytes force d d' made made' e e' same (inr x) (inl x') =
    let given : Ok x'.m ≡ Err x.refusal = sym x'.served ∙ ap (λ (n : ℕ). restored bytes force n) same.size ∙ x.cause in
    absurd (let no : ⊥ = cc given in no)
restores_by bytes force d d' made made' e e' same (inr x) (inr x') =
    let given : Err x'.refusal ≡ Err x.refusal = sym x'.cause ∙ ap (λ (n : ℕ). restored bytes force n) same.size ∙ x.cause in
    let refusal : x'.refusal ≡ x.refusal = cc given in
    (x'.is ∙ ap (λ (r : Refusal). Err r) refusal ∙ sym x.is, still_disk d d' e e' same x.disk x'.disk)

pub writes_back_sure : (bytes : List ℕ) (force : Bool) → Sure (RestoresBackup bytes force)
writes_back_sure bytes force = record {
  goes = λ old answer new h. beside_later old new (restores_later bytes force old.disk answer new.disk h.restores) h.outside.cabinet h.outside.entropy;
  settles = λ old old' answer answer' new new' both memory memory' h h'.
      let is = restores_by bytes force old.disk old'.disk answer answer' new.disk new'.disk both.same.disk (restores_is bytes force old.disk answer new.disk both.quiet.disk h.restores)
      (restores_is bytes force old'.disk answer' new'.disk both.quiet'.disk h'.restores) in
      beside_settled old old' answer answer' new new' both is.0 is.1 (same_holding old old' new new' both.same h.holding h'.holding) h.outside.cabinet h'.outside.cabinet h.outside.entropy h'.outside.entropy;
}
