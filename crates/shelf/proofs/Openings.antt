-- A provider that is attached, or refused, as the row of `attach`.
use Rattle.std.proofs.Common.{◌≡◌, ◌∙◌, ℕ, List, ◌≤◌, [], ap, refl, sym, subst, Bool, true, Result, Ok, Err, Option, Some, None, ◌||◌, ◌==◌, IsSome, if◌then◌else◌}
use Rattle.command_rows.specs.Rows.{Attaches, Attachment, GoesOn, Idle, IsAttached, Reach, attachment_by, or_refusal, or_wrong_key, reach_of, tried, without_value}
use Rattle.command_rows.specs.Vocabulary.{Attached, CabinetState, DiskState, EntropyState, KeyFault, Keying, MasterKey, Metadata, Refusal, Settings, UserKey, key_refusal_of, keying_of, media_sectors, opened, settings_of}
use Rattle.provider.specs.Answers as answers
use Rattle.provider.specs.Answers.{Means, Target, target_media}
use Rattle.provider.specs.Opening.{SlotFails, SlotOpens, params_media}
use Rattle.provider.specs.declared.faults.AttachFault.{AttachFault}
use Rattle.provider.specs.declared.faults.AttachFault.TheVariants as attach
use Rattle.provider.proofs.Checked.{checked}
use Rattle.eli_base.specs.declared.refusals.Refusal.TheVariants as refusals
use Rattle.command_rows.proofs.Opening.{has_room}
use Rattle.shelf.specs.Trying.{IsTrial, attach_refusal, tried_in}
use Rattle.command_rows.specs.Turn.{AttachesUnless}
use Rattle.shelf.specs.Shelved.{attachment_of}
use Rattle.shelf.specs.declared.trying.Trial.{Trial}

abbrev pub target : Trial → DiskState → Target
target t disk = record { meta = t.meta; params = t.params; disk = disk }

abbrev pub means : Trial → Option ℕ → Bool → Means
means t slot readonly = record { key = t.key.bytes; named = slot; readonly = readonly }

-- ---- what a key that was derived comes to

-- the key was refused
pub refused_key : (m : Metadata) (s : Settings) (slot : Option ℕ) (readonly : Bool) (derived : Result UserKey KeyFault) (refusal : Refusal) → Err refusal ≡ or_refusal key_refusal_of derived
    → Err refusal ≡ tried m s slot readonly derived
refused_key m s slot readonly (Ok key) refusal h = absurd (let no : ⊥ = cc h in no)
refused_key m s slot readonly (Err fault) refusal h = let same : refusal ≡ key_refusal_of fault = cc h in ap (λ (r : Refusal). Err r) same

-- the key is tried
pub tried_key : (m : Metadata) (s : Settings) (slot : Option ℕ) (readonly : Bool) (derived : Result UserKey KeyFault) (key : UserKey) → Ok key ≡ or_refusal key_refusal_of derived
    → tried m s slot readonly (Ok key) ≡ tried m s slot readonly derived
tried_key m s slot readonly (Ok other) key h = let same : key ≡ other = cc h in ap (λ (k : UserKey). tried m s slot readonly (Ok k)) same
tried_key m s slot readonly (Err fault) key h = absurd (let no : ⊥ = cc h in no)

-- the provider has a sector
pub tried_as : (t : Trial) (slot : Option ℕ) (readonly : Bool) (found : Option (MasterKey × ℕ)) → 1 ≤ media_sectors t.params.auth t.params.sectorsize t.params.provsize → opened t.meta t.key.bytes slot ≡ found
    → tried_in slot readonly t ≡ or_wrong_key (settings_of t.params) readonly found
tried_as t slot readonly found room opens =
    has_room (media_sectors t.params.auth t.params.sectorsize t.params.provsize) (Err (refusals.TooSmall t.params.provsize)) (or_wrong_key (settings_of t.params) readonly (opened t.meta t.key.bytes slot)) room
    ∙ ap (or_wrong_key (settings_of t.params) readonly) opens

-- the provider has no sector
tried_small : (t : Trial) (slot : Option ℕ) (readonly : Bool) → media_sectors t.params.auth t.params.sectorsize t.params.provsize ≡ 0 → tried_in slot readonly t ≡ Err (refusals.TooSmall t.params.provsize)
tried_small t slot readonly none =
    let by : ℕ → Result Attachment Refusal = λ n. if n == 0 then Err (refusals.TooSmall t.params.provsize) else or_wrong_key (settings_of t.params) readonly (opened t.meta t.key.bytes slot) in
    ap by none

-- the sectors of the settings are those of the disk
pub room : (t : Trial) (slot : Option ℕ) (disk : DiskState) → IsTrial disk.size slot t → 1 ≤ target_media (target t disk) → 1 ≤ media_sectors t.params.auth t.params.sectorsize t.params.provsize
room t slot disk is some = subst (λ (n : ℕ). 1 ≤ n) (sym (checked t.meta t.params disk.size is.checked is.size).media) some

-- ---- the drawer then

same_attachment : (s : ℕ) (k k' : Keying) (r r' : Bool) → k ≡ k' → r ≡ r'
    → (let a : Attachment = record { slot = s; keying = k; readonly = r; queue = [] } in a) ≡ (let a : Attachment = record { slot = s; keying = k'; readonly = r'; queue = [] } in a)
same_attachment s k k' r r' p q = cc

-- what is attached is what the key opens
attached_as : {D : Type 0} (t : Trial) (slot : Option ℕ) (readonly : Bool) (disk : DiskState) (given : D) (p : Attached D) → IsTrial disk.size slot t → answers.IsAttached (target t disk) (means t slot readonly) given p
    → attachment_by (settings_of t.params) readonly (record { bytes = p.keying.master }, p.slot) ≡ attachment_of [] p
attached_as t slot readonly disk given p is attached =
    sym (same_attachment p.slot p.keying (keying_of t.params (record { bytes = p.keying.master })) p.readonly (readonly || t.params.readonly) attached.keying
    (attached.readonly ∙ ap (λ (b : Bool). readonly || b) (checked t.meta t.params disk.size is.checked is.size).readonly))

answered_as : (given answer : Result Attachment Refusal) (old : Reach) (said : Result (Unit {0}) Refusal) (new : Reach) → given ≡ answer → GoesOn Attaches answer old said new → GoesOn Attaches given old said new
answered_as given answer old said new is h = subst (λ (g : Result Attachment Refusal). GoesOn Attaches g old said new) (sym is) h

-- the key that is tried opens it
pub opens_as : {D : Type 0} (t : Trial) (slot : Option ℕ) (readonly : Bool) (disk : DiskState) (given : D) (p : Attached D) → IsTrial disk.size slot t → answers.IsAttached (target t disk) (means t slot readonly) given p
    → tried_in slot readonly t ≡ Ok (attachment_of [] p)
opens_as t slot readonly disk given p is attached =
    tried_as t slot readonly (Some (record { bytes = p.keying.master }, p.slot)) (room t slot disk is attached.room) attached.opened ∙ ap (λ (a : Attachment). Ok a) (attached_as t slot readonly disk given p is attached)

pub taken_over : {D : Type 0} (state : D → DiskState) (t : Trial) (slot : Option ℕ) (readonly : Bool) (given : D) (p : Attached D) (cabinet : CabinetState) (entropy : EntropyState) → IsTrial (state given).size slot t
    → answers.IsAttached (target t (state given)) (means t slot readonly) given p
    → GoesOn Attaches (tried_in slot readonly t) (reach_of (state given) Idle cabinet entropy) (Ok tt) (reach_of (state p.disk) (IsAttached (attachment_of [] p)) cabinet entropy)
taken_over {D = D} state t slot readonly given p cabinet entropy is attached =
    answered_as _ (Ok (attachment_of [] p)) _ (Ok tt) _ (opens_as t slot readonly (state given) given p is attached) (ap (λ (d : D). reach_of (state d) (IsAttached (attachment_of [] p)) cabinet entropy) attached.disk)

no_memory : (s : Settings) (readonly : Bool) (found : Option (MasterKey × ℕ)) (old : Reach) → IsSome found → GoesOn Attaches (or_wrong_key s readonly found) old (Err refusals.NoMemory) old
no_memory s readonly None old h = absurd (let no : ⊥ = cc h in no)
no_memory s readonly (Some found) old h = refl

-- no slot opens, or the provider has no sector
pub small_as : (t : Trial) (slot : Option ℕ) (readonly : Bool) (disk : DiskState) (size : ℕ) → IsTrial disk.size slot t → answers.AttachFails (target t disk) (means t slot readonly) (attach.TooSmall size)
    → tried_in slot readonly t ≡ Err (refusals.TooSmall size)
small_as t slot readonly disk size is h =
    let c = checked t.meta t.params disk.size is.checked is.size in
    let bytes : t.params.provsize ≡ size = c.provsize ∙ sym h.1 in
    tried_small t slot readonly (c.media ∙ h.0) ∙ ap (λ (n : ℕ). Err (refusals.TooSmall n)) bytes

pub wrong_as : (t : Trial) (slot : Option ℕ) (readonly : Bool) (disk : DiskState) → IsTrial disk.size slot t → answers.AttachFails (target t disk) (means t slot readonly) attach.WrongKey → tried_in slot readonly t ≡ Err refusals.WrongKey
wrong_as t slot readonly disk is h = tried_as t slot readonly None (room t slot disk is h.0) h.1

fails_as : (t : Trial) (slot : Option ℕ) (readonly : Bool) (disk : DiskState) (fault : AttachFault) (old : Reach) → IsTrial disk.size slot t → answers.AttachFails (target t disk) (means t slot readonly) fault
    → GoesOn Attaches (tried_in slot readonly t) old (Err (attach_refusal fault)) old
fails_as t slot readonly disk (attach.TooSmall size) old is h = answered_as _ (Err (refusals.TooSmall size)) old _ old (small_as t slot readonly disk size is h) (refl, refl)
fails_as t slot readonly disk attach.WrongKey old is h = answered_as _ (Err refusals.WrongKey) old _ old (wrong_as t slot readonly disk is h) (refl, refl)
fails_as t slot readonly disk attach.NoMemory old is h =
    let found = opened t.meta t.key.bytes slot in
    answered_as _ (or_wrong_key (settings_of t.params) readonly found) old _ old (tried_as t slot readonly found (room t slot disk is h.0) refl) (no_memory (settings_of t.params) readonly found old h.1)

-- ---- the key is tried alone

-- the slot opens
pub tries_well : (t : Trial) (slot : Option ℕ) (readonly : Bool) (found : ℕ) (master : List ℕ) → SlotOpens t.meta (params_media t.params) t.key.bytes slot found master
    → Ok tt ≡ without_value (tried_in slot readonly t)
tries_well t slot readonly found master h = sym (ap without_value (tried_as t slot readonly (Some (record { bytes = master }, found)) h.room h.opened))

-- no slot opens
pub tries_ill : (t : Trial) (slot : Option ℕ) (readonly : Bool) (fault : AttachFault) → SlotFails t.meta t.params t.key.bytes slot fault
    → Err (attach_refusal fault) ≡ without_value (tried_in slot readonly t)
tries_ill t slot readonly (attach.TooSmall size) h = sym (ap without_value (tried_small t slot readonly h.0 ∙ ap (λ (n : ℕ). Err (refusals.TooSmall n)) (sym h.1)))
tries_ill t slot readonly attach.WrongKey h = sym (ap without_value (tried_as t slot readonly None h.0 h.1))
tries_ill t slot readonly attach.NoMemory h = absurd h

-- no provider is attached, and the disk comes back
pub not_taken : {D : Type 0} (state : D → DiskState) (t : Trial) (slot : Option ℕ) (readonly : Bool) (given disk : D) (fault : AttachFault) (cabinet : CabinetState) (entropy : EntropyState) → IsTrial (state given).size slot t
    → answers.AttachAnswers (target t (state given)) (means t slot readonly) given (Err (disk, fault))
    → GoesOn Attaches (tried_in slot readonly t) (reach_of (state given) Idle cabinet entropy) (Err (attach_refusal fault)) (reach_of (state disk) Idle cabinet entropy)
not_taken {D = D} state t slot readonly given disk fault cabinet entropy is h =
    let old : Reach = reach_of (state given) Idle cabinet entropy in
    let back : reach_of (state disk) Idle cabinet entropy ≡ old = ap (λ (d : D). reach_of (state d) Idle cabinet entropy) h.0 in
    subst (λ (r : Reach). GoesOn Attaches (tried_in slot readonly t) old (Err (attach_refusal fault)) r) (sym back) (fails_as t slot readonly (state given) fault old is h.1)

-- with `-C` the provider isn't attached
pub only_tried : (given : Result Attachment Refusal) (answer : Result (Unit {0}) Refusal) (r : Reach) → answer ≡ without_value given → GoesOn (λ a. AttachesUnless true a) given r answer r
only_tried (Ok a) answer r is = (is, refl)
only_tried (Err refusal) answer r is = (is, refl)

-- there was no memory for the queue, and a key that doesn't fit is refused before
pub no_fit : (given : Result Attachment Refusal) (refusal : Refusal) (r : Reach) → Err refusal ≡ without_value given → GoesOn Attaches given r (Err refusal) r
no_fit (Ok a) refusal r fails = absurd (let no : ⊥ = cc fails in no)
no_fit (Err found) refusal r fails = let same : refusal ≡ found = cc fails in (ap (λ (x : Refusal). Err x) same, refl)
