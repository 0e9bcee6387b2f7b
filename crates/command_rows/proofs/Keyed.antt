-- A key that is tried gives a keying that a provider may have.
use Rattle.std.proofs.Common.{◌≡◌, ◌∙◌, ◌⊎◌, inl, inr, ℕ, ◌^◌, ◌≤◌, ◌%◌, ◌==◌, List, [], ◌∷◌, refl, sym, subst, arith, Bool, true, false, cond, Option, None, Some, Result, Ok, Err, ◌||◌, IfOk}
use Rattle.std.specs.List.{AllByRecursion, list_any}
use Rattle.std.proofs.lemmas.Bool.{eqb-true}
use Rattle.eli_base.specs.Algorithms.{allows_length}
use Rattle.eli_base.specs.SectorSize.{is_sector_size}
use Rattle.eli_metadata.proofs.Supported.{said}
use Rattle.command_rows.specs.Rows.{Attachment, GoesOn, Reach, TryRow, admitted, attachment_by, or_refusal, or_wrong_key, settings_for_size, tried, unless_faulty}
use Rattle.command_rows.specs.Vocabulary.{IsKeying, KeyFault, KeyWords, MasterKey, MetaFault, Metadata, Refusal, Settings, UserKey, opened, refusal_of, size_matches, slot_matches, supported, user_key}
use Rattle.command_rows.proofs.Causing.{Step}

-- ---- the keying of metadata that are checked

Sized : ℕ → Type 0
Sized size = (512 ≤ size) × (size ≤ 65536) × (size % 512 ≡ 0)

either : (a b : Bool) → (a || b) ≡ true → (a ≡ true) ⊎ (b ≡ true)
either true b h = inl refl
either false b h = inr h

sized_among : (size : ℕ) (ks : List ℕ) → AllByRecursion (λ k. Sized (2 ^ k)) ks → list_any (λ k. size == 2 ^ k) ks ≡ true → Sized size
sized_among size [] all h = absurd (let no : ⊥ = cc h in no)
sized_among size (k ∷ ks) all h =
    elim (either (size == 2 ^ k) (list_any (λ n. size == 2 ^ n) ks) h) [
      | inl here ↦ subst Sized (sym (eqb-true size (2 ^ k) here)) all.0
      | inr more ↦ sized_among size ks all.1 more
    ]

sized : (size : ℕ) → is_sector_size size ≡ true → Sized size
unfolding Sized
sized size h =
    sized_among size (9 ∷ 10 ∷ 11 ∷ 12 ∷ 13 ∷ 14 ∷ 15 ∷ 16 ∷ [])
    ((omega arith, omega arith, refl), ((omega arith, omega arith, refl), ((omega arith, omega arith, refl), ((omega arith, omega arith, refl), ((omega arith, omega arith, refl), ((omega arith, omega arith, refl), ((omega arith, omega arith, refl), ((omega arith, omega arith, refl), tt)))))))) h

-- settings with which a provider may have a keying
record GivesKeying (s : Settings) : Type 0 where
  allowed : allows_length s.cipher s.keylen ≡ true
  sized : is_sector_size s.sectorsize ≡ true

checked : (m : Metadata) (s : Settings) → supported m ≡ Ok s → GivesKeying s
checked m s h = let is = said m s h in record { allowed = is.allowed; sized = is.sized }

keyed : (s : Settings) (readonly : Bool) (found : MasterKey × ℕ) → GivesKeying s → IsKeying (attachment_by s readonly found).keying
unfolding Sized
keyed s readonly found g =
    let fits = sized s.sectorsize g.sized in
    record { allowed = g.allowed; sized = g.sized; at_least = fits.0; at_most = fits.1; whole = fits.2 }

-- ---- a key that is tried

pub GivesAttachment : Result Attachment Refusal → Type 0
GivesAttachment answer = IfOk answer (λ a. IsKeying a.keying)

found_keyed : (s : Settings) (readonly : Bool) (found : Option (MasterKey × ℕ)) → GivesKeying s → GivesAttachment (or_wrong_key s readonly found)
unfolding GivesAttachment
found_keyed s readonly None g = tt
found_keyed s readonly (Some found) g = keyed s readonly found g

roomy_keyed : (s : Settings) (readonly : Bool) (found : Option (MasterKey × ℕ)) (none : Bool) (refusal : Refusal) → GivesKeying s → GivesAttachment (cond none (Err refusal) (or_wrong_key s readonly found))
unfolding GivesAttachment
roomy_keyed s readonly found true refusal g = tt
roomy_keyed s readonly found false refusal g = found_keyed s readonly found g

tried_keyed : (m : Metadata) (s : Settings) (slot : Option ℕ) (readonly : Bool) (key : Result UserKey KeyFault) → GivesKeying s → GivesAttachment (tried m s slot readonly key)
unfolding GivesAttachment
tried_keyed m s slot readonly (Err fault) g = tt
tried_keyed m s slot readonly (Ok key) g = roomy_keyed s readonly (opened m key.bytes slot) _ _ g

unless_keyed : (found : Result Settings MetaFault) (check : Result (Unit {0}) MetaFault) (s : Settings) → ((t : Settings) → found ≡ Ok t → GivesKeying t) → unless_faulty found check ≡ Ok s → GivesKeying s
unless_keyed (Ok t) (Ok done) s g h = let is : t ≡ s = cc h in subst GivesKeying is (g t refl)
unless_keyed (Ok t) (Err fault) s g h = absurd (let no : ⊥ = cc h in no)
unless_keyed (Err fault) check s g h = absurd (let no : ⊥ = cc h in no)

accepted : (r : Result Settings MetaFault) (s : Settings) → or_refusal refusal_of r ≡ Ok s → r ≡ Ok s
accepted (Ok t) s h = cc h
accepted (Err fault) s h = absurd (let no : ⊥ = cc h in no)

admitted_keyed : (m : Metadata) (sectors : ℕ) (named : Option ℕ) (s : Settings) → admitted m sectors named ≡ Ok s → GivesKeying s
admitted_keyed m sectors named s h =
    unless_keyed (settings_for_size m sectors) (slot_matches m named) s (λ t. unless_keyed (supported m) (size_matches m sectors) t (checked m)) (accepted _ s h)

gives_next : {A : Type 0} (Next : A → Step Attachment) (given : Result A Refusal) (middle : Reach) (answer : Result Attachment Refusal) (new : Reach) → ((a : A) → given ≡ Ok a → Next a middle answer new → GivesAttachment answer)
    → GoesOn Next given middle answer new → GivesAttachment answer
unfolding GivesAttachment
gives_next Next (Ok a) middle answer new gives h = gives a refl h
gives_next Next (Err refusal) middle answer new gives h = rw h.0 tt

pub try_gives : (line : List ℕ) (slot : Option ℕ) (readonly : Bool) (words : KeyWords) (old : Reach) (answer : Result Attachment Refusal) (new : Reach) → TryRow line slot readonly words old answer new → GivesAttachment answer
try_gives line slot readonly words old answer new h =
    gives_next _ h.given h.middle answer new
    (λ m is next.
    gives_next _ next.given next.middle answer new
    (λ s was then.
    let g = admitted_keyed m h.middle.disk.size slot s (sym next.first.0 ∙ was) in
    gives_next _ then.given then.middle answer new
    (λ parts loaded last. subst GivesAttachment (sym last.0) (tried_keyed m s slot readonly (user_key parts m.salt m.iterations) g))
    then.next)
    next.next)
    h.next

pub attachment_keyed : (a : Attachment) → GivesAttachment (Ok a) → IsKeying a.keying
unfolding GivesAttachment
attachment_keyed a h = h
