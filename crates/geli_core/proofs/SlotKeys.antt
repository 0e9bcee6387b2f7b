-- The master key that a key opens, by the slot that gives it.
use Rattle.std.proofs.Common.{◌≡◌, ◌∙◌, ℕ, ◌==◌, List, ◌++◌, take, drop, refl, ap, sym, Bool, true, false, cond, Option, None, Some, Result, Ok, Err}
use Rattle.std.specs.Option.{option_or}
use Rattle.std.proofs.lemmas.List.{take-append-drop}
use Rattle.std.proofs.lemmas.Slice.Eq.{bytes_eq-Decides}
use Rattle.command_rows.specs.Rows.{Attachment, attachment_by, or_wrong_key, tried}
use Rattle.command_rows.specs.Vocabulary.{KeyFault, MasterKey, Metadata, Refusal, Settings, UserKey, is_set, media_sectors, opened}
use Rattle.eli_base.specs.declared.refusals.Refusal.TheVariants as refusals
use Rattle.key_slots.specs.Slots.{Opens, check_code, deciphered_slot, has_code, master_in, numbered, slot_bytes, slot_text, unwrapped}

-- ---- a slot

same_text : (u text : List ℕ) (right : Bool) (k : MasterKey) → has_code u text ≡ right → cond right (Some (record { bytes = take 128 text })) None ≡ Some k → text ≡ slot_text u k.bytes
same_text u text true k right h =
    let front : MasterKey = record { bytes = take 128 text } in
    let same : front ≡ k = cc h in
    let code : drop 128 text ≡ check_code u (take 128 text) = (bytes_eq-Decides (drop 128 text) (check_code u (take 128 text))).0 right in
    sym (take-append-drop 128 text) ∙ ap (λ (l : List ℕ). take 128 text ++ l) code ∙ ap (λ (x : MasterKey). slot_text u x.bytes) same
same_text u text false k right h = absurd (let none : ⊥ = cc h in none)

opens_set : (m : Metadata) (u : List ℕ) (s : ℕ) (set : Bool) (k : MasterKey) → is_set m s ≡ set → cond set (master_in u (deciphered_slot (slot_bytes m s) u m.keylen)) None ≡ Some k → Opens m u s k.bytes
opens_set m u s true k is h = record { set = is; slot = record { text = same_text u (deciphered_slot (slot_bytes m s) u m.keylen) _ k refl h } }
opens_set m u s false k is h = absurd (let none : ⊥ = cc h in none)

opens_so : (m : Metadata) (u : List ℕ) (s : ℕ) (k : MasterKey) → unwrapped m u s ≡ Some k → Opens m u s k.bytes
opens_so m u s k h = opens_set m u s (is_set m s) k refl h

-- ---- the first that opens

numbered_so : (m : Metadata) (u : List ℕ) (s : ℕ) (answer : Option MasterKey) (found : MasterKey × ℕ) → unwrapped m u s ≡ answer → numbered answer s ≡ Some found → Opens m u found.1 found.0.bytes
numbered_so m u s None found is h = absurd (let none : ⊥ = cc h in none)
numbered_so m u s (Some k) found is h = rw (← (let pair : MasterKey × ℕ = (k, s) in let same : pair ≡ found = cc h in same)) (opens_so m u s k is)

either_opens : (m : Metadata) (u : List ℕ) (one : Option MasterKey) (found : MasterKey × ℕ) → unwrapped m u 0 ≡ one → option_or (numbered one 0) (numbered (unwrapped m u 1) 1) ≡ Some found → Opens m u found.1 found.0.bytes
either_opens m u None found is h = numbered_so m u 1 (unwrapped m u 1) found refl h
either_opens m u (Some k) found is h = numbered_so m u 0 (Some k) found is h

any_opens : (m : Metadata) (u : List ℕ) (found : MasterKey × ℕ) → opened m u None ≡ Some found → Opens m u found.1 found.0.bytes
any_opens m u found h = either_opens m u (unwrapped m u 0) found refl h

-- ---- a key that was tried on any slot

-- what was derived opens a slot to this master key
pub record OpensBy (m : Metadata) (derived : Result UserKey KeyFault) (a : Attachment) : Type 0 where
  pub key : UserKey
  pub is : derived ≡ Ok key
  pub opens : Opens m key.bytes a.slot a.keying.master

right_opens : (m : Metadata) (s : Settings) (readonly : Bool) (key : UserKey) (found : Option (MasterKey × ℕ)) (a : Attachment) → opened m key.bytes None ≡ found → or_wrong_key s readonly found ≡ Ok a → Opens m key.bytes a.slot a.keying.master
right_opens m s readonly key None a is h = absurd (let none : ⊥ = cc h in none)
right_opens m s readonly key (Some found) a is h =
    let by : Attachment = attachment_by s readonly found in
    let same : by ≡ a = cc h in
    rw (← same) (any_opens m key.bytes found is)

roomy_opens : (m : Metadata) (s : Settings) (readonly : Bool) (key : UserKey) (small : Bool) (refusal : Refusal) (a : Attachment) → cond small (Err refusal) (or_wrong_key s readonly (opened m key.bytes None)) ≡ Ok a → Opens m key.bytes a.slot a.keying.master
roomy_opens m s readonly key true refusal a h = absurd (let none : ⊥ = cc h in none)
roomy_opens m s readonly key false refusal a h = right_opens m s readonly key (opened m key.bytes None) a refl h

pub tried_opens : (m : Metadata) (s : Settings) (readonly : Bool) (derived : Result UserKey KeyFault) (a : Attachment) → tried m s None readonly derived ≡ Ok a → OpensBy m derived a
tried_opens m s readonly (Err fault) a h = absurd (let none : ⊥ = cc h in none)
tried_opens m s readonly (Ok key) a h = record { key = key; is = refl; opens = roomy_opens m s readonly key (media_sectors s.auth s.sectorsize s.provsize == 0) (refusals.TooSmall s.provsize) a h }
