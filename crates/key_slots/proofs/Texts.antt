-- A text of a slot, and the master key in it.
use Rattle.std.proofs.Common.{◌≡◌, ℕ, ◌+◌, List, [], ◌∷◌, ◌++◌, length, take, drop, Bool, true, false, Option, Some, None, unwrap_or, if◌then◌else◌, refl, sym, ap, ◌∙◌, arith, length-append, take-append-drop}
use Rattle.std.proofs.lemmas.Slice.Eq.{bytes_eq-Decides}
use Rattle.eli_base.specs.declared.parameters.MasterKey.{MasterKey}
use Rattle.hmac_kdf.specs.Hmac.{hmac512}
use Rattle.hmac_kdf.proofs.Lengths.{length-hmac512}
use Rattle.key_slots.specs.Slots.{check_code, slot_text, has_code, master_in}
use Rattle.key_slots.proofs.Parts.{take_front, drop_front}

abbrev master_if : Bool → List ℕ → Option MasterKey
master_if b text = if b then Some (record { bytes = take 128 text }) else None

-- a text that is a master key and its code has that master key in it
pub master_of_text : (u text master : List ℕ) → length text ≡ 192 → text ≡ slot_text u master → master_in u text ≡ Some (record { bytes = master })
master_of_text u text master len e =
    let code_long = length-hmac512 (hmac512 u (0x00 ∷ [])) master in
    let sum : length text ≡ length master + length (check_code u master) = ap length e ∙ length-append master (check_code u master) in
    let long : length master ≡ 128 = omega arith in
    let front : take 128 text ≡ master = ap (take 128) e ∙ take_front 128 master (check_code u master) long in
    let back : drop 128 text ≡ check_code u master = ap (drop 128) e ∙ drop_front 128 master (check_code u master) long in
    let right : has_code u text ≡ true = (bytes_eq-Decides (drop 128 text) (check_code u (take 128 text))).1 (back ∙ ap (check_code u) (sym front)) in
    ap (λ (b : Bool). master_if b text) right ∙ ap (λ (m : List ℕ). Some (record { bytes = m })) front

text_by_test : (b : Bool) (u text master : List ℕ) → (b ≡ true → drop 128 text ≡ check_code u (take 128 text))
    → master_if b text ≡ Some (record { bytes = master }) → text ≡ slot_text u master
text_by_test true u text master right e =
    let same : take 128 text ≡ master = ap (λ (o : Option MasterKey). (unwrap_or o (record { bytes = [] })).bytes) e in
    sym (take-append-drop 128 text) ∙ ap (λ (d : List ℕ). take 128 text ++ d) (right refl) ∙ ap (slot_text u) same
text_by_test false u text master right e = cc

-- a text that has a master key in it is that master key and its code
pub text_of_master : (u text master : List ℕ) → master_in u text ≡ Some (record { bytes = master }) → text ≡ slot_text u master
text_of_master u text master e =
    text_by_test (has_code u text) u text master (bytes_eq-Decides (drop 128 text) (check_code u (take 128 text))).0 e
