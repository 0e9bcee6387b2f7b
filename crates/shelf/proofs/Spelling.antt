-- The digits of a write spell bytes.
use Rattle.std.proofs.Common.{◌≡◌, ℕ, List, [], ◌∷◌, length, refl, arith, Bool, true, false, ◌==◌, ◌%◌, IsTrue, nat_le, ◌&&◌}
use Rattle.std.specs.Char.{is_ascii_hexdigit}
use Rattle.std.proofs.lemmas.Bool.Decides.{nat_tests}
use Rattle.std.proofs.lemmas.List.Sums.{AllPass-from_list_all}
use Rattle.std.specs.List.{list_all}
use Rattle.command_rows.specs.Rows.{SpellsBytes}
use Rattle.hex.specs.Hex.{is_hex_digit}
use Rattle.hex.proofs.HexLemmas.{decode_of-digits}
use Rattle.word_values.specs.Values.{is_hexadecimal}

and_true : (a b : Bool) → (a && b) ≡ true → (a ≡ true) × (b ≡ true)
and_true true b h = (refl, h)
and_true false b h = absurd (let no : ⊥ = cc in no)

both_true : (a b : Bool) → a ≡ true → b ≡ true → (a && b) ≡ true
both_true true b p q = q
both_true false b p q = p

same_digit : (c : ℕ) → is_ascii_hexdigit c ≡ true → is_hex_digit c ≡ true
same_digit c h = grind (arith, nat_tests)

same_digits : (digits : List ℕ) → list_all is_ascii_hexdigit digits ≡ true → list_all is_hex_digit digits ≡ true
same_digits [] h = refl
same_digits (c ∷ digits) h =
    let p = and_true (is_ascii_hexdigit c) (list_all is_ascii_hexdigit digits) h in
    both_true (is_hex_digit c) (list_all is_hex_digit digits) (same_digit c p.0) (same_digits digits p.1)

pub spelled : (digits : List ℕ) → IsTrue (is_hexadecimal digits) → SpellsBytes digits
spelled digits h =
    let a : Bool = nat_le 2 (length digits) in
    let b : Bool = nat_le (length digits) 262144 in
    let c : Bool = (length digits % 2 == 0) in
    let one = and_true (a && b && c) (list_all is_ascii_hexdigit digits) h in
    let two = and_true (a && b) c one.0 in
    let three = and_true a b two.0 in
    let test : c ≡ true = two.1 in
    let small : b ≡ true = three.1 in
    let even : length digits % 2 ≡ 0 = grind (arith, nat_tests) in
    let found = decode_of-digits digits even (AllPass-from_list_all is_hex_digit digits (same_digits digits one.1)) in
    record { spells = rw found.1 refl; bound = grind (arith, nat_tests) }
