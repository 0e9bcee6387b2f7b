-- The circuits of the S-boxes without their constants, at each byte: run once on numbers of 256 bits, bit x for the
-- byte x.
use Rattle.std.proofs.Common.{◌≡◌, ℕ, zero, suc, ◌+◌, ◌-◌, ◌%◌, ◌<◌, List, [], ◌∷◌, map, get_or, min, max, bit_xor, bit_and, bit_or, refl, sym, ap, ◌∙◌, arith, zero-add}
use Rattle.std.proofs.lemmas.List.{get_or-map}
use Rattle.std.proofs.lemmas.List.FromFn.{get_or-map-range_with_len}
use Rattle.std.proofs.lemmas.Nat.Bits.{bit_at-zero, bit_at-lt, bit_at_and, bit_at_or, bit_at_xor}
use Rattle.aes_core.proofs.Boxes.{agree_at, sbox_table, sbox_entry, inverse_sbox_table}
use Rattle.std.specs.List.{range_with_len}
use Rattle.aes_core.specs.Aes.{bit}
use Rattle.aes_planes.specs.Circuit.{Ops, Gate, run, outputs, sbox_gates, sbox_outputs, inverse_sbox_gates, inverse_sbox_outputs}
use Rattle.aes_planes.specs.Planes.{half}
use Rattle.aes_planes.specs.Blocks.{from_bits}
use Rattle.aes_planes.proofs.Hom.{IsHom, run-hom, outputs-hom}

-- the operations of gates on bits, and on numbers bit by bit
abbrev pub bit_ops : Ops ℕ
bit_ops = record { xor = bit_xor; and = bit_and; or = bit_or; none = 0 }

-- the bits of a byte, bit 7 first
abbrev pub bits_of : ℕ → List ℕ
bits_of x = map (λ i. bit x (7 - i)) (range_with_len 0 8)

zero_or_one : (x : ℕ) → x < 2 → (P : ℕ → Type 0) → P 0 → P 1 → P x
zero_or_one zero lt P a b = a
zero_or_one (suc zero) lt P a b = b
zero_or_one (suc (suc n)) lt P a b = absurd (omega arith)

pub xor_of_bits : (x y : ℕ) → x < 2 → y < 2 → (x + y) % 2 ≡ bit_xor x y
xor_of_bits x y lx ly =
    let P : ℕ → Type 0 = λ x. (x + y) % 2 ≡ bit_xor x y in
    let Q : ℕ → Type 0 = λ y. (0 + y) % 2 ≡ bit_xor 0 y in
    let R : ℕ → Type 0 = λ y. (1 + y) % 2 ≡ bit_xor 1 y in
    zero_or_one x lx P (zero_or_one y ly Q refl refl) (zero_or_one y ly R refl refl)

pub and_of_bits : (x y : ℕ) → x < 2 → y < 2 → min x y ≡ bit_and x y
and_of_bits x y lx ly =
    let P : ℕ → Type 0 = λ x. min x y ≡ bit_and x y in
    let Q : ℕ → Type 0 = λ y. min 0 y ≡ bit_and 0 y in
    let R : ℕ → Type 0 = λ y. min 1 y ≡ bit_and 1 y in
    zero_or_one x lx P (zero_or_one y ly Q refl refl) (zero_or_one y ly R refl refl)

pub or_of_bits : (x y : ℕ) → x < 2 → y < 2 → max x y ≡ bit_or x y
or_of_bits x y lx ly =
    let P : ℕ → Type 0 = λ x. max x y ≡ bit_or x y in
    let Q : ℕ → Type 0 = λ y. max 0 y ≡ bit_or 0 y in
    let R : ℕ → Type 0 = λ y. max 1 y ≡ bit_or 1 y in
    zero_or_one x lx P (zero_or_one y ly Q refl refl) (zero_or_one y ly R refl refl)

-- ---- from numbers to their bits

abbrev Anything : ℕ → Type 0
Anything w = Unit {0}

bit_hom : (x : ℕ) → IsHom bit_ops bit_ops (λ w. bit w x) Anything
bit_hom x = record {
  at_xor = λ a b pa pb. bit_at_xor a b x ∙ xor_of_bits _ _ (bit_at-lt a x) (bit_at-lt b x);
  at_and = λ a b pa pb. bit_at_and a b x ∙ and_of_bits _ _ (bit_at-lt a x) (bit_at-lt b x);
  at_or = λ a b pa pb. bit_at_or a b x ∙ or_of_bits _ _ (bit_at-lt a x) (bit_at-lt b x);
  at_none = bit_at-zero x;
  keeps_xor = λ a b pa pb. tt;
  keeps_and = λ a b pa pb. tt;
  keeps_or = λ a b pa pb. tt;
  keeps_none = tt;
}

pub agree_lists : (f g : ℕ → List ℕ) (n b : ℕ) → map f (range_with_len 0 n) ≡ map g (range_with_len 0 n) → b < n → f b ≡ g b
agree_lists f g n b same lt =
    sym (get_or-map-range_with_len f 0 n b b [] lt (zero-add b)) ∙ ap (λ (l : List (List ℕ)). get_or l b []) same
    ∙ get_or-map-range_with_len g 0 n b b [] lt (zero-add b)

-- ---- all bytes at once

-- bit x of number i is bit 7 - i of x
abbrev every_byte : List ℕ
every_byte =
    0xFFFFFFFFFFFFFFFFFFFFFFFFFFFFFFFF00000000000000000000000000000000 ∷
    0xFFFFFFFFFFFFFFFF0000000000000000FFFFFFFFFFFFFFFF0000000000000000 ∷
    0xFFFFFFFF00000000FFFFFFFF00000000FFFFFFFF00000000FFFFFFFF00000000 ∷
    0xFFFF0000FFFF0000FFFF0000FFFF0000FFFF0000FFFF0000FFFF0000FFFF0000 ∷
    0xFF00FF00FF00FF00FF00FF00FF00FF00FF00FF00FF00FF00FF00FF00FF00FF00 ∷
    0xF0F0F0F0F0F0F0F0F0F0F0F0F0F0F0F0F0F0F0F0F0F0F0F0F0F0F0F0F0F0F0F0 ∷
    0xCCCCCCCCCCCCCCCCCCCCCCCCCCCCCCCCCCCCCCCCCCCCCCCCCCCCCCCCCCCCCCCC ∷
    0xAAAAAAAAAAAAAAAAAAAAAAAAAAAAAAAAAAAAAAAAAAAAAAAAAAAAAAAAAAAAAAAA ∷ []

every_byte_is : map bits_of (range_with_len 0 256) ≡ map (λ x. map (λ w. bit w x) every_byte) (range_with_len 0 256)
every_byte_is = refl

-- a circuit at one byte, from its outputs on all
circuit_at : (gates : List Gate) (places outs : List ℕ) → outputs bit_ops places (run bit_ops gates every_byte) ≡ outs → (x : ℕ) → x < 256
    → outputs bit_ops places (run bit_ops gates (bits_of x)) ≡ map (λ w. bit w x) outs
circuit_at gates places outs whole x lt =
    let hom = bit_hom x in
    ap (λ (l : List ℕ). outputs bit_ops places (run bit_ops gates l)) (agree_lists bits_of (λ x. map (λ w. bit w x) every_byte) 256 x every_byte_is lt)
    ∙ ap (outputs bit_ops places) (sym (run-hom bit_ops bit_ops (λ w. bit w x) Anything hom gates every_byte (tt, (tt, (tt, (tt, (tt, (tt, (tt, (tt, tt))))))))).0)
    ∙ sym (outputs-hom bit_ops bit_ops (λ w. bit w x) Anything hom places (run bit_ops gates every_byte)) ∙ ap (map (λ w. bit w x)) whole

-- ---- the S-box

abbrev sbox_on_every_byte : List ℕ
sbox_on_every_byte =
    0x52379DE7B844E3E14CB3770196CA0329E7BAC28F866AAC825CAA2EC7BF977090 ∷
    0xDE1F47CCDAA6E87DC094346E4CF24AA61B7AE4C40C54DA9F67F5C33D3D024B00 ∷
    0xAB4DB7ECF4B0DA90827233B8F9CE61F7943D55B1F287855B07FBA08492672280 ∷
    0xF210A3AECE472E532624B286BC48ECB4F7F17A494CE30F58C2B0F97752B8B11E ∷
    0x4E9DDB76C892FB1BE9DA849CF6AC6C1B2568EA2EFFA8527D109020A2193D586A ∷
    0xAC39B6C0D6CE2EFC577D64E03B0C3FFB23A869A2A428C424A16387FB3B48B4C6 ∷
    0x378F68BF6B15275695BAF4D10CCB794B19E5B3A1687E90858451FF82B3AC0382 ∷
    0xB0E152C690DB85FBEF424DEF3FF9154A9754B405753485EC4EB12198F6939112 ∷ []

sbox_runs : outputs bit_ops sbox_outputs (run bit_ops sbox_gates every_byte) ≡ sbox_on_every_byte
sbox_runs = refl

-- the circuit agrees with the table of the S-box, which is proved entry by entry from the field equations
sbox_bits : map (λ x. map (λ w. bit w x) sbox_on_every_byte) (range_with_len 0 256) ≡ map (λ b. bits_of (bit_xor b 0x63)) sbox_table
sbox_bits = refl

pub sbox_circuit : (x : ℕ) → x < 256 → outputs bit_ops sbox_outputs (run bit_ops sbox_gates (bits_of x)) ≡ bits_of (half x)
sbox_circuit x lt =
    circuit_at sbox_gates sbox_outputs sbox_on_every_byte sbox_runs x lt
    ∙ sym (get_or-map-range_with_len (λ x. map (λ w. bit w x) sbox_on_every_byte) 0 256 x x [] lt (zero-add x))
    ∙ ap (λ (l : List (List ℕ)). get_or l x []) sbox_bits ∙ get_or-map (λ b. bits_of (bit_xor b 0x63)) sbox_table x 0 [] lt
    ∙ ap (λ (b : ℕ). bits_of (bit_xor b 0x63)) (sbox_entry x lt)

-- ---- the inverse S-box

abbrev inverse_on_every_byte : List ℕ
inverse_on_every_byte =
    0x2DDCEF345FC8A434F54168A608A0AEBCF4B5FB2162526AC2F0F03DA62E89CCEE ∷
    0x7D82B7F1F7ED0A2D562E31249D615C25F32C740BAD41FC4C0BDFCB4F18882E24 ∷
    0x5FE7F458913AAE451E4BA8135DD517FE286E5AF29AB748B580EC644F1644CC42 ∷
    0xE62ADC2EBD6E7487A3C61F1D92E9633248AA79D92C50421F2DB5BA3E424ACA6C ∷
    0xB54403B8ED2BF9D27BB3318E34852FC374EA1916C5CC5D1468FA836436E782D6 ∷
    0xF2FE6BE0518E2DA83D52B06CB27B01A1CD78296198251E9AFFC8EF9306673DC0 ∷
    0x3A893FD82DC7BF0A9322946901FDC6C256F57B4A4E15F9E58B10309A75F35832 ∷
    0x66F01AC744211CFDDDD7997DDD4CF62332F6FA25F5422334E5E0C000DF616922 ∷ []

inverse_runs : outputs bit_ops inverse_sbox_outputs (run bit_ops inverse_sbox_gates every_byte) ≡ inverse_on_every_byte
inverse_runs = refl

inverse_bits : map (λ x. from_bits (map (λ w. bit w x) inverse_on_every_byte)) (range_with_len 0 256) ≡ map (λ x. get_or inverse_sbox_table (bit_xor x 0x63) 0) (range_with_len 0 256)
inverse_bits = refl

pub inverse_sbox_circuit : (x : ℕ) → x < 256
    → from_bits (outputs bit_ops inverse_sbox_outputs (run bit_ops inverse_sbox_gates (bits_of x))) ≡ get_or inverse_sbox_table (bit_xor x 0x63) 0
inverse_sbox_circuit x lt =
    ap from_bits (circuit_at inverse_sbox_gates inverse_sbox_outputs inverse_on_every_byte inverse_runs x lt)
    ∙ agree_at (λ x. from_bits (map (λ w. bit w x) inverse_on_every_byte)) (λ x. get_or inverse_sbox_table (bit_xor x 0x63) 0) 256 x inverse_bits lt
