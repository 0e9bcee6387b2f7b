-- The bits and the bytes of the two slots after a change of one.
use Rattle.std.proofs.Common.{◌≡◌, ◌≢◌, ℕ, zero, suc, ◌*◌, ◌-◌, ◌%◌, ◌^◌, ◌<◌, List, ◌++◌, length, take, drop, true, not, nat_eq, bit_and, bit_or, refl, sym, ap, ◌∙◌, arith, append_assoc, length-take}
use Rattle.std.proofs.lemmas.Nat.Bits.{and_pow, bit_at_set_same, bit_at_set_other, bit_at_clear_other}
use Rattle.std.specs.Int.{w8}
use Rattle.eli_metadata.specs.declared.metadata.Metadata.{Metadata}
use Rattle.key_slots.specs.Slots.{OpensAsBefore, SameSlot, deciphered_slot, slot_bytes, with_slot_bytes}
use Rattle.key_slots.proofs.Parts.{take_front, drop_front}

pub set_same : (keys s : ℕ) → s < 2 → not (nat_eq (bit_and (bit_or keys (1 * 2 ^ s % 256)) (2 ^ s)) 0) ≡ true
set_same keys zero lt =
    ap (λ (n : ℕ). not (nat_eq n 0)) (and_pow (bit_or keys 1) 0 ∙ ap (λ (b : ℕ). b * 1) (bit_at_set_same w8 keys 0 (omega arith)))
set_same keys (suc zero) lt =
    ap (λ (n : ℕ). not (nat_eq n 0)) (and_pow (bit_or keys 2) 1 ∙ ap (λ (b : ℕ). b * 2) (bit_at_set_same w8 keys 1 (omega arith)))
set_same keys (suc (suc s)) lt = absurd (omega arith)

pub set_other : (keys slot s : ℕ) → slot < 2 → s ≢ slot
    → not (nat_eq (bit_and (bit_or keys (1 * 2 ^ slot % 256)) (2 ^ s)) 0) ≡ not (nat_eq (bit_and keys (2 ^ s)) 0)
set_other keys slot s lt ne =
    ap (λ (n : ℕ). not (nat_eq n 0))
    (and_pow (bit_or keys (1 * 2 ^ slot % 256)) s ∙ ap (λ (b : ℕ). b * 2 ^ s) (bit_at_set_other w8 keys slot (omega arith) s ne) ∙ sym (and_pow keys s))

pub clear_other : (keys slot s : ℕ) → slot < 2 → s < 2 → s ≢ slot
    → not (nat_eq (bit_and (bit_and keys (255 - 1 * 2 ^ slot % 256)) (2 ^ s)) 0) ≡ not (nat_eq (bit_and keys (2 ^ s)) 0)
clear_other keys slot s lt ls ne =
    ap (λ (n : ℕ). not (nat_eq n 0))
    (and_pow (bit_and keys (255 - 1 * 2 ^ slot % 256)) s ∙ ap (λ (b : ℕ). b * 2 ^ s) (bit_at_clear_other w8 keys slot (omega arith) s (omega arith) ne) ∙ sym (and_pow keys s))

-- the slot that was changed has its new bytes
pub bytes_same : (mkeys bytes : List ℕ) (slot : ℕ) → length mkeys ≡ 384 → length bytes ≡ 192 → slot < 2
    → take 192 (drop (192 * slot) (with_slot_bytes mkeys slot bytes)) ≡ bytes
bytes_same mkeys bytes zero lm lb lt = take_front 192 bytes (drop 192 mkeys) lb
bytes_same mkeys bytes (suc zero) lm lb lt =
    ap (λ (l : List ℕ). take 192 (drop 192 l)) (append_assoc (take 192 mkeys) bytes (drop 384 mkeys))
    ∙ ap (take 192) (drop_front 192 (take 192 mkeys) (bytes ++ drop 384 mkeys) (omega (arith, length-take 192 mkeys)))
    ∙ take_front 192 bytes (drop 384 mkeys) lb
bytes_same mkeys bytes (suc (suc slot)) lm lb lt = absurd (omega arith)

-- the other slot has its old bytes
pub bytes_other : (mkeys bytes : List ℕ) (slot s : ℕ) → length mkeys ≡ 384 → length bytes ≡ 192 → slot < 2 → s < 2 → s ≢ slot
    → take 192 (drop (192 * s) (with_slot_bytes mkeys slot bytes)) ≡ take 192 (drop (192 * s) mkeys)
bytes_other mkeys bytes zero zero lm lb lt ls ne = absurd (ne refl)
bytes_other mkeys bytes zero (suc zero) lm lb lt ls ne = ap (take 192) (drop_front 192 bytes (drop 192 mkeys) lb)
bytes_other mkeys bytes (suc zero) zero lm lb lt ls ne =
    ap (take 192) (append_assoc (take 192 mkeys) bytes (drop 384 mkeys))
    ∙ take_front 192 (take 192 mkeys) (bytes ++ drop 384 mkeys) (omega (arith, length-take 192 mkeys))
bytes_other mkeys bytes (suc zero) (suc zero) lm lb lt ls ne = absurd (ne refl)
bytes_other mkeys bytes (suc (suc slot)) s lm lb lt ls ne = absurd (omega arith)
bytes_other mkeys bytes slot (suc (suc s)) lm lb lt ls ne = absurd (omega arith)

-- a slot with the same bytes and bit opens as before
pub OpensAsBefore-same : (old new : Metadata) (s : ℕ) → SameSlot old new s → new.keylen ≡ old.keylen → OpensAsBefore old new s
OpensAsBefore-same old new s same keylen u master =
    let text : deciphered_slot (slot_bytes new s) u new.keylen ≡ deciphered_slot (slot_bytes old s) u old.keylen =
    ap (λ (bytes : List ℕ). deciphered_slot bytes u new.keylen) same.bytes ∙ ap (deciphered_slot (slot_bytes old s) u) keylen in (
      λ held. record { set = same.set ∙ held.set; slot = record { text = text ∙ held.slot.text } },
      λ held. record { set = sym same.set ∙ held.set; slot = record { text = sym text ∙ held.slot.text } },
    )
