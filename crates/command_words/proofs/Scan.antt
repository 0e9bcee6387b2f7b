-- The first separator, as a search of bytes finds it.
use Rattle.std.proofs.Common.{◌≡◌, ℕ, Bool, true, false, List, length, get_or, None, Some, refl, arith}
use Rattle.std.specs.List.{position_or_len}
use Rattle.std.proofs.lemmas.List.Sums.{position_or_len_is}
use Rattle.memchr.specs.Find.{IsFirstByte}

not_true : (b : Bool) → (b ≡ true → ⊥) → b ≡ false
not_true true never = absurd (never refl)
not_true false never = refl

pub found_at : (test : ℕ → Bool) (bytes : List ℕ) (k : ℕ) → IsFirstByte test bytes (Some k) → position_or_len test bytes ≡ k
found_at test bytes k h =
    let first = h.0 in
    let high = first.high in
    position_or_len_is test bytes k 0 (omega (arith, high))
    (λ j lt. not_true (test (get_or bytes j 0)) (λ yes. first.before j (omega arith) lt yes))
    (λ lt. h.1)

pub found_nowhere : (test : ℕ → Bool) (bytes : List ℕ) → IsFirstByte test bytes None → position_or_len test bytes ≡ length bytes
found_nowhere test bytes h =
    position_or_len_is test bytes (length bytes) 0 (omega arith)
    (λ j lt. not_true (test (get_or bytes j 0)) (λ yes. h j (omega arith) lt yes))
    (λ lt. absurd (omega (arith, lt)))
