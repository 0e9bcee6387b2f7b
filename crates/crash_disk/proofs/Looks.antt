-- What a look puts, sector by sector.
use Rattle.std.proofs.Common.{◌≡◌, ℕ, ◌+◌, ◌*◌, ◌<◌, ◌≤◌, List, length, take, drop, inl, inr, sym, ap, ◌∙◌, subst, arith}
use Rattle.std.proofs.lemmas.Bool.{cases_lt}
use Rattle.std.proofs.lemmas.List.{drop-take, drop_at, length-take-le}
use Rattle.std.proofs.lemmas.Slice.{take-put_mid, take-put_mid_below}
use borrow.Rule.Slice.PartMut.{put_mid}
use Rattle.block_traits.specs.Content.{Content, present}
use Rattle.block_traits.specs.Parts.{part}

-- the first n of the sectors are there
abbrev pub Looked : Content → ℕ → ℕ → List ℕ → Type 0
Looked c first n bytes = (j : ℕ) → j < n → part 512 j bytes ≡ present c (first + j)

-- one more is put
pub Looked-next : (c : Content) (first n k : ℕ) (bytes sector : List ℕ) → Looked c first n bytes → sector ≡ present c (first + n) → length sector ≡ 512
    → 512 * n ≤ length bytes → Looked c first (n + 1) (put_mid (512 * n) k bytes sector)
Looked-next c first n k bytes sector so gives long room j below =
    let now : List ℕ = put_mid (512 * n) k bytes sector in
    elim (cases_lt j n) [
      | inl before ↦
          sym (drop-take (512 * j) 512 now)
          ∙ ap (drop (512 * j)) (take-put_mid_below (512 * n) k bytes sector (512 * j + 512) (omega (arith, before)) room)
          ∙ drop-take (512 * j) 512 bytes
          ∙ so j before
      | inr last ↦
          let same : n ≡ j = omega (arith, last, below) in
          let here : part 512 n now ≡ present c (first + n) =
          sym (drop-take (512 * n) 512 now)
          ∙ ap (drop (512 * n)) (take-put_mid (512 * n) k bytes sector (512 * n + 512) (omega (arith, long)) room)
          ∙ drop_at (take (512 * n) bytes) sector (512 * n) (length-take-le (512 * n) bytes room)
          ∙ gives in
          subst (λ (m : ℕ). part 512 m now ≡ present c (first + m)) same here
    ]
