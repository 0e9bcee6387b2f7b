-- Whole sectors that are written one after the other.
use Rattle.std.proofs.Common.{◌≡◌, ℕ, suc, ◌+◌, ◌-◌, ◌*◌, ◌/◌, ◌<◌, ◌≤◌, List, [], ◌∷◌, length, drop, sym, ap, ◌∙◌, arith}
use Rattle.std.proofs.lemmas.List.{drop-drop}
use Rattle.block_traits.specs.declared.disk.Event.{Event}
use Rattle.block_traits.specs.declared.disk.Event.TheVariants.{Write}
use Rattle.block_traits.specs.Disk.{write_events, writes_from}
use Rattle.block_traits.specs.Parts.{part, parts}

-- the writes that are left after the first j of them
pub writes_left : ℕ → List ℕ → ℕ → List Event
writes_left first bytes j = writes_from (first + j) (parts 512 (length bytes / 512 - j) (drop (512 * j) bytes))

pub writes_left-start : (first : ℕ) (bytes : List ℕ) → writes_left first bytes 0 ≡ write_events first bytes
unfolding writes_left
writes_left-start first bytes =
    let count : ℕ = length bytes / 512 in
    let at : first + 0 ≡ first = omega arith in
    let left : count - 0 ≡ count = omega arith in
    λ i. writes_from (at i) (parts 512 (left i) bytes)

pub writes_left-next : (first : ℕ) (bytes sector : List ℕ) (j : ℕ) → j < length bytes / 512 → sector ≡ part 512 j bytes
    → writes_left first bytes j ≡ Write (first + j) sector ∷ writes_left first bytes (j + 1)
unfolding writes_left
writes_left-next first bytes sector j more is =
    let count : ℕ = length bytes / 512 in
    let left : count - j ≡ suc (count - (j + 1)) = omega arith in
    let at : first + j + 1 ≡ first + (j + 1) = omega arith in
    let place : 512 * j + 512 ≡ 512 * (j + 1) = omega arith in
    let behind : drop 512 (drop (512 * j) bytes) ≡ drop (512 * (j + 1)) bytes = drop-drop 512 (512 * j) bytes ∙ ap (λ (m : ℕ). drop m bytes) place in
    ap (λ (m : ℕ). writes_from (first + j) (parts 512 m (drop (512 * j) bytes))) left
    ∙ (λ i. Write (first + j) (sym is i) ∷ writes_from (at i) (parts 512 (count - (j + 1)) (behind i)))

pub writes_left-end : (first : ℕ) (bytes : List ℕ) (j : ℕ) → length bytes / 512 ≤ j → writes_left first bytes j ≡ []
unfolding writes_left
writes_left-end first bytes j none =
    let left : length bytes / 512 - j ≡ 0 = omega arith in
    ap (λ (m : ℕ). writes_from (first + j) (parts 512 m (drop (512 * j) bytes))) left
