-- Sectors that are written one after another.
use Rattle.std.proofs.Common.{◌≡◌, ℕ, suc, ◌+◌, ◌-◌, ◌*◌, ◌/◌, ◌<◌, ◌≤◌, List, [], ◌∷◌, length, drop, Result, Ok, Err, refl, sym, ap, ◌∙◌, subst, arith, inl, inr}
use Rattle.std.proofs.lemmas.List.{drop-drop}
use Rattle.block_traits.specs.Parts.{part, parts}
use Rattle.block_traits.specs.declared.disk.DiskFailed.{DiskFailed}
use Rattle.block_traits.specs.EachWritten.{EachWritten}

-- the sectors that are left after the first j of them
pub sectors_left : List ℕ → ℕ → List (List ℕ)
sectors_left bytes j = parts 512 (length bytes / 512 - j) (drop (512 * j) bytes)

sectors_left-start : (bytes : List ℕ) → sectors_left bytes 0 ≡ parts 512 (length bytes / 512) bytes
unfolding sectors_left
sectors_left-start bytes =
    let count : ℕ = length bytes / 512 in
    let left : count - 0 ≡ count = omega arith in
    λ i. parts 512 (left i) bytes

sectors_left-next : (bytes sector : List ℕ) (j : ℕ) → j < length bytes / 512 → sector ≡ part 512 j bytes → sectors_left bytes j ≡ sector ∷ sectors_left bytes (j + 1)
unfolding sectors_left
sectors_left-next bytes sector j more is =
    let count : ℕ = length bytes / 512 in
    let left : count - j ≡ suc (count - (j + 1)) = omega arith in
    let place : 512 * j + 512 ≡ 512 * (j + 1) = omega arith in
    let behind : drop 512 (drop (512 * j) bytes) ≡ drop (512 * (j + 1)) bytes = drop-drop 512 (512 * j) bytes ∙ ap (λ (m : ℕ). drop m bytes) place in
    ap (λ (m : ℕ). parts 512 m (drop (512 * j) bytes)) left
    ∙ (λ i. sym is i ∷ parts 512 (count - (j + 1)) (behind i))

sectors_left-end : (bytes : List ℕ) (j : ℕ) → length bytes / 512 ≤ j → sectors_left bytes j ≡ []
unfolding sectors_left
sectors_left-end bytes j none =
    let left : length bytes / 512 - j ≡ 0 = omega arith in
    ap (λ (m : ℕ). parts 512 m (drop (512 * j) bytes)) left

module _ {S : Type 0} (Writes : ℕ → List ℕ → S → S → Result (Unit {0}) DiskFailed → Type 0) (first : ℕ) (bytes : List ℕ) where
  -- what is left, done from here, is all of it done from the start
  pub record Goes (j : ℕ) (here start : S) : Type 0 where
    pub on : (new : S) (result : Result (Unit {0}) DiskFailed) → EachWritten Writes (first + j) (sectors_left bytes j) here new result
        → EachWritten Writes first (parts 512 (length bytes / 512) bytes) start new result

  pub Goes-start : (start : S) → Goes 0 start start
  Goes-start start = record {
    on = λ new result each.
        let at : first + 0 ≡ first = omega arith in
        let P : ℕ → Type 0 = λ n. EachWritten Writes n (sectors_left bytes 0) start new result in
        let Q : List (List ℕ) → Type 0 = λ sectors. EachWritten Writes first sectors start new result in
        subst Q (sectors_left-start bytes) (subst P at each);
  }

  -- one more sector was written
  pub Goes-next : (j : ℕ) (sector : List ℕ) (start here next : S) → j < length bytes / 512 → sector ≡ part 512 j bytes → Goes j here start → Writes (first + j) sector here next (Ok tt)
      → Goes (j + 1) next start
  Goes-next j sector start here next more is goes one = record {
    on = λ new result each.
        let at : first + (j + 1) ≡ first + j + 1 = omega arith in
        let P : ℕ → Type 0 = λ n. EachWritten Writes n (sectors_left bytes (j + 1)) next new result in
        let Q : List (List ℕ) → Type 0 = λ sectors. EachWritten Writes (first + j) sectors here new result in
        goes.on new result (subst Q (sym (sectors_left-next bytes sector j more is)) (inl (next, one, subst P at each)));
  }

  -- the next one failed
  pub Goes-fail : (j : ℕ) (sector : List ℕ) (start here new : S) (failed : DiskFailed) → j < length bytes / 512 → sector ≡ part 512 j bytes → Goes j here start
      → Writes (first + j) sector here new (Err failed) → EachWritten Writes first (parts 512 (length bytes / 512) bytes) start new (Err failed)
  Goes-fail j sector start here new failed more is goes one =
      let Q : List (List ℕ) → Type 0 = λ sectors. EachWritten Writes (first + j) sectors here new (Err failed) in
      goes.on new (Err failed) (subst Q (sym (sectors_left-next bytes sector j more is)) (inr (tt, one)))

  -- all were written
  pub Goes-end : (j : ℕ) (start here : S) → length bytes / 512 ≤ j → Goes j here start → EachWritten Writes first (parts 512 (length bytes / 512) bytes) start here (Ok tt)
  Goes-end j start here none goes =
      let Q : List (List ℕ) → Type 0 = λ sectors. EachWritten Writes (first + j) sectors here here (Ok tt) in
      goes.on here (Ok tt) (subst Q (sym (sectors_left-end bytes j none)) (refl, refl))
