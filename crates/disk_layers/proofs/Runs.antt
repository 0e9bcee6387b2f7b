-- Runs of sectors that are written over two disks that are one.
use Rattle.std.proofs.Common.{◌≡◌, ℕ, zero, suc, min, inl, inr, subst, Result, Ok, Err, IsErr, OnOk, OnErr, true≢false, ◌+◌, ◌-◌, ◌*◌, ◌/◌, ◌≤◌, nat_lt, Bool, true, false, cond, List, [], ◌∷◌, ◌++◌, length, take, drop, refl, sym, ap, ◌∙◌, arith}
use Rattle.std.proofs.lemmas.Bool.{cases_lt, ltb-true, ltb-false}
use Rattle.std.proofs.lemmas.List.{drop-drop, drop-take, drop_all, length-drop, length-take-le}
use Rattle.block_traits.specs.declared.disk.DiskFailed.{DiskFailed}
use Rattle.block_traits.specs.declared.disk.Event.{Event}
use Rattle.block_traits.specs.declared.disk.Event.TheVariants.{Write}
use Rattle.block_traits.specs.Disk.{DiskState, write_events, writes_from}
use Rattle.block_traits.specs.Parts.{parts}
use Rattle.block_traits.proofs.PartLists.{length-parts}
use Rattle.disk_layers.specs.Concat.{BothDo, LogsOnly, FailsToDo, first_events, second_events}

-- ---- the sectors of each disk

module _ (size n : ℕ) (sector : List ℕ) (sectors : List (List ℕ)) where
  first-step : (inside : Bool) → nat_lt n size ≡ inside → first_events size (writes_from (n + 1) sectors) ≡ writes_from (n + 1) (take (size - (n + 1)) sectors)
      → cond inside (Write n sector ∷ first_events size (writes_from (n + 1) sectors)) (first_events size (writes_from (n + 1) sectors)) ≡ writes_from n (take (size - n) (sector ∷ sectors))
  first-step true is rest =
      let small = ltb-true n size is in
      let left : size - n ≡ suc (size - (n + 1)) = omega arith in
      ap (λ (events : List Event). Write n sector ∷ events) rest ∙ sym (ap (λ (m : ℕ). writes_from n (take m (sector ∷ sectors))) left)
  first-step false is rest =
      let behind = ltb-false n size is in
      let here : size - n ≡ 0 = omega arith in
      let next : size - (n + 1) ≡ 0 = omega arith in
      rest ∙ ap (λ (m : ℕ). writes_from (n + 1) (take m sectors)) next ∙ sym (ap (λ (m : ℕ). writes_from n (take m (sector ∷ sectors))) here)

  second-step : (inside : Bool) → nat_lt n size ≡ inside → second_events size (writes_from (n + 1) sectors) ≡ writes_from (n + 1 - size) (drop (size - (n + 1)) sectors)
      → cond inside (second_events size (writes_from (n + 1) sectors)) (Write (n - size) sector ∷ second_events size (writes_from (n + 1) sectors)) ≡ writes_from (n - size) (drop (size - n) (sector ∷ sectors))
  second-step true is rest =
      let small = ltb-true n size is in
      let left : size - n ≡ suc (size - (n + 1)) = omega arith in
      let at : n + 1 - size ≡ n - size = omega arith in
      rest ∙ (λ i. writes_from (at i) (drop (sym left i) (sector ∷ sectors)))
  second-step false is rest =
      let behind = ltb-false n size is in
      let here : size - n ≡ 0 = omega arith in
      let next : size - (n + 1) ≡ 0 = omega arith in
      let at : n + 1 - size ≡ n - size + 1 = omega arith in
      ap (λ (events : List Event). Write (n - size) sector ∷ events) (rest ∙ (λ i. writes_from (at i) (drop (next i) sectors)))
      ∙ sym (ap (λ (m : ℕ). writes_from (n - size) (drop m (sector ∷ sectors))) here)

take-none : (m : ℕ) → take {A = List ℕ} m [] ≡ []
take-none zero = refl
take-none (suc m) = refl

drop-none : (m : ℕ) → drop {A = List ℕ} m [] ≡ []
drop-none zero = refl
drop-none (suc m) = refl

first-writes : (size n : ℕ) (sectors : List (List ℕ)) → first_events size (writes_from n sectors) ≡ writes_from n (take (size - n) sectors)
first-writes size n [] = sym (ap (writes_from n) (take-none (size - n)))
first-writes size n (sector ∷ sectors) = first-step size n sector sectors (nat_lt n size) refl (first-writes size (n + 1) sectors)

second-writes : (size n : ℕ) (sectors : List (List ℕ)) → second_events size (writes_from n sectors) ≡ writes_from (n - size) (drop (size - n) sectors)
second-writes size n [] = sym (ap (writes_from (n - size)) (drop-none (size - n)))
second-writes size n (sector ∷ sectors) = second-step size n sector sectors (nat_lt n size) refl (second-writes size (n + 1) sectors)

-- ---- the bytes of these sectors

take-fewer : (n k : ℕ) (bytes : List ℕ) → n ≤ k → take n (take k bytes) ≡ take n bytes
take-fewer zero k bytes few = refl
take-fewer (suc n) zero bytes few = absurd (omega arith)
take-fewer (suc n) (suc k) [] few = refl
take-fewer (suc n) (suc k) (byte ∷ bytes) few = ap (λ (l : List ℕ). byte ∷ l) (take-fewer n k bytes (omega arith))

take-parts : (size k n : ℕ) (bytes : List ℕ) → k ≤ n → take k (parts size n bytes) ≡ parts size k (take (size * k) bytes)
take-parts size zero n bytes few = refl
take-parts size (suc k) zero bytes few = absurd (omega arith)
take-parts size (suc k) (suc n) bytes few =
    let more : size + size * k ≡ size * suc k = omega arith in
    let here : take size (take (size + size * k) bytes) ≡ take size bytes = take-fewer size (size + size * k) bytes (omega arith) in
    let behind : drop size (take (size + size * k) bytes) ≡ take (size * k) (drop size bytes) = drop-take size (size * k) bytes in
    ap (λ (l : List (List ℕ)). take size bytes ∷ l) (take-parts size k n (drop size bytes) (omega arith))
    ∙ (λ i. sym here i ∷ parts size k (sym behind i))
    ∙ ap (λ (m : ℕ). parts size (suc k) (take m bytes)) more

drop-parts : (size k n : ℕ) (bytes : List ℕ) → drop k (parts size n bytes) ≡ parts size (n - k) (drop (size * k) bytes)
drop-parts size zero n bytes =
    let none : 0 ≡ size * 0 = omega arith in
    let all : n ≡ n - 0 = omega arith in
    λ i. parts size (all i) (drop (none i) bytes)
drop-parts size (suc k) zero bytes =
    let none : 0 ≡ 0 - suc k = omega arith in
    ap (λ (m : ℕ). parts size m (drop (size * suc k) bytes)) none
drop-parts size (suc k) (suc n) bytes =
    let fewer : n - k ≡ suc n - suc k = omega arith in
    let more : size + size * k ≡ size * suc k = omega arith in
    drop-parts size k n (drop size bytes)
    ∙ ap (parts size (n - k)) (drop-drop (size * k) size bytes)
    ∙ (λ i. parts size (fewer i) (drop (more i) bytes))

-- ---- the bytes of a run, cut where the second disk begins

take-least : (m k : ℕ) (sectors : List (List ℕ)) → k ≡ min m (length sectors) → take m sectors ≡ take k sectors
take-least zero k sectors is = let none : 0 ≡ k = omega arith in ap (λ (n : ℕ). take n sectors) none
take-least (suc m) k [] is = let none : 0 ≡ k = omega arith in ap (λ (n : ℕ). take n []) none
take-least (suc m) zero (sector ∷ sectors) is = absurd (omega arith)
take-least (suc m) (suc k) (sector ∷ sectors) is = ap (λ (l : List (List ℕ)). sector ∷ l) (take-least m k sectors (omega arith))

drop-least : (m k : ℕ) (sectors : List (List ℕ)) → k ≡ min m (length sectors) → drop m sectors ≡ drop k sectors
drop-least zero k sectors is = let none : 0 ≡ k = omega arith in ap (λ (n : ℕ). drop n sectors) none
drop-least (suc m) k [] is = let none : 0 ≡ k = omega arith in ap (λ (n : ℕ). drop n []) none
drop-least (suc m) zero (sector ∷ sectors) is = absurd (omega arith)
drop-least (suc m) (suc k) (sector ∷ sectors) is = drop-least m k sectors (omega arith)

module _ (size n k : ℕ) (bytes : List ℕ) where
  first-run : k ≡ min (size - n) (length bytes / 512) → first_events size (write_events n bytes) ≡ write_events n (take (512 * k) bytes)
  first-run is =
      let count : ℕ = length bytes / 512 in
      let few : k ≤ count = omega arith in
      let many : length (take (512 * k) bytes) / 512 ≡ k = omega (arith, length-take-le (512 * k) bytes (omega arith)) in
      first-writes size n (parts 512 count bytes)
      ∙ ap (writes_from n) (take-least (size - n) k (parts 512 count bytes) (omega (arith, length-parts 512 count bytes)) ∙ take-parts 512 k count bytes few)
      ∙ sym (ap (λ (m : ℕ). writes_from n (parts 512 m (take (512 * k) bytes))) many)

  second-run : k ≡ min (size - n) (length bytes / 512) → second_events size (write_events n bytes) ≡ write_events (n - size) (drop (512 * k) bytes)
  second-run is =
      let count : ℕ = length bytes / 512 in
      let left : length (drop (512 * k) bytes) / 512 ≡ count - k = omega (arith, length-drop (512 * k) bytes) in
      second-writes size n (parts 512 count bytes)
      ∙ ap (writes_from (n - size)) (drop-least (size - n) k (parts 512 count bytes) (omega (arith, length-parts 512 count bytes)) ∙ drop-parts 512 k count bytes)
      ∙ sym (ap (λ (m : ℕ). writes_from (n - size) (parts 512 m (drop (512 * k) bytes))) left)

-- ---- both parts of a run

writes-split : (k n : ℕ) (sectors : List (List ℕ)) → writes_from n (take k sectors) ++ writes_from (n + k) (drop k sectors) ≡ writes_from n sectors
writes-split zero n sectors = let here : n + 0 ≡ n = omega arith in ap (λ (m : ℕ). writes_from m sectors) here
writes-split (suc k) n [] = refl
writes-split (suc k) n (sector ∷ sectors) =
    let next : n + suc k ≡ n + 1 + k = omega arith in
    ap (λ (l : List Event). Write n sector ∷ l) (ap (λ (m : ℕ). writes_from (n + 1) (take k sectors) ++ writes_from m (drop k sectors)) next ∙ writes-split k (n + 1) sectors)

-- where the second part begins, if there is one
second-number : (size n k : ℕ) (sectors : List (List ℕ)) → k ≡ min (size - n) (length sectors) → writes_from (n - size + size) (drop k sectors) ≡ writes_from (n + k) (drop k sectors)
second-number size n k sectors is = elim (cases_lt k (length sectors)) [
  | inl more ↦ let same : n - size + size ≡ n + k = omega arith in ap (λ (m : ℕ). writes_from m (drop k sectors)) same
  | inr all ↦ let none : drop k sectors ≡ [] = drop_all k sectors all in
      ap (writes_from (n - size + size)) none ∙ sym (ap (writes_from (n + k)) none)
]

pub run-split : (size n k : ℕ) (bytes : List ℕ) → k ≡ min (size - n) (length bytes / 512) → write_events n (take (512 * k) bytes) ++ write_events (n - size + size) (drop (512 * k) bytes) ≡ write_events n bytes
run-split size n k bytes is =
    let count : ℕ = length bytes / 512 in
    let sectors : List (List ℕ) = parts 512 count bytes in
    let few : k ≤ count = omega arith in
    let many : length (take (512 * k) bytes) / 512 ≡ k = omega (arith, length-take-le (512 * k) bytes (omega arith)) in
    let left : length (drop (512 * k) bytes) / 512 ≡ count - k = omega (arith, length-drop (512 * k) bytes) in
    let front : write_events n (take (512 * k) bytes) ≡ writes_from n (take k sectors) =
    ap (λ (m : ℕ). writes_from n (parts 512 m (take (512 * k) bytes))) many ∙ ap (writes_from n) (sym (take-parts 512 k count bytes few)) in
    let back : write_events (n - size + size) (drop (512 * k) bytes) ≡ writes_from (n - size + size) (drop k sectors) =
    ap (λ (m : ℕ). writes_from (n - size + size) (parts 512 m (drop (512 * k) bytes))) left ∙ ap (writes_from (n - size + size)) (sym (drop-parts 512 k count bytes)) in
    let place : k ≡ min (size - n) (length sectors) = omega (arith, length-parts 512 count bytes) in
    (λ i. front i ++ back i) ∙ ap (λ (l : List Event). writes_from n (take k sectors) ++ l) (second-number size n k sectors place) ∙ writes-split k n sectors

-- the same, by the bytes and numbers of both parts
pub run-parts : (size n m k : ℕ) (bytes front back : List ℕ) → k ≡ min (size - n) (length bytes / 512) → m ≡ n - size → front ≡ take (512 * k) bytes → back ≡ drop (512 * k) bytes
    → write_events n front ++ write_events (m + size) back ≡ write_events n bytes
run-parts size n m k bytes front back is at one other = (λ i. write_events n (one i) ++ write_events (at i + size) (other i)) ∙ run-split size n k bytes is

-- ---- what was done, by what each of the two did

module _ {A B : Type 0} (a : A → DiskState) (b : B → DiskState) (size n k : ℕ) (bytes : List ℕ) (old new : A) (old_second new_second : B) where
  first-did : size ≡ (a old).size → k ≡ min (size - n) (length bytes / 512) → LogsOnly a (write_events n (take (512 * k) bytes)) old new → LogsOnly a (first_events (a old).size (write_events n bytes)) old new
  first-did same is did = subst (λ (m : ℕ). LogsOnly a (first_events m (write_events n bytes)) old new) same (subst (λ (events : List Event). LogsOnly a events old new) (sym (first-run size n k bytes is)) did)

  pub first-failed : (result : Result (Unit {0}) DiskFailed) → IsErr result → size ≡ (a old).size → k ≡ min (size - n) (length bytes / 512) → FailsToDo a (write_events n (take (512 * k) bytes)) old new
      → new_second ≡ old_second → BothDo a b (write_events n bytes) old new old_second new_second result
  first-failed (Ok done) is_err same is failed beside = absurd (true≢false (sym is_err))
  first-failed (Err fault) is_err same is failed beside =
      inl (subst (λ (m : ℕ). FailsToDo a (first_events m (write_events n bytes)) old new) same (subst (λ (events : List Event). FailsToDo a events old new) (sym (first-run size n k bytes is)) failed), beside)

  pub second-answered : (result : Result (Unit {0}) DiskFailed) → size ≡ (a old).size → k ≡ min (size - n) (length bytes / 512) → LogsOnly a (write_events n (take (512 * k) bytes)) old new
      → OnOk result (LogsOnly b (write_events (n - size) (drop (512 * k) bytes)) old_second new_second) → OnErr result (FailsToDo b (write_events (n - size) (drop (512 * k) bytes)) old_second new_second)
      → BothDo a b (write_events n bytes) old new old_second new_second result
  second-answered (Ok done) same is first ok err =
      (first-did same is first, subst (λ (m : ℕ). LogsOnly b (second_events m (write_events n bytes)) old_second new_second) same (subst (λ (events : List Event). LogsOnly b events old_second new_second) (sym (second-run size n k bytes is)) ok))
  second-answered (Err fault) same is first ok err =
      inr (first-did same is first, subst (λ (m : ℕ). FailsToDo b (second_events m (write_events n bytes)) old_second new_second) same (subst (λ (events : List Event). FailsToDo b events old_second new_second) (sym (second-run size n k bytes is)) err))
