-- Units whose tags were checked.
use Rattle.std.proofs.Common.{◌≡◌, ◌⊎◌, inl, inr, ℕ, ◌+◌, ◌-◌, ◌*◌, ◌/◌, ◌%◌, ◌<◌, ◌≤◌, Bool, true, false, is_ok, List, [], length, get_or, set, take, drop, sym, ap, subst, ◌∙◌, arith, add-zero}
use Rattle.std.proofs.Math.Nat.{div-add-mod, eq-or-lt_of_le}
use Rattle.std.proofs.lemmas.Bool.{cases_lt}
use Rattle.std.proofs.lemmas.List.{drop-drop, get_or-set_other, get_or-set_same, take_all}
use Rattle.std.proofs.lemmas.Nat.{mod-mul-add}
use Rattle.eli_base.specs.Keying.{Keying}
use Rattle.range_keys.specs.Unit.{IsUnit}
use Rattle.sealing.specs.Sectors.{unit_reading_at, unit_size, unit_size_at, units}
use Rattle.sealing.specs.TaggedUnits.{opened_tagged}
use Rattle.sector_runs.specs.Verdicts.{Judges, accepted_among, verdict}
use Rattle.sector_runs.specs.declared.judged.Judged.{Judged}
use Rattle.sector_runs.proofs.FourSectors.{each_of_four}

-- the unit of a number among device sectors, by its place, its size and its bytes
pub judged_at : (k : Keying) (n m offset size : ℕ) (device from : List ℕ) → offset ≡ 512 * (n + m) → size ≡ unit_size_at k (n + m) → from ≡ take 512 (drop (512 * m) device)
    → is_ok (opened_tagged k offset size from) ≡ accepted_among k n device m
judged_at k n m offset size device from at sized is = λ i. is_ok (opened_tagged k (at i) (sized i) (is i))

-- the size of a unit, by its number on the device
pub unit_sized : (k : Keying) (sector j n start end : ℕ) → j < units k → IsUnit k.auth k.sectorsize j start end → n ≡ sector * units k + j → end - start ≡ unit_size_at k n
unit_sized k sector j n start end lt unit at = unit.bytes ∙ sym (ap (unit_size k) (ap (λ (x : ℕ). x % units k) at ∙ mod-mul-add sector (units k) j lt))

-- the unit of number j of the i-th of four logical sectors
pub judged_apart : (k : Keying) (n rows j i offset start end place room : ℕ) (device : List ℕ) → rows ≡ units k → n % units k ≡ 0 → j < units k → IsUnit k.auth k.sectorsize j start end
    → offset ≡ 512 * (n / rows * units k + j) + i * (512 * rows) → room ≡ 512 → place ≡ 512 * (i * rows + j)
    → is_ok (opened_tagged k offset (end - start) (take room (drop place device))) ≡ accepted_among k n device (i * rows + j)
judged_apart k n rows j i offset start end place room device count begins lt unit at wide where_is =
    let none : n % rows ≡ 0 = ap (λ (u : ℕ). n % u) count ∙ begins in
    let whole : n ≡ n / rows * rows = omega (arith, div-add-mod n rows, none) in
    let here : n / rows * units k ≡ n / rows * rows = ap (λ (u : ℕ). n / rows * u) (sym count) in
    let more : i * (512 * rows) ≡ 512 * (i * rows) = omega arith in
    let spread : (n / rows + i) * rows ≡ n / rows * rows + i * rows = omega arith in
    let number : n + (i * rows + j) ≡ (n / rows + i) * units k + j = (let flat : n + (i * rows + j) ≡ (n / rows + i) * rows + j = omega (arith, whole, spread) in flat ∙ ap (λ (u : ℕ). (n / rows + i) * u + j) count) in
    judged_at k n (i * rows + j) offset (end - start) device (take room (drop place device)) (omega (arith, at, here, whole, more)) (unit_sized k (n / rows + i) j (n + (i * rows + j)) start end lt unit number)
    (λ o. take (wide o) (drop (where_is o) device))

-- a table of verdicts, with one more row filled in
column_of : (J j : ℕ) (l : List (List Bool)) (x : List Bool) (P : ℕ → ℕ → Bool) → J < length l → ((j i : ℕ) → j < J → i < 4 → get_or (get_or l j []) i false ≡ P j i)
    → ((i : ℕ) → i < 4 → get_or x i false ≡ P J i) → (j ≡ J) ⊎ (j < J) → (i : ℕ) → i < 4 → get_or (get_or (set l J x) j []) i false ≡ P j i
column_of J j l x P room each new (inl same) i less =
    ap (λ (m : ℕ). get_or (get_or (set l J x) m []) i false) same ∙ ap (λ (r : List Bool). get_or r i false) (get_or-set_same l J x [] room) ∙ new i less ∙ ap (λ (m : ℕ). P m i) (sym same)
column_of J j l x P room each new (inr lt) i less =
    ap (λ (r : List Bool). get_or r i false) (get_or-set_other l J j x [] (λ e. omega (arith, e, lt))) ∙ each j i lt less

pub column_put : (J : ℕ) (l : List (List Bool)) (x : List Bool) (P : ℕ → ℕ → Bool) → J < length l → ((j i : ℕ) → j < J → i < 4 → get_or (get_or l j []) i false ≡ P j i)
    → ((i : ℕ) → i < 4 → get_or x i false ≡ P J i) → (j i : ℕ) → j < J + 1 → i < 4 → get_or (get_or (set l J x) j []) i false ≡ P j i
column_put J l x P room each new j i lt less =
    let most : j ≤ J = omega arith in column_of J j l x P room each new (eq-or-lt_of_le most) i less

-- the one unit of a single device sector
pub accepted_alone : (k : Keying) (n : ℕ) (sector : List ℕ) → length sector ≡ 512 → accepted_among k n sector 0 ≡ is_ok (unit_reading_at k n sector)
accepted_alone k n sector long = λ i. is_ok (unit_reading_at k (add-zero n i) (take_all 512 sector (omega (arith, long)) i))

-- ---- some units after others

pub accepted_behind : (k : Keying) (n done m : ℕ) (device : List ℕ) → accepted_among k (n + done) (drop (512 * done) device) m ≡ accepted_among k n device (done + m)
accepted_behind k n done m device =
    let number : n + done + m ≡ n + (done + m) = omega arith in
    let place : 512 * done + 512 * m ≡ 512 * (done + m) = omega arith in
    λ o. is_ok (unit_reading_at k (number o) (take 512 ((drop-drop (512 * m) (512 * done) device ∙ ap (λ (p : ℕ). drop p device) place) o)))

accepted_either : (k : Keying) (n done m i : ℕ) (device : List ℕ) (judged : Judged) → ((i : ℕ) → i < done → accepted_among k n device i ≡ true) → Judges k (n + done) (drop (512 * done) device) judged → m ≤ judged.count
    → ((i : ℕ) → i < m → verdict judged i ≡ true) → i < done + m → (i < done) ⊎ (done ≤ i) → accepted_among k n device i ≡ true
accepted_either k n done m i device judged before judges fits each lt (inl low) = before i low
accepted_either k n done m i device judged before judges fits each lt (inr high) =
    let at : done + (i - done) ≡ i = omega arith in
    let less : i - done < m = omega arith in
    ap (accepted_among k n device) (sym at) ∙ sym (accepted_behind k n done (i - done) device) ∙ sym (judges.each (i - done) (omega arith)) ∙ each (i - done) less

pub accepted_on : (k : Keying) (n done m : ℕ) (device : List ℕ) (judged : Judged) → ((i : ℕ) → i < done → accepted_among k n device i ≡ true) → Judges k (n + done) (drop (512 * done) device) judged → m ≤ judged.count
    → ((i : ℕ) → i < m → verdict judged i ≡ true) → (i : ℕ) → i < done + m → accepted_among k n device i ≡ true
accepted_on k n done m device judged before judges fits each i lt = accepted_either k n done m i device judged before judges fits each lt (cases_lt i done)

-- ---- groups

-- a group of one unit
pub judges_one : (k : Keying) (n : ℕ) (device : List ℕ) (judged : Judged) → judged.count ≡ 1 → 512 ≤ length device → verdict judged 0 ≡ accepted_among k n device 0 → Judges k n device judged
judges_one k n device judged one room so = record {
  some = omega (arith, one);
  within = omega (arith, one, room);
  each = λ m lt.
      let none : 0 ≡ m = omega (arith, one, lt) in subst (λ (x : ℕ). verdict judged x ≡ accepted_among k n device x) none so;
}

-- a group of four units
pub judges_four : (k : Keying) (n : ℕ) (device : List ℕ) (judged : Judged) → judged.count ≡ 4 → 2048 ≤ length device → verdict judged 0 ≡ accepted_among k n device 0 → verdict judged 1 ≡ accepted_among k n device 1
    → verdict judged 2 ≡ accepted_among k n device 2 → verdict judged 3 ≡ accepted_among k n device 3 → Judges k n device judged
judges_four k n device judged four room a b c d = record {
  some = omega (arith, four);
  within = omega (arith, four, room);
  each = λ m lt. each_of_four (λ (x : ℕ). verdict judged x ≡ accepted_among k n device x) a b c d m (omega (arith, four, lt));
}
