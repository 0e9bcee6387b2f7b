-- What is logged logical sector by logical sector.
use Rattle.std.proofs.Common.{◌≡◌, ℕ, suc, ◌+◌, ◌-◌, ◌*◌, ◌/◌, ◌≤◌, List, [], ◌∷◌, ◌++◌, length, take, drop, subst, sym, ap, ◌∙◌, arith}
use Rattle.std.proofs.lemmas.List.{drop-drop, take-append-drop}
use Rattle.block_traits.specs.declared.disk.Event.{Event}
use Rattle.block_traits.specs.declared.disk.Event.TheVariants.{Write}
use Rattle.block_traits.specs.Disk.{Continues, DiskState, writes_from}
use Rattle.eli_base.specs.Keying.{Keying}
use Rattle.sector_runs.specs.Writing.{data_writes}
use Rattle.sector_runs.proofs.Adjoining.{data_writes-more}
use Rattle.sector_runs.proofs.Batches.{IsBatch, batch_count, batch_length}

pub writes_from-append : (n : ℕ) (xs ys : List (List ℕ)) → writes_from n (xs ++ ys) ≡ writes_from n xs ++ writes_from (n + length xs) ys
writes_from-append n [] ys = let at : n ≡ n + 0 = omega arith in ap (λ (m : ℕ). writes_from m ys) at
writes_from-append n (x ∷ xs) ys =
    let at : n + 1 + length xs ≡ n + suc (length xs) = omega arith in
    ap (λ (l : List Event). Write n x ∷ l) (writes_from-append (n + 1) xs ys ∙ ap (λ (m : ℕ). writes_from (n + 1) xs ++ writes_from m ys) at)

-- ---- sectors that are written in batches

-- the writes of the logical sectors from the i-th of so many on
pub run_writes : Keying → ℕ → ℕ → ℕ → List ℕ → ℕ → List Event
run_writes k sector count size bytes i = data_writes k (sector + i) (count - i) (drop (i * size) bytes)

pub run_writes-start : (k : Keying) (sector count size : ℕ) (bytes : List ℕ) → run_writes k sector count size bytes 0 ≡ data_writes k sector count bytes
unfolding run_writes
run_writes-start k sector count size bytes =
    let at : sector + 0 ≡ sector = omega arith in
    let left : count - 0 ≡ count = omega arith in
    let none : 0 * size ≡ 0 = omega arith in
    λ i. data_writes k (at i) (left i) (drop (none i) bytes)

-- the writes of a batch, and those of the logical sectors after it
run_writes-some : {k now : Keying} {size count many wide i : ℕ} {bytes : List ℕ} (sector : ℕ) → IsBatch k now size count many wide i bytes → run_writes k sector count size bytes i
    ≡ data_writes now (sector + i) (length (take wide (drop (i * size) bytes)) / now.sectorsize) (take wide (drop (i * size) bytes)) ++ run_writes k sector count size bytes (i + many)
unfolding run_writes
run_writes-some {k} {now} {size} {count} {many} {wide} {i} {bytes} sector batch =
    let here : List ℕ = drop (i * size) bytes in
    let front : List ℕ = take wide here in
    let left : count - i ≡ many + (count - (i + many)) = omega (arith, batch.within) in
    let at : sector + i + many ≡ sector + (i + many) = omega arith in
    let place : i * size + wide ≡ (i + many) * size = omega (arith, batch.broad) in
    let behind : drop wide here ≡ drop ((i + many) * size) bytes = drop-drop wide (i * size) bytes ∙ ap (λ (m : ℕ). drop m bytes) place in
    let sized : length front ≡ many * k.sectorsize = batch_length batch ∙ ap (λ (s : ℕ). many * s) batch.same in
    (λ j. data_writes k (sector + i) (left j) (sym (take-append-drop wide here) j))
    ∙ data_writes-more k (sector + i) many (count - (i + many)) front (drop wide here) sized
    ∙ (λ j. data_writes (sym batch.kept j) (sector + i) (sym (batch_count batch) j) front ++ data_writes k (at j) (count - (i + many)) (behind j))

-- what is left to be logged at a batch begins with its writes
pub batch_continues : {k now : Keying} {size count many wide i : ℕ} {bytes : List ℕ} {all : List Event} {middle start : DiskState} (sector : ℕ) → IsBatch k now size count many wide i bytes
    → Continues (run_writes k sector count size bytes i) all middle start
    → Continues (data_writes now (sector + i) (length (take wide (drop (i * size) bytes)) / now.sectorsize) (take wide (drop (i * size) bytes)) ++ run_writes k sector count size bytes (i + many)) all middle start
batch_continues {all = all} {middle = middle} {start = start} sector batch = subst (λ (events : List Event). Continues events all middle start) (run_writes-some sector batch)

pub run_writes-end : (k : Keying) (sector count size : ℕ) (bytes : List ℕ) (i : ℕ) → count ≤ i → run_writes k sector count size bytes i ≡ []
unfolding run_writes
run_writes-end k sector count size bytes i none =
    let left : count - i ≡ 0 = omega arith in
    ap (λ (m : ℕ). data_writes k (sector + i) m (drop (i * size) bytes)) left
