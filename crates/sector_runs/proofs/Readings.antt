-- What is read sector by sector.
use Rattle.std.proofs.Common.{◌≡◌, ℕ, zero, suc, ◌+◌, ◌*◌, ◌≤◌, List, [], ◌∷◌, ◌++◌, length, take, refl, sym, ap, ◌∙◌, arith, add-one, add-zero, append-nil, append_assoc, Option, Some, None, Result, Ok, Err, IfSome}
use Rattle.std.proofs.lemmas.Slice.{take-put_mid}
use borrow.Rule.Slice.PartMut.{put_mid}
use Rattle.block_traits.specs.Content.{Content, present}
use Rattle.block_traits.specs.Disk.{GivesFrom}
use Rattle.block_traits.specs.Parts.{parts}
use Rattle.eli_base.specs.Keying.{Keying}
use Rattle.sealing.specs.Sectors.{before, joined}
use Rattle.sector_runs.specs.Reading.{standing, StandFrom, sector_reading, sector_readings, ReadsFrom}
use Rattle.sector_runs.proofs.Cuts.{parts-put}

-- one device sector more
standing-suc : (c : Content) (n count : ℕ) → standing c n (suc count) ≡ standing c n count ++ present c (n + count) ∷ []
standing-suc c n zero = ap (λ (m : ℕ). present c m ∷ []) (sym (add-zero n))
standing-suc c n (suc count) =
    let at : n + 1 + count ≡ n + suc count = omega arith in
    ap (λ (l : List (List ℕ)). present c n ∷ l) (standing-suc c (n + 1) count
    ∙ ap (λ (m : ℕ). standing c (n + 1) count ++ present c m ∷ []) at)

pub StandFrom-next : (told : Option Content) (first j k : ℕ) (now ys : List ℕ) → StandFrom told first j (parts 512 j now) → GivesFrom told (first + j) ys
    → length ys ≡ 512 → 512 * j ≤ length now → StandFrom told first (j + 1) (parts 512 (j + 1) (put_mid (512 * j) k now ys))
StandFrom-next None first j k now ys so gives len room = tt
StandFrom-next (Some c) first j k now ys so gives len room =
    parts-put j k now ys len room ∙ (λ i. so i ++ gives i ∷ []) ∙ sym (standing-suc c first j) ∙ sym (ap (standing c first) (add-one j))

-- one logical sector more
sector_readings-suc : (k : Keying) (c : Content) (n count : ℕ) → sector_readings k c n (suc count) ≡ sector_readings k c n count ++ sector_reading k c (n + count) ∷ []
sector_readings-suc k c n zero = ap (λ (m : ℕ). sector_reading k c m ∷ []) (sym (add-zero n))
sector_readings-suc k c n (suc count) =
    let at : n + 1 + count ≡ n + suc count = omega arith in
    ap (λ (l : List (Result (List ℕ) ℕ)). sector_reading k c n ∷ l) (sector_readings-suc k c (n + 1) count
    ∙ ap (λ (m : ℕ). sector_readings k c (n + 1) count ++ sector_reading k c m ∷ []) at)

-- what follows the first bytes, if putting these in front of it gave bytes
pub before-ok : (front : List ℕ) (r : Result (List ℕ) ℕ) (all : List ℕ) → before front r ≡ Ok all → (rest : List ℕ) × (r ≡ Ok rest) × (front ++ rest ≡ all)
before-ok front (Ok rest) all h = (rest, refl, cc)
before-ok front (Err offset) all h = absurd cc

pub joined-push : (readings : List (Result (List ℕ) ℕ)) (all last : List ℕ) → joined readings ≡ Ok all → joined (readings ++ Ok last ∷ []) ≡ Ok (all ++ last)
joined-push [] all last h = let none : [] ≡ all = cc in ap Ok (append-nil last ∙ ap (λ (l : List ℕ). l ++ last) none)
joined-push (Ok front ∷ readings) all last h =
    let parts = before-ok front (joined readings) all h in
    ap (before front) (joined-push readings parts.0 last parts.1)
    ∙ ap Ok (sym (append_assoc front parts.0 last) ∙ ap (λ (l : List ℕ). l ++ last) parts.2)
joined-push (Err offset ∷ readings) all last h = absurd cc

pub ReadsFrom-next : (told : Option Content) (k : Keying) (sector i size width : ℕ) (now ys : List ℕ) → ReadsFrom told k sector i (Ok (take (i * size) now))
    → IfSome told (λ c. sector_reading k c (sector + i) ≡ Ok ys) → length ys ≡ size → i * size ≤ length now
    → ReadsFrom told k sector (i + 1) (Ok (take ((i + 1) * size) (put_mid (i * size) width now ys)))
ReadsFrom-next None k sector i size width now ys so gives len room = tt
ReadsFrom-next (Some c) k sector i size width now ys so gives len room =
    let at : (i + 1) * size ≡ i * size + length ys = omega arith in
    ap (λ (m : ℕ). joined (sector_readings k c sector m)) (add-one i)
    ∙ ap joined (sector_readings-suc k c sector i)
    ∙ ap (λ (r : Result (List ℕ) ℕ). joined (sector_readings k c sector i ++ r ∷ [])) gives
    ∙ joined-push (sector_readings k c sector i) (take (i * size) now) ys so
    ∙ ap Ok (sym (take-put_mid (i * size) width now ys ((i + 1) * size) at room))
