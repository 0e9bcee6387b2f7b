-- Numbers of eight bytes, one after another, and a line for each.
use Rattle.std.proofs.Common.{◌≡◌, ℕ, zero, suc, ◌+◌, ◌*◌, ◌^◌, ◌<◌, ◌≤◌, List, [], ◌∷◌, ◌++◌, length, take, drop, map, get_or, refl, sym, ap, ◌∙◌, arith}
use Rattle.std.proofs.lemmas.List.{drop-drop, take_all}
use Rattle.std.proofs.lemmas.Nat.{from_le_bytes-to_le_bytes_8}
use Rattle.std.specs.Int.{from_le_bytes, to_le_bytes, w64}
use Rattle.std.specs.List.{concat}
use Rattle.reply_text.specs.Text.{bad_line, bad_lines, numbers_in}
use Rattle.text_page.proofs.Printing.{concat-more, concat-split}

-- as many numbers as were asked for
pub length-numbers_in : (count : ℕ) (bytes : List ℕ) → length (numbers_in count bytes) ≡ count
unfolding numbers_in
length-numbers_in zero bytes = refl
length-numbers_in (suc count) bytes = ap suc (length-numbers_in count (drop 8 bytes))

-- a number that was put in front is read back
pub numbers_in-next : (count n : ℕ) (bytes : List ℕ) → n < 2 ^ 64 → numbers_in (suc count) (to_le_bytes w64 n ++ bytes) ≡ n ∷ numbers_in count bytes
unfolding numbers_in
numbers_in-next count n bytes small = ap (λ (m : ℕ). m ∷ numbers_in count bytes) (from_le_bytes-to_le_bytes_8 n small)

get_or-numbers_in : (count i : ℕ) (bytes : List ℕ) → i < count → get_or (numbers_in count bytes) i 0 ≡ from_le_bytes w64 (take 8 (drop (8 * i) bytes))
unfolding numbers_in
get_or-numbers_in zero i bytes lt = absurd (omega arith)
get_or-numbers_in (suc count) zero bytes lt = refl
get_or-numbers_in (suc count) (suc i) bytes lt =
    let place : 8 + 8 * i ≡ 8 * suc i = omega arith in
    get_or-numbers_in count i (drop 8 bytes) (omega arith)
    ∙ ap (λ (l : List ℕ). from_le_bytes w64 (take 8 l)) (drop-drop (8 * i) 8 bytes ∙ ap (λ (m : ℕ). drop m bytes) place)

pub no_lines : (count : ℕ) (bytes : List ℕ) → bad_lines (take 0 (numbers_in count bytes)) ≡ []
unfolding bad_lines
no_lines count bytes = refl

-- one line more
pub next_line : (count i : ℕ) (bytes : List ℕ) (offset : ℕ) → i < count → offset ≡ from_le_bytes w64 (take 8 (drop (8 * i) bytes))
    → bad_lines (take (i + 1) (numbers_in count bytes)) ≡ bad_lines (take i (numbers_in count bytes)) ++ bad_line offset
unfolding bad_lines
next_line count i bytes offset lt is =
    let all = length-numbers_in count bytes in
    concat-more bad_line (numbers_in count bytes) i 0 (omega (arith, all))
    ∙ ap (λ (n : ℕ). concat (map bad_line (take i (numbers_in count bytes))) ++ bad_line n) (get_or-numbers_in count i bytes lt ∙ sym is)

-- the first lines, and those after them
pub lines_behind : (count i : ℕ) (bytes : List ℕ) → bad_lines (numbers_in count bytes) ≡ bad_lines (take i (numbers_in count bytes)) ++ bad_lines (drop i (numbers_in count bytes))
unfolding bad_lines
lines_behind count i bytes = concat-split bad_line (numbers_in count bytes) i

pub all_lines : (count i : ℕ) (bytes : List ℕ) → count ≤ i → bad_lines (take i (numbers_in count bytes)) ≡ bad_lines (numbers_in count bytes)
all_lines count i bytes all =
    let long = length-numbers_in count bytes in
    ap bad_lines (take_all i (numbers_in count bytes) (omega (arith, long)))
