-- Where names may be cut: before and after a colon.
use Rattle.std.proofs.Common.{◌≡◌, ℕ, suc, ◌+◌, ◌-◌, ◌<◌, ◌≤◌, List, ◌∷◌, ◌++◌, length, take, drop, get_or, codes, refl, ap, ◌∙◌, arith, length-append}
use Rattle.std.specs.Str.{IsCharBoundary, IsUtf8}
use Rattle.std.proofs.lemmas.Str.{IsCharBoundary-after_ascii, IsCharBoundary-before_ascii}
use Rattle.std.proofs.Math.Seq.{get_or-append_seam, take-append_seam, drop-append-add}
use Rattle.disk_layers.specs.Names.{IsBehind, IsJoin}
use Rattle.disk_layers.proofs.Colons.{drop_front}

behind_long : (rest : List ℕ) → 0 < length rest → 7 < length (codes "behind:" ++ rest)
behind_long rest more = let front : length (codes "behind:") ≡ 7 = refl in omega (arith, length-append (codes "behind:") rest)

behind_colon : (rest : List ℕ) → get_or (codes "behind:" ++ rest) 6 0 ≡ 58
behind_colon rest = refl

pub cut_behind : (name : List ℕ) → IsUtf8 name → IsBehind name → IsCharBoundary name 7
cut_behind name utf8 behind =
    let long = behind_long behind.rest behind.more in
    let same = ap length behind.is in
    let colon : get_or name 6 0 ≡ 58 = ap (λ (l : List ℕ). get_or l 6 0) behind.is ∙ behind_colon behind.rest in
    IsCharBoundary-after_ascii name 6 utf8 (omega arith) (omega arith)

length-front : (first : List ℕ) → length (codes "join:" ++ first) ≡ 5 + length first
length-front first = let five : length (codes "join:") ≡ 5 = refl in length-append (codes "join:") first ∙ ap (λ (n : ℕ). n + length first) five

pub record IsCut (name : List ℕ) (middle : ℕ) : Type 0 where
  pub order : 5 ≤ middle
  pub within : middle + 1 ≤ length name
  pub start : IsCharBoundary name 5
  pub end : IsCharBoundary name middle
  pub behind : IsCharBoundary name (middle + 1)

join_colon : (first second : List ℕ) → get_or (codes "join:" ++ first ++ 58 ∷ second) 4 0 ≡ 58
join_colon first second = refl

pub cut_join : (name : List ℕ) (middle : ℕ) → IsUtf8 name → IsJoin middle name → IsCut name middle
cut_join name middle utf8 join =
    let long = length-front join.first in
    let place = join.place in
    let whole : length name ≡ length (codes "join:" ++ join.first) + length (58 ∷ join.second) = ap length join.is ∙ length-append (codes "join:" ++ join.first) (58 ∷ join.second) in
    let tail : length (58 ∷ join.second) ≡ suc (length join.second) = refl in
    let early : get_or name 4 0 ≡ 58 = ap (λ (l : List ℕ). get_or l 4 0) join.is ∙ join_colon join.first join.second in
    let at : middle ≡ length (codes "join:" ++ join.first) = omega arith in
    let colon : get_or name middle 0 ≡ 58 =
    ap (λ (l : List ℕ). get_or l middle 0) join.is ∙ ap (λ (n : ℕ). get_or (codes "join:" ++ join.first ++ 58 ∷ join.second) n 0) at
    ∙ get_or-append_seam (codes "join:" ++ join.first) 58 join.second 0 in
    record {
      order = omega arith;
      within = omega arith;
      start = IsCharBoundary-after_ascii name 4 utf8 (omega arith) (omega arith);
      end = IsCharBoundary-before_ascii name middle (omega arith) (omega arith);
      behind = IsCharBoundary-after_ascii name middle utf8 (omega arith) (omega arith);
    }

-- what stands between the cuts
pub first_is : (name : List ℕ) (middle : ℕ) → (join : IsJoin middle name) → take (middle - 5) (drop 5 name) ≡ join.first
first_is name middle join =
    let place = join.place in
    let count : middle - 5 ≡ length join.first = omega arith in
    (λ i. take (count i) ((ap (drop 5) join.is ∙ drop_front join.first join.second) i)) ∙ take-append_seam join.first (58 ∷ join.second)

pub second_is : (name : List ℕ) (middle : ℕ) → (join : IsJoin middle name) → drop (middle + 1) name ≡ join.second
second_is name middle join =
    let long = length-front join.first in
    let place = join.place in
    let at : middle + 1 ≡ length (codes "join:" ++ join.first) + 1 = omega arith in
    (λ i. drop (at i) (join.is i)) ∙ drop-append-add (codes "join:" ++ join.first) (58 ∷ join.second) 1
