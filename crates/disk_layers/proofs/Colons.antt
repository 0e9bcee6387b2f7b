-- Names with a colon between two others.
use Rattle.std.proofs.Common.{◌≡◌, ◌≢◌, ℕ, ◌+◌, ◌<◌, ◌≤◌, ◌==◌, Bool, true, false, cond, List, [], ◌∷◌, ◌++◌, length, take, drop, Some, None, refl, sym, ap, ◌∙◌, subst, arith, All, codes, length-append, append_assoc}
use Rattle.std.specs.List.{position_from}
use Rattle.std.specs.Cmp.Lexicographic.{pointwise, same_text}
use Rattle.std.specs.Prelude.{nat_eq}
use Rattle.std.proofs.lemmas.Bool.{eqb-true}
use Rattle.std.proofs.lemmas.List.{take-append-drop}
use Rattle.std.proofs.lemmas.List.Elements.{All-nil, All-cons, All-head, All-tail}
use Rattle.disk_layers.specs.declared.layer.Layer.TheVariants.{Join, Plain}
use Rattle.disk_layers.specs.Names.{IsJoin}

-- a byte that isn't a colon
abbrev IsOther : ℕ → Type 0
IsOther byte = byte ≢ 58

abbrev is_colon : ℕ → Bool
is_colon byte = byte == 58

-- the first colon of some bytes stands between these
record SplitAt (i at : ℕ) (bytes : List ℕ) : Type 0 where
  first : List ℕ
  second : List ℕ
  is : bytes ≡ first ++ 58 ∷ second
  alone : All IsOther first
  place : at ≡ i + length first

split_more : (b : Bool) (i at byte : ℕ) (bytes : List ℕ) → (byte == 58) ≡ b → (position_from is_colon (i + 1) bytes ≡ Some at → SplitAt (i + 1) at bytes)
    → cond b (Some i) (position_from is_colon (i + 1) bytes) ≡ Some at → SplitAt i at (byte ∷ bytes)
split_more true i at byte bytes here rest found =
    let at_i : i ≡ at = cc found in
    record {
      first = [];
      second = bytes;
      is = ap (λ (x : ℕ). x ∷ bytes) (eqb-true byte 58 here);
      alone = All-nil IsOther;
      place = omega arith;
    }
split_more false i at byte bytes other rest found =
    let split = rest found in
    let place = split.place in
    record {
      first = byte ∷ split.first;
      second = split.second;
      is = ap (λ (l : List ℕ). byte ∷ l) split.is;
      alone = All-cons IsOther byte split.first (λ e. let same : (58 == 58) ≡ false = subst (λ (x : ℕ). (x == 58) ≡ false) e other in cc same) split.alone;
      place = omega arith;
    }

split : (i at : ℕ) (bytes : List ℕ) → position_from is_colon i bytes ≡ Some at → SplitAt i at bytes
split i at [] found = absurd (cc found)
split i at (byte ∷ bytes) found = split_more (byte == 58) i at byte bytes refl (split (i + 1) at bytes) found

-- the first colon stands after bytes that are none
not_colon : (b : Bool) (byte : ℕ) → (byte == 58) ≡ b → IsOther byte → b ≡ false
not_colon true byte here other = absurd (other (eqb-true byte 58 here))
not_colon false byte here other = refl

position_behind : (i : ℕ) (first second : List ℕ) → All IsOther first → position_from is_colon i (first ++ 58 ∷ second) ≡ Some (i + length first)
position_behind i [] second others = let at : i ≡ i + 0 = omega arith in ap Some at
position_behind i (byte ∷ first) second others =
    let at : i + 1 + length first ≡ i + length (byte ∷ first) = omega arith in
    ap (λ (b : Bool). cond b (Some i) (position_from is_colon (i + 1) (first ++ 58 ∷ second))) (not_colon (byte == 58) byte refl (All-head IsOther byte first others))
    ∙ position_behind (i + 1) first second (All-tail IsOther byte first others)
    ∙ ap Some at

-- a name that begins with `join:`
begins : (name rest : List ℕ) → pointwise nat_eq (take 5 name) (codes "join:") ≡ true → rest ≡ drop 5 name → name ≡ codes "join:" ++ rest
begins name rest same is = sym (take-append-drop 5 name) ∙ (λ i. same_text (take 5 name) (codes "join:") (sym same) i ++ sym is i)

is_join : (name rest : List ℕ) (at middle : ℕ) → pointwise nat_eq (take 5 name) (codes "join:") ≡ true → rest ≡ drop 5 name → position_from is_colon 0 rest ≡ Some at
    → 0 < at → at + 1 < length rest → middle ≡ 5 + at → IsJoin middle name
is_join name rest at middle same is found some more place =
    let parts = split 0 at rest found in
    let long = ap length parts.is in
    let at_is = parts.place in
    record {
      first = parts.first;
      second = parts.second;
      is = begins name rest same is ∙ ap (λ (l : List ℕ). codes "join:" ++ l) parts.is ∙ sym (append_assoc (codes "join:") parts.first (58 ∷ parts.second));
      some = omega arith;
      more = omega (arith, length-append parts.first (58 ∷ parts.second));
      alone = parts.alone;
      place = omega arith;
    }

-- what a name with a join has after its front
pub record IsRest (rest : List ℕ) (middle : ℕ) : Type 0 where
  pub at : ℕ
  pub found : position_from is_colon 0 rest ≡ Some at
  pub place : middle ≡ 5 + at
  pub some : 0 < at
  pub more : at + 1 < length rest

pub drop_front : (first second : List ℕ) → drop 5 (codes "join:" ++ first ++ 58 ∷ second) ≡ first ++ 58 ∷ second
drop_front first second = refl

rest_of : (name rest : List ℕ) (middle : ℕ) → rest ≡ drop 5 name → IsJoin middle name → IsRest rest middle
rest_of name rest middle is join =
    let none : 0 + length join.first ≡ length join.first = omega arith in
    let split = is ∙ ap (drop 5) join.is ∙ drop_front join.first join.second in
    let long = ap length split in
    let some = join.some in
    let more = join.more in
    record {
      at = length join.first;
      found = ap (position_from is_colon 0) split ∙ position_behind 0 join.first join.second join.alone ∙ ap Some none;
      place = join.place;
      some = join.some;
      more = omega (arith, length-append join.first (58 ∷ join.second));
    }

-- ---- what the three outcomes say

pub joins : (name rest : List ℕ) (at middle : ℕ) → pointwise nat_eq (take 5 name) (codes "join:") ≡ true → rest ≡ drop 5 name → Some at ≡ position_from is_colon 0 rest
    → 0 < at → at + 1 < length rest → ((Join (5 + at) ≡ Join middle) → IsJoin middle name) × (IsJoin middle name → Join (5 + at) ≡ Join middle)
joins name rest at middle same is found some more = (
  (λ e. let place : 5 + at ≡ middle = cc e in is_join name rest at middle same is (sym found) some more (sym place)),
  (λ join.
      let r = rest_of name rest middle is join in
      let there : Some at ≡ Some r.at = found ∙ r.found in
      let same_at : at ≡ r.at = cc there in
      let place = r.place in
      let e : 5 + at ≡ middle = omega arith in
      ap Join e),
)

pub no_join-short : (name rest : List ℕ) (at middle : ℕ) → rest ≡ drop 5 name → Some at ≡ position_from is_colon 0 rest → (0 < at → length rest ≤ at + 1) → IsJoin middle name → ⊥
no_join-short name rest at middle is found short join =
    let r = rest_of name rest middle is join in
    let there : Some at ≡ Some r.at = found ∙ r.found in
    let same_at : at ≡ r.at = cc there in
    let some = r.some in
    let more = r.more in
    let here : 0 < at = omega arith in
    let end = short here in
    omega arith

pub no_join-none : (name rest : List ℕ) (middle : ℕ) → rest ≡ drop 5 name → None ≡ position_from is_colon 0 rest → IsJoin middle name → ⊥
no_join-none name rest middle is found join =
    let r = rest_of name rest middle is join in
    let there : None ≡ Some r.at = found ∙ r.found in
    cc there

-- a name that asks for nothing
pub plain : {name : List ℕ} {middle : ℕ} → (IsJoin middle name → ⊥) → ((Plain ≡ Join middle) → IsJoin middle name) × (IsJoin middle name → Plain ≡ Join middle)
plain none = ((λ e. absurd (cc e)), (λ join. absurd (none join)))
