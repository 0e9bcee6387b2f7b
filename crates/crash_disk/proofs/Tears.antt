-- The image that the torn entries leave of another.
use Rattle.std.proofs.Common.{◌≡◌, ℕ, ◌+◌, ◌<◌, ◌==◌, ◌||◌, ◌⊎◌, List, [], ◌∷◌, ◌++◌, length, take, get_or, set, refl, ap, ◌∙◌, sym, subst, arith, length-set, cond, true, false, Bool, inl, inr, eq-eqb, Contains}
use Rattle.std.proofs.lemmas.List.{get_or-set_same, get_or-set_other, get_or_default, take_more}
use Rattle.std.proofs.lemmas.List.Elements.{All-set}
use Rattle.std.proofs.lemmas.Bool.{cond-true, cond-false, cases_eq, ne_eqb}
use Rattle.std.proofs.lemmas.Option.{get_or_from_slice_get}
use Rattle.block_traits.specs.Content.{Content, IsSector, kept_values}
use Rattle.block_traits.specs.Crash.{IsImage, IsTorn, IsUnsettled}
use Rattle.crash_disk.specs.declared.survivor.Pick.{Pick}
use Rattle.crash_disk.specs.declared.survivor.Torn.{Torn}
use Rattle.crash_disk.specs.Survivor.{AllGoodTears, IsBadTear, IsGoodTear, IsTornImage, is_torn, torn_to}

-- no sector is torn yet
pub IsTornImage-start : (c : Content) (choice : ℕ → ℕ) (image : List (List ℕ)) → IsImage c choice image → IsTornImage c choice [] image
IsTornImage-start c choice image is = record {
  size = is.size;
  values = λ n small. sym (get_or_from_slice_get (kept_values c n) (choice n) (get_or image n []) [] (is.values n small));
}

torn_to-append : (torn more : List Torn) (n : ℕ) (other : List ℕ) → torn_to (torn ++ more) n other ≡ torn_to torn n (torn_to more n other)
torn_to-append [] more n other = refl
torn_to-append (tear ∷ torn) more n other = ap (cond (tear.n == n) tear.bytes) (torn_to-append torn more n other)

whole_at : (here later : Bool) (bytes rest other : List ℕ) → (here || later) ≡ false → (later ≡ false → rest ≡ other) → cond here bytes rest ≡ other
whole_at true later bytes rest other not_in behind = cc
whole_at false later bytes rest other not_in behind = behind not_in

torn_to-whole : (torn : List Torn) (n : ℕ) (other : List ℕ) → is_torn n torn ≡ false → torn_to torn n other ≡ other
torn_to-whole [] n other not_in = refl
torn_to-whole (tear ∷ torn) n other not_in = whole_at (tear.n == n) (is_torn n torn) tear.bytes (torn_to torn n other) other not_in (torn_to-whole torn n other)

torn_to-more : (torn : List Torn) (i n : ℕ) (other : List ℕ) (tear : Torn) → i < length torn → tear ≡ get_or torn i tear → torn_to (take (i + 1) torn) n other ≡ torn_to (take i torn) n (cond (tear.n == n) tear.bytes other)
torn_to-more torn i n other tear small here =
    ap (λ (ts : List Torn). torn_to ts n other) (take_more torn i tear small ∙ ap (λ (t : Torn). take i torn ++ t ∷ []) (sym here))
    ∙ torn_to-append (take i torn) (tear ∷ []) n other

torn_to-here : (torn : List Torn) (i : ℕ) (other : List ℕ) (tear : Torn) → i < length torn → tear ≡ get_or torn i tear → is_torn tear.n (take i torn) ≡ false → torn_to (take (i + 1) torn) tear.n other ≡ tear.bytes
torn_to-here torn i other tear small here not_in =
    torn_to-more torn i tear.n other tear small here
    ∙ torn_to-whole (take i torn) tear.n (cond (tear.n == tear.n) tear.bytes other) not_in
    ∙ cond-true (tear.n == tear.n) tear.bytes other (eq-eqb tear.n tear.n refl)

torn_to-other : (torn : List Torn) (i n : ℕ) (other : List ℕ) (tear : Torn) → i < length torn → tear ≡ get_or torn i tear → (tear.n ≡ n → ⊥) → torn_to (take (i + 1) torn) n other ≡ torn_to (take i torn) n other
torn_to-other torn i n other tear small here apart =
    torn_to-more torn i n other tear small here
    ∙ ap (torn_to (take i torn) n) (cond-false (tear.n == n) tear.bytes other (ne_eqb tear.n n apart))

-- the next torn entry, which isn't bad
pub IsTornImage-more : (c : Content) (choice : ℕ → ℕ) (picks : List Pick) (torn : List Torn) (image : List (List ℕ)) (i : ℕ) (tear : Torn) → i < length torn → tear ≡ get_or torn i tear
    → IsGoodTear c picks (take i torn) tear.n → IsTornImage c choice (take i torn) image → IsTornImage c choice (take (i + 1) torn) (set image tear.n tear.bytes)
IsTornImage-more c choice picks torn image i tear small here good is = record {
  size = length-set image tear.n tear.bytes ∙ is.size;
  values = λ n within. elim (cases_eq tear.n n) [
    | inl same ↦ subst (λ (k : ℕ). get_or (set image tear.n tear.bytes) k [] ≡ torn_to (take (i + 1) torn) k (get_or (kept_values c k) (choice k) [])) same
        (get_or-set_same image tear.n tear.bytes [] (omega (arith, good.inside, is.size))
        ∙ sym (torn_to-here torn i (get_or (kept_values c tear.n) (choice tear.n) []) tear small here good.whole))
    | inr other ↦
        get_or-set_other image tear.n n tear.bytes [] (λ same. other (sym same))
        ∙ is.values n within
        ∙ sym (torn_to-other torn i n (get_or (kept_values c n) (choice n) []) tear small here other)
  ];
}

-- a sector that may hold any bytes is given some
pub IsTorn-more : (c : Content) (image : List (List ℕ)) (m : ℕ) (bytes : List ℕ) → IsTorn c image → m + 1 < length c.base → IsUnsettled c m → IsSector bytes → IsTorn c (set image m bytes)
IsTorn-more c image m bytes torn inside unsettled sector = record {
  same = record {
    size = length-set image m bytes ∙ torn.same.size;
    sectors = All-set IsSector image m bytes sector torn.same.sectors;
  };
  others = λ n small. elim (cases_eq m n) [
    | inl same ↦ inr (subst (IsUnsettled c) same unsettled)
    | inr other ↦ subst (λ (value : List ℕ). Contains (kept_values c n) value ⊎ IsUnsettled c n) (sym (get_or-set_other image m n bytes [] (λ same. other (sym same)))) (torn.others n small)
  ];
  last = λ n end.
      let apart : n ≡ m → ⊥ = λ same. omega (arith, same, end, inside) in
      subst (Contains (kept_values c n)) (sym (get_or-set_other image m n bytes [] apart)) (torn.last n end);
}

good-not-bad : (c : Content) (picks : List Pick) (before : List Torn) (n : ℕ) → IsGoodTear c picks before n → IsBadTear c picks before n → ⊥
good-not-bad c picks before n good (inl past) = omega (arith, good.inside)
good-not-bad c picks before n good (inr (inl again)) = let no = good.unpicked in cc
good-not-bad c picks before n good (inr (inr (inl again))) = let no = good.whole in cc
good-not-bad c picks before n good (inr (inr (inr one))) = omega (arith, good.unsettled)

-- an entry, whatever is read past the end
same_tear : (torn : List Torn) (i : ℕ) (tear d : Torn) → i < length torn → tear ≡ get_or torn i tear → get_or torn i d ≡ tear
same_tear torn i tear d small at = get_or_default torn i d tear small ∙ sym at

pub AllGoodTears-more : (c : Content) (picks : List Pick) (torn : List Torn) (index : ℕ) (d : Torn) → index < length torn → IsGoodTear c picks (take index torn) (get_or torn index d).n → AllGoodTears c picks torn index → AllGoodTears c picks torn (index + 1)
AllGoodTears-more c picks torn index d inside good before i tear small at bad = elim (cases_eq i index) [
  | inl same ↦
      let bad_here = rw same at bad in
      let at_here = rw same at at in
      good-not-bad c picks (take index torn) tear.n (rw (same_tear torn index tear d inside at_here) at good) bad_here
  | inr other ↦ before i tear (omega arith) at bad
]
