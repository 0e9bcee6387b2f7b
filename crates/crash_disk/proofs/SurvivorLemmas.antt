-- The image that the picks name.
use Rattle.std.proofs.Common.{◌≡◌, ℕ, ◌+◌, ◌-◌, ◌<◌, ◌==◌, ◌||◌, List, [], ◌∷◌, ◌++◌, length, take, get_or, set, refl, ap, ◌∙◌, sym, subst, arith, suc, Some, length-set, cond, true, false, Bool, inl, inr, eq-eqb, All}
use Rattle.std.proofs.lemmas.List.{get_or-set_same, get_or-set_other, get_or_default, take_more}
use Rattle.std.proofs.lemmas.List.Elements.{All-take}
use Rattle.std.proofs.lemmas.Bool.{cond-true, cond-false, cases_eq, ne_eqb}
use Rattle.std.proofs.lemmas.Option.{slice_get_within}
use Rattle.std.specs.List.{slice_get}
use Rattle.block_traits.specs.Content.{Content, IsContentOf, IsEventOf, IsSector, at_moment, kept_values, last_of}
use Rattle.block_traits.specs.Crash.{IsImage}
use Rattle.block_traits.proofs.Contents.{last_of-kept_values, some-kept_after}
use Rattle.block_traits.proofs.Images.{IsTorn-image}
use Rattle.crash_disk.specs.declared.survivor.Pick.{Pick}
use Rattle.crash_disk.specs.Replay.{replayed}
use Rattle.crash_disk.specs.Survivor.{AllGood, IsBad, IsGood, choice_of, is_picked, picked_place}
use Rattle.crash_disk.proofs.Replay.{get_or-replayed, length-replayed}

some-kept_values : (c : Content) (n : ℕ) → 0 < length (kept_values c n)
some-kept_values c n = some-kept_after c.history n (get_or c.base n [] ∷ []) (omega arith)

slice_get-last_of : (values : List (List ℕ)) → 0 < length values → slice_get values (length values - 1) ≡ Some (last_of values)
slice_get-last_of [] some = absurd (omega arith)
slice_get-last_of (value ∷ []) some = refl
slice_get-last_of (value ∷ next ∷ values) some = ap (slice_get (value ∷ next ∷ values)) (place values) ∙ slice_get-last_of (next ∷ values) (omega arith)
  where
    place : (others : List (List ℕ)) → length (value ∷ next ∷ others) - 1 ≡ suc (length (next ∷ others) - 1)
    place others = omega arith

-- with no pick each sector has what stands in it
pub IsImage-start : (c : Content) (image : List (List ℕ)) → image ≡ replayed c.base c.history → IsImage c (choice_of c []) image
IsImage-start c image is = record {
  size = ap length is ∙ length-replayed c.base c.history;
  values = λ n small.
      slice_get-last_of (kept_values c n) (some-kept_values c n)
      ∙ ap (λ (bytes : List ℕ). Some bytes) (last_of-kept_values c n ∙ sym (ap (λ (l : List (List ℕ)). get_or l n []) is ∙ get_or-replayed c.base c.history n small));
}

picked_place-append : (picks more : List Pick) (n other : ℕ) → picked_place (picks ++ more) n other ≡ picked_place picks n (picked_place more n other)
picked_place-append [] more n other = refl
picked_place-append (pick ∷ picks) more n other = ap (cond (pick.n == n) pick.place) (picked_place-append picks more n other)

unpicked_at : (here later : Bool) (place rest other : ℕ) → (here || later) ≡ false → (later ≡ false → rest ≡ other) → cond here place rest ≡ other
unpicked_at true later place rest other not_in behind = cc
unpicked_at false later place rest other not_in behind = behind not_in

picked_place-unpicked : (picks : List Pick) (n other : ℕ) → is_picked n picks ≡ false → picked_place picks n other ≡ other
picked_place-unpicked [] n other not_in = refl
picked_place-unpicked (pick ∷ picks) n other not_in = unpicked_at (pick.n == n) (is_picked n picks) pick.place (picked_place picks n other) other not_in (picked_place-unpicked picks n other)

picked_place-more : (picks : List Pick) (i n other : ℕ) (pick : Pick) → i < length picks → pick ≡ get_or picks i pick → picked_place (take (i + 1) picks) n other ≡ picked_place (take i picks) n (cond (pick.n == n) pick.place other)
picked_place-more picks i n other pick small here =
    ap (λ (ps : List Pick). picked_place ps n other) (take_more picks i pick small ∙ ap (λ (p : Pick). take i picks ++ p ∷ []) (sym here))
    ∙ picked_place-append (take i picks) (pick ∷ []) n other

choice_of-here : (c : Content) (picks : List Pick) (i : ℕ) (pick : Pick) → i < length picks → pick ≡ get_or picks i pick → is_picked pick.n (take i picks) ≡ false → choice_of c (take (i + 1) picks) pick.n ≡ pick.place
choice_of-here c picks i pick small here not_in =
    let last = length (kept_values c pick.n) - 1 in
    picked_place-more picks i pick.n last pick small here
    ∙ picked_place-unpicked (take i picks) pick.n (cond (pick.n == pick.n) pick.place last) not_in
    ∙ cond-true (pick.n == pick.n) pick.place last (eq-eqb pick.n pick.n refl)

choice_of-other : (c : Content) (picks : List Pick) (i n : ℕ) (pick : Pick) → i < length picks → pick ≡ get_or picks i pick → (pick.n ≡ n → ⊥) → choice_of c (take (i + 1) picks) n ≡ choice_of c (take i picks) n
choice_of-other c picks i n pick small here other =
    let last = length (kept_values c n) - 1 in
    picked_place-more picks i n last pick small here
    ∙ ap (picked_place (take i picks) n) (cond-false (pick.n == n) pick.place last (ne_eqb pick.n n other))

-- the next pick, which isn't bad
pub IsImage-more : (c : Content) (picks : List Pick) (image : List (List ℕ)) (i : ℕ) (pick : Pick) (bytes : List ℕ) → i < length picks → pick ≡ get_or picks i pick
    → IsGood c (take i picks) pick bytes → IsImage c (choice_of c (take i picks)) image → IsImage c (choice_of c (take (i + 1) picks)) (set image pick.n bytes)
IsImage-more c picks image i pick bytes small here good is = record {
  size = length-set image pick.n bytes ∙ is.size;
  values = λ n within. elim (cases_eq pick.n n) [
    | inl same ↦ subst (λ (k : ℕ). slice_get (kept_values c k) (choice_of c (take (i + 1) picks) k) ≡ Some (get_or (set image pick.n bytes) k [])) same
        (ap (slice_get (kept_values c pick.n)) (choice_of-here c picks i pick small here good.unpicked)
        ∙ good.value
        ∙ ap (λ (b : List ℕ). Some b) (sym (get_or-set_same image pick.n bytes [] (omega (arith, good.inside, is.size)))))
    | inr other ↦
        ap (slice_get (kept_values c n)) (choice_of-other c picks i n pick small here other)
        ∙ is.values n within
        ∙ ap (λ (b : List ℕ). Some b) (sym (get_or-set_other image pick.n n bytes [] (λ same. other (sym same))))
  ];
}

good-not-bad : (c : Content) (before : List Pick) (pick : Pick) (bytes : List ℕ) → IsGood c before pick bytes → IsBad c before pick → ⊥
good-not-bad c before pick bytes good (inl past) = omega (arith, good.inside)
good-not-bad c before pick bytes good (inr (inl again)) = let no = good.unpicked in cc
good-not-bad c before pick bytes good (inr (inr none)) = omega (arith, slice_get_within (kept_values c pick.n) pick.place bytes good.value)

-- a pick, whatever is read past the end
same_pick : (picks : List Pick) (i : ℕ) (pick d : Pick) → i < length picks → pick ≡ get_or picks i pick → get_or picks i d ≡ pick
same_pick picks i pick d small at = get_or_default picks i d pick small ∙ sym at

pub AllGood-more : (c : Content) (picks : List Pick) (index : ℕ) (d : Pick) (bytes : List ℕ) → index < length picks → IsGood c (take index picks) (get_or picks index d) bytes → AllGood c picks index → AllGood c picks (index + 1)
AllGood-more c picks index d bytes inside good before i pick small at bad = elim (cases_eq i index) [
  | inl same ↦
      let bad_here = rw same at bad in
      let at_here = rw same at at in
      good-not-bad c (take index picks) pick bytes (rw (same_pick picks index pick d inside at_here) at good) bad_here
  | inr other ↦ before i pick (omega arith) at bad
]

-- an image has sectors of 512 bytes
pub All-image : (size : ℕ) (c : Content) (choice : ℕ → ℕ) (image : List (List ℕ)) → IsContentOf size c → IsImage c choice image → All IsSector image
All-image size c choice image fits is = (IsTorn-image size c choice image fits is).same.sectors

-- what fits has fitted
pub IsContentOf-at_moment : (size moment : ℕ) (c : Content) → IsContentOf size c → IsContentOf size (at_moment moment c)
IsContentOf-at_moment size moment c fits = record {
  sectors = fits.sectors;
  base = fits.base;
  events = All-take (IsEventOf size) moment c.history fits.events;
}
