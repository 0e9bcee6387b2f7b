-- What stands in the sectors of a disk upon a provider, now and if power fails.
use Rattle.std.proofs.Common.{◌≡◌, ℕ, zero, suc, ◌+◌, ◌-◌, ◌<◌, ◌==◌, nat_lt, Bool, true, false, cond, List, [], ◌∷◌, ◌++◌, length, take, map, get_or, refl, sym, ap, ◌∙◌, arith, length-append, get_or-take}
use Rattle.std.proofs.lemmas.Bool.{eqb-true, lt-ltb}
use Rattle.std.proofs.lemmas.List.{length-take-le, map-append}
use Rattle.block_traits.specs.declared.disk.Event.{Event}
use Rattle.block_traits.specs.declared.disk.Event.TheVariants.{Write, Flush}
use Rattle.block_traits.specs.Content.{Content, kept_after, kept_values, last_of, present, present_after}
use Rattle.eli_base.specs.Keying.{Keying}
use Rattle.provider_disk.specs.Opened.{opened_single, opened_content, opened_events, opened_from, opened_data_sectors}

get_or-opened_from : (k : Keying) (m : ℕ) (sectors : List (List ℕ)) (n : ℕ) → n < length sectors → get_or (opened_from k m sectors) n [] ≡ opened_single k (m + n) (get_or sectors n [])
get_or-opened_from k m [] n small = absurd (omega arith)
get_or-opened_from k m (bytes ∷ sectors) zero small = let at : m ≡ m + 0 = omega arith in ap (λ (i : ℕ). opened_single k i bytes) at
get_or-opened_from k m (bytes ∷ sectors) (suc n) small =
    let at : m + 1 + n ≡ m + suc n = omega arith in
    get_or-opened_from k (m + 1) sectors n (omega arith) ∙ ap (λ (i : ℕ). opened_single k i (get_or sectors n [])) at

pub get_or-opened_sectors : (k : Keying) (sectors : List (List ℕ)) (n : ℕ) → n < length sectors - 1 → get_or (opened_data_sectors k sectors) n [] ≡ opened_single k n (get_or sectors n [])
get_or-opened_sectors k sectors n small =
    let count : ℕ = length sectors - 1 in
    let long = length-take-le count sectors (omega arith) in
    let at : 0 + n ≡ n = omega arith in
    get_or-opened_from k 0 (take count sectors) n (omega arith)
    ∙ (λ i. opened_single k (at i) (get_or-take count sectors n [] small i))

-- ---- after events

-- a write that may be left out, and may be of this sector
module _ (k : Keying) (count n : ℕ) (small : n < count) where
  is_inside : (m : ℕ) → m ≡ n → nat_lt m count ≡ true
  is_inside m same = lt-ltb m count (omega arith)

  present-write : (inside here : Bool) (m : ℕ) (new bytes : List ℕ) (events : List Event) → nat_lt m count ≡ inside → (m == n) ≡ here
      → ((old : List ℕ) → present_after (opened_events k count events) n (opened_single k n old) ≡ opened_single k n (present_after events n old))
      → present_after (cond inside (Write m (opened_single k m new) ∷ opened_events k count events) (opened_events k count events)) n (opened_single k n bytes)
      ≡ opened_single k n (present_after events n (cond here new bytes))
  present-write true true m new bytes events is same rest =
      ap (λ (b : Bool). present_after (opened_events k count events) n (cond b (opened_single k m new) (opened_single k n bytes))) same
      ∙ ap (λ (i : ℕ). present_after (opened_events k count events) n (opened_single k i new)) (eqb-true m n same)
      ∙ rest new
  present-write true false m new bytes events is other rest =
      ap (λ (b : Bool). present_after (opened_events k count events) n (cond b (opened_single k m new) (opened_single k n bytes))) other ∙ rest bytes
  present-write false true m new bytes events is same rest =
      let inside = is_inside m (eqb-true m n same) in let e : true ≡ false = sym inside ∙ is in absurd (cc e)
  present-write false false m new bytes events is other rest = rest bytes

  present-opened : (events : List Event) (bytes : List ℕ) → present_after (opened_events k count events) n (opened_single k n bytes) ≡ opened_single k n (present_after events n bytes)
  present-opened [] bytes = refl
  present-opened (Write m new ∷ events) bytes = present-write (nat_lt m count) (m == n) m new bytes events refl refl (present-opened events)
  present-opened (Flush ∷ events) bytes = present-opened events bytes

  last_of-map : (values : List (List ℕ)) → 0 < length values → last_of (map (opened_single k n) values) ≡ opened_single k n (last_of values)
  last_of-map [] some = absurd (omega arith)
  last_of-map (value ∷ []) some = refl
  last_of-map (value ∷ next ∷ values) some = last_of-map (next ∷ values) (omega arith)

  kept-write : (inside here : Bool) (m : ℕ) (new : List ℕ) (values : List (List ℕ)) (events : List Event) → nat_lt m count ≡ inside → (m == n) ≡ here
      → ((old : List (List ℕ)) → 0 < length old → kept_after (opened_events k count events) n (map (opened_single k n) old) ≡ map (opened_single k n) (kept_after events n old))
      → 0 < length values
      → kept_after (cond inside (Write m (opened_single k m new) ∷ opened_events k count events) (opened_events k count events)) n (map (opened_single k n) values)
      ≡ map (opened_single k n) (kept_after events n (cond here (values ++ new ∷ []) values))
  kept-write true true m new values events is same rest some =
      ap (λ (b : Bool). kept_after (opened_events k count events) n (cond b (map (opened_single k n) values ++ opened_single k m new ∷ []) (map (opened_single k n) values))) same
      ∙ ap (λ (i : ℕ). kept_after (opened_events k count events) n (map (opened_single k n) values ++ opened_single k i new ∷ [])) (eqb-true m n same)
      ∙ ap (kept_after (opened_events k count events) n) (sym (map-append (opened_single k n) values (new ∷ [])))
      ∙ rest (values ++ new ∷ []) (omega (arith, length-append values (new ∷ [])))
  kept-write true false m new values events is other rest some =
      ap (λ (b : Bool). kept_after (opened_events k count events) n (cond b (map (opened_single k n) values ++ opened_single k m new ∷ []) (map (opened_single k n) values))) other ∙ rest values some
  kept-write false true m new values events is same rest some =
      let inside = is_inside m (eqb-true m n same) in let e : true ≡ false = sym inside ∙ is in absurd (cc e)
  kept-write false false m new values events is other rest some = rest values some

  kept-opened : (events : List Event) (values : List (List ℕ)) → 0 < length values
      → kept_after (opened_events k count events) n (map (opened_single k n) values) ≡ map (opened_single k n) (kept_after events n values)
  kept-opened [] values some = refl
  kept-opened (Write m new ∷ events) values some = kept-write (nat_lt m count) (m == n) m new values events refl refl (kept-opened events) some
  kept-opened (Flush ∷ events) values some =
      ap (λ (l : List ℕ). kept_after (opened_events k count events) n (l ∷ [])) (last_of-map values some) ∙ kept-opened events (last_of values ∷ []) (omega arith)

-- ---- of a content

pub present-opened_content : (k : Keying) (c : Content) (n : ℕ) → n < length c.base - 1 → present (opened_content k c) n ≡ opened_single k n (present c n)
present-opened_content k c n small =
    ap (present_after (opened_events k (length c.base - 1) c.history) n) (get_or-opened_sectors k c.base n small)
    ∙ present-opened k (length c.base - 1) n small c.history (get_or c.base n [])

pub kept-opened_content : (k : Keying) (c : Content) (n : ℕ) → n < length c.base - 1 → kept_values (opened_content k c) n ≡ map (opened_single k n) (kept_values c n)
kept-opened_content k c n small =
    ap (λ (l : List ℕ). kept_after (opened_events k (length c.base - 1) c.history) n (l ∷ [])) (get_or-opened_sectors k c.base n small)
    ∙ kept-opened k (length c.base - 1) n small c.history (get_or c.base n [] ∷ []) (omega arith)
