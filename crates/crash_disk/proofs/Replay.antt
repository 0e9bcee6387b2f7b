-- Sectors after events.
use Rattle.std.proofs.Common.{◌≡◌, ℕ, ◌<◌, ◌==◌, List, [], ◌∷◌, ◌++◌, length, get_or, refl, ap, ◌∙◌, sym, arith, cond, suc, zero, inl, inr, map, All}
use Rattle.std.proofs.Math.ListN.{set, length-set}
use Rattle.std.proofs.lemmas.List.{get_or-set_same, get_or-set_other}
use Rattle.std.proofs.lemmas.Grind.{common_steps}
use Rattle.std.proofs.lemmas.Bool.{cases_eq}
use Rattle.block_traits.specs.declared.disk.Event.{Event}
use Rattle.block_traits.specs.declared.disk.Event.TheVariants.{Write, Flush}
use Rattle.block_traits.specs.Content.{present_after}
use Rattle.block_traits.specs.Content.{IsEventOf, IsSector, present}
use Rattle.std.proofs.lemmas.List.{ext_get_or, get_or_append_left, get_or_at, length-map, map-append}
use Rattle.std.proofs.lemmas.List.Elements.{All-head, All-set, All-tail}
use Rattle.crash_disk.specs.Image.{numbers_below}
use Rattle.crash_disk.specs.Replay.{content, replayed}
use Rattle.crash_disk.proofs.ImageLemmas.{length-numbers_below}

pub length-replayed : (base : List (List ℕ)) (events : List Event) → length (replayed base events) ≡ length base
length-replayed base [] = refl
length-replayed base (Write n bytes ∷ events) = length-replayed (set base n bytes) events ∙ length-set base n bytes
length-replayed base (Flush ∷ events) = length-replayed base events

pub replayed-append : (base : List (List ℕ)) (events more : List Event) → replayed base (events ++ more) ≡ replayed (replayed base events) more
replayed-append base [] more = refl
replayed-append base (Write n bytes ∷ events) more = replayed-append (set base n bytes) events more
replayed-append base (Flush ∷ events) more = replayed-append base events more

get_or-set_at : (base : List (List ℕ)) (m n : ℕ) (bytes : List ℕ) → n < length base → get_or (set base m bytes) n [] ≡ cond (m == n) bytes (get_or base n [])
get_or-set_at base m n bytes small = grind (arith, common_steps, get_or-set_same, get_or-set_other, cases_eq m n)

pub get_or-replayed : (base : List (List ℕ)) (events : List Event) (n : ℕ) → n < length base → get_or (replayed base events) n [] ≡ present_after events n (get_or base n [])
get_or-replayed base [] n small = refl
get_or-replayed base (Write m bytes ∷ events) n small =
    get_or-replayed (set base m bytes) events n (omega (arith, length-set base m bytes))
    ∙ ap (present_after events n) (get_or-set_at base m n bytes small)
get_or-replayed base (Flush ∷ events) n small = get_or-replayed base events n small

-- what stands in each sector after events
get_or-map-numbers_below : (f : ℕ → List ℕ) (n i : ℕ) → i < n → get_or (map f (numbers_below n)) i [] ≡ f i
get_or-map-numbers_below f zero i small = absurd (omega arith)
get_or-map-numbers_below f (suc n) i small =
    let size : length (map f (numbers_below n)) ≡ n = length-map (numbers_below n) f ∙ length-numbers_below n in
    ap (λ (l : List (List ℕ)). get_or l i []) (map-append f (numbers_below n) (n ∷ [])) ∙ elim (cases_eq i n) [
      | inl same ↦ rw same (get_or_at (map f (numbers_below n)) (f n) [] [] n size)
      | inr other ↦ get_or_append_left (map f (numbers_below n)) (f n ∷ []) [] i (omega (arith, size, other, small)) ∙ get_or-map-numbers_below f n i (omega arith)
    ]

pub replayed-present : (base : List (List ℕ)) (events : List Event) → replayed base events ≡ map (present (content base events)) (numbers_below (length base))
replayed-present base events =
    let size = length-replayed base events in
    ext_get_or [] (replayed base events) (map (present (content base events)) (numbers_below (length base)))
    (size ∙ sym (length-map (numbers_below (length base)) (present (content base events)) ∙ length-numbers_below (length base)))
    (λ i small.
    let within : i < length base = omega (arith, size, small) in
    get_or-replayed base events i within ∙ sym (get_or-map-numbers_below (present (content base events)) (length base) i within))

-- sectors stay sectors
pub All-replayed : (size : ℕ) (base : List (List ℕ)) (events : List Event) → All IsSector base → All (IsEventOf size) events → All IsSector (replayed base events)
All-replayed size base [] sectors fit = sectors
All-replayed size base (Write n bytes ∷ events) sectors fit =
    All-replayed size (set base n bytes) events (All-set IsSector base n bytes (All-head (IsEventOf size) (Write n bytes) events fit).1 sectors) (All-tail (IsEventOf size) (Write n bytes) events fit)
All-replayed size base (Flush ∷ events) sectors fit = All-replayed size base events sectors (All-tail (IsEventOf size) Flush events fit)
