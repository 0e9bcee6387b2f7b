-- What a sector holds now, and what it may hold if power fails.
use Rattle.std.proofs.Common.{◌≡◌, ℕ, ◌<◌, ◌==◌, List, [], ◌∷◌, ◌++◌, length, get_or, refl, ap, ◌∙◌, arith, cond, true, false, Bool, All, length-append}
use Rattle.std.proofs.lemmas.List.Elements.{All-nil, All-cons, All-head, All-tail, All-push, All-get_or, All-append}
use Rattle.block_traits.specs.declared.disk.Event.{Event}
use Rattle.block_traits.specs.declared.disk.Event.TheVariants.{Write, Flush}
use Rattle.block_traits.specs.Content.{Content, present_after, present, last_of, kept_after, kept_values, with_events, IsSector, IsEventOf, IsContentOf}

pub last_of-push : (values : List (List ℕ)) (value : List ℕ) → last_of (values ++ value ∷ []) ≡ value
last_of-push [] value = refl
last_of-push (first ∷ []) value = refl
last_of-push (first ∷ second ∷ values) value = last_of-push (second ∷ values) value

-- a write that may be to this sector
last_of-written : (here : Bool) (values : List (List ℕ)) (value : List ℕ) → last_of (cond here (values ++ value ∷ []) values) ≡ cond here value (last_of values)
last_of-written true values value = last_of-push values value
last_of-written false values value = refl

last_of-kept_after : (events : List Event) (n : ℕ) (values : List (List ℕ)) → last_of (kept_after events n values) ≡ present_after events n (last_of values)
last_of-kept_after [] n values = refl
last_of-kept_after (Write m value ∷ events) n values =
    last_of-kept_after events n (cond (m == n) (values ++ value ∷ []) values) ∙ ap (present_after events n) (last_of-written (m == n) values value)
last_of-kept_after (Flush ∷ events) n values = last_of-kept_after events n (last_of values ∷ [])

pub last_of-kept_values : (c : Content) (n : ℕ) → last_of (kept_values c n) ≡ present c n
last_of-kept_values c n = last_of-kept_after c.history n (get_or c.base n [] ∷ [])

pub kept_after-append : (events more : List Event) (n : ℕ) (values : List (List ℕ)) → kept_after (events ++ more) n values ≡ kept_after more n (kept_after events n values)
kept_after-append [] more n values = refl
kept_after-append (Write m value ∷ events) more n values = kept_after-append events more n (cond (m == n) (values ++ value ∷ []) values)
kept_after-append (Flush ∷ events) more n values = kept_after-append events more n (last_of values ∷ [])

pub present_after-append : (events more : List Event) (n : ℕ) (bytes : List ℕ) → present_after (events ++ more) n bytes ≡ present_after more n (present_after events n bytes)
present_after-append [] more n bytes = refl
present_after-append (Write m value ∷ events) more n bytes = present_after-append events more n (cond (m == n) value bytes)
present_after-append (Flush ∷ events) more n bytes = present_after-append events more n bytes

pub kept_values-flush : (c : Content) (n : ℕ) → kept_values (with_events (Flush ∷ []) c) n ≡ present c n ∷ []
kept_values-flush c n = kept_after-append c.history (Flush ∷ []) n (get_or c.base n [] ∷ []) ∙ ap (λ (value : List ℕ). value ∷ []) (last_of-kept_values c n)

-- there is a value, also after a write that may be to this sector
some-written : (here : Bool) (values : List (List ℕ)) (value : List ℕ) → 0 < length values → 0 < length (cond here (values ++ value ∷ []) values)
some-written true values value some = omega (arith, length-append values (value ∷ []))
some-written false values value some = some

pub some-kept_after : (events : List Event) (n : ℕ) (values : List (List ℕ)) → 0 < length values → 0 < length (kept_after events n values)
some-kept_after [] n values some = some
some-kept_after (Write m value ∷ events) n values some = some-kept_after events n (cond (m == n) (values ++ value ∷ []) values) (some-written (m == n) values value some)
some-kept_after (Flush ∷ events) n values some = some-kept_after events n (last_of values ∷ []) (omega arith)

-- the values are sectors, and so is their last
record AreSectors (values : List (List ℕ)) : Type 0 where
  all : All IsSector values
  last : IsSector (last_of values)

AreSectors-one : (value : List ℕ) → IsSector value → AreSectors (value ∷ [])
AreSectors-one value one = record { all = All-cons IsSector value [] one (All-nil IsSector); last = one }

AreSectors-written : (here : Bool) (values : List (List ℕ)) (value : List ℕ) → AreSectors values → IsSector value → AreSectors (cond here (values ++ value ∷ []) values)
AreSectors-written true values value many one = record {
  all = All-push IsSector values value many.all one;
  last = ap length (last_of-push values value) ∙ one;
}
AreSectors-written false values value many one = many

AreSectors-kept_after : (size : ℕ) (events : List Event) (n : ℕ) (values : List (List ℕ)) → All (IsEventOf size) events → AreSectors values → AreSectors (kept_after events n values)
AreSectors-kept_after size [] n values fit many = many
AreSectors-kept_after size (Write m value ∷ events) n values fit many =
    let first = All-head (IsEventOf size) (Write m value) events fit in
    AreSectors-kept_after size events n (cond (m == n) (values ++ value ∷ []) values) (All-tail (IsEventOf size) (Write m value) events fit) (AreSectors-written (m == n) values value many first.1)
AreSectors-kept_after size (Flush ∷ events) n values fit many =
    AreSectors-kept_after size events n (last_of values ∷ []) (All-tail (IsEventOf size) Flush events fit) (AreSectors-one (last_of values) many.last)

AreSectors-kept_values : (size : ℕ) (c : Content) (n : ℕ) → IsContentOf size c → n < size → AreSectors (kept_values c n)
AreSectors-kept_values size c n content small =
    let inside : n < length c.base = omega (arith, content.sectors) in
    AreSectors-kept_after size c.history n (get_or c.base n [] ∷ []) content.events (AreSectors-one (get_or c.base n []) (All-get_or IsSector c.base n [] inside content.base))

pub All-kept_values : (size : ℕ) (c : Content) (n : ℕ) → IsContentOf size c → n < size → All IsSector (kept_values c n)
All-kept_values size c n content small = (AreSectors-kept_values size c n content small).all

-- events that fit may follow
pub IsContentOf-more : (size : ℕ) (events : List Event) (c : Content) → IsContentOf size c → All (IsEventOf size) events → IsContentOf size (with_events events c)
IsContentOf-more size events c content fit = record {
  sectors = content.sectors;
  base = content.base;
  events = All-append (IsEventOf size) c.history events content.events fit;
}
