-- Sectors that are zeros but for what was written.
use Rattle.std.proofs.Common.{◌≡◌, ℕ, ◌<◌, List, [], ◌∷◌, ◌++◌, length, get_or, take, set, ap, ◌∙◌, arith, replicate, All}
use Rattle.std.proofs.lemmas.List.{get_or-replicate, length-replicate}
use Rattle.std.proofs.lemmas.List.Elements.{All-take}
use Rattle.block_traits.specs.declared.disk.Event.{Event}
use Rattle.block_traits.specs.declared.disk.Event.TheVariants.{Write}
use Rattle.block_traits.specs.Content.{IsContentOf, IsEventOf, IsSector, present_after}
use Rattle.crash_disk.specs.Image.{zero_sector}
use Rattle.crash_disk.specs.Replay.{content, replayed}
use Rattle.crash_disk.specs.Writes.{written}
use Rattle.crash_disk.proofs.Replay.{All-replayed, get_or-replayed, length-replayed, replayed-append}

pub length-written : (size : ℕ) (events : List Event) → length (written size events) ≡ size
length-written size events = length-replayed (replicate size zero_sector) events ∙ length-replicate size zero_sector

pub get_or-written : (size n : ℕ) (events : List Event) → n < length (written size events) → get_or (written size events) n [] ≡ present_after events n zero_sector
get_or-written size n events inside =
    let small : n < size = omega (arith, inside, length-written size events) in
    get_or-replayed (replicate size zero_sector) events n (omega (arith, small, length-replicate size zero_sector))
    ∙ ap (present_after events n) (get_or-replicate size n zero_sector [] small)

-- more events
pub written-append : (size : ℕ) (events more : List Event) → written size (events ++ more) ≡ replayed (written size events) more
written-append size events more = replayed-append (replicate size zero_sector) events more

-- one more write
pub written-put : (size n : ℕ) (bytes : List ℕ) (events : List Event) → written size (events ++ Write n bytes ∷ []) ≡ set (written size events) n bytes
written-put size n bytes events = written-append size events (Write n bytes ∷ [])

-- what stood there after the first events
pub All-at : (base : List (List ℕ)) (events : List Event) (moment : ℕ) → IsContentOf (length base) (content base events) → All IsSector (replayed base (take moment events))
All-at base events moment fits = All-replayed (length base) base (take moment events) fits.base (All-take (IsEventOf (length base)) moment events fits.events)
