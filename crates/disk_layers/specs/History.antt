-- What a layer says was done to it.
use Rattle.std.specs.Prelude.{ℕ, ◌+◌, List, [], ◌∷◌, Option, Some, None}
use Rattle.std.specs.Option.{option_map}
use Rattle.block_traits.specs.Content.{Content}
use Rattle.block_traits.specs.declared.disk.Event.{Event}
use Rattle.block_traits.specs.declared.disk.Event.TheVariants.{Write, Flush}

-- what a disk logged, if it reports that
abbrev pub told_history : Option Content → List Event
told_history None = []
told_history (Some c) = c.history

-- a content with this history in place of its own, if it is reported
abbrev pub with_history : List Event → Option Content → Option Content
with_history past told = option_map (λ c. record { base = c.base; history = past }) told

-- the writes alone
abbrev pub unflushed : List Event → List Event
unflushed [] = []
unflushed (Write n bytes ∷ events) = Write n bytes ∷ unflushed events
unflushed (Flush ∷ events) = unflushed events

-- the same writes of sectors so many numbers further on
abbrev pub moved : ℕ → List Event → List Event
moved by [] = []
moved by (Write n bytes ∷ events) = Write (n + by) bytes ∷ moved by events
moved by (Flush ∷ events) = Flush ∷ moved by events
