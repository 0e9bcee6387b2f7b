-- What a disk reports fits in one way at most, for the ghost field of a disk that keeps this.
use Rattle.std.specs.Coded.{Unit-prop}
use Rattle.std.proofs.Common.{ℕ}
use Rattle.std.proofs.Props.{props}
use Rattle.block_traits.specs.declared.disk.Event.{Event}
use Rattle.block_traits.specs.declared.disk.Event.TheVariants.{Write, Flush}
use Rattle.block_traits.specs.Content.{Content, IsEventOf, IsContentOf}

IsEventOf-prop : (size : ℕ) (event : Event) → IsProp (IsEventOf size event)
IsEventOf-prop size (Write n bytes) = hlevel props
IsEventOf-prop size Flush = Unit-prop

pub IsContentOf-prop : (size : ℕ) (c : Content) → IsProp (IsContentOf size c)
IsContentOf-prop size c = hlevel (props, IsEventOf-prop)
