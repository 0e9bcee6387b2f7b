-- The words of the command line.
use Rattle.std.specs.Prelude.{◌≡◌, ◌≢◌, List, [], Result, Ok, Err, drop}
use Rattle.std.specs.IoError.{error_kind}
use Rattle.std.specs.Vec.Iter.{into_iter_items}
use Rattle.std.specs.declared.io.Error.{Error}
use Rattle.std.specs.declared.io.ErrorKind.TheVariants as kinds
use Rattle.std.specs.declared.vec.IntoIter.{IntoIter}

-- all arguments but the first, which is the program's name; arguments that can't be read are no words, unless that is
-- for want of memory
abbrev pub HasWords : {X Z : Type 0} → Result (IntoIter X Z) Error → List X → Type 0
HasWords (Ok args) words = words ≡ drop 1 (into_iter_items args)
HasWords (Err error) words = (words ≡ []) × (error_kind error ≢ kinds.OutOfMemory)
