-- What names have after changes in memory.
use Rattle.std.specs.Prelude.{◌≡◌, ℕ, List, [], ◌∷◌, Option, None, Some, slice_get, string_bytes}
use Rattle.std.specs.declared.vec.Vec.{Vec}
use Rattle.file_edge.specs.Names.{Absent, Failing, Holds, Named, NameMap, with_name}
use Rattle.file_edge.specs.declared.found.FileId.{FileId}
use Rattle.edge_tests.specs.declared.change.Change.{Change}

-- no name has anything
abbrev pub nothing : NameMap
nothing name = Absent

-- what a name has that was given this
abbrev pub given_named : {X : Type 0} → Option FileId → Option (Vec ℕ X) → Named
given_named id None = Absent
given_named id (Some bytes) = Holds id bytes.items

abbrev pub changed : Change → NameMap → NameMap
changed change named = with_name (string_bytes change.name) (given_named change.id change.bytes) named

-- what names have after these changes
abbrev pub after_changes : NameMap → List Change → NameMap
after_changes named [] = named
after_changes named (change ∷ changes) = after_changes (changed change named) changes

abbrev pub named_in : Option Change → Named
named_in None = Absent
named_in (Some change) = given_named change.id change.bytes

-- what the change at a place gave
abbrev pub named_at : List Change → Option ℕ → Named
named_at changes None = Absent
named_at changes (Some place) = named_in (slice_get changes place)

-- the file of a name, or there is none
abbrev pub HasFile : {X : Type 0} → Named → Option (Option FileId × Vec ℕ X) → Type 0
HasFile Absent (Some file) = ⊥
HasFile Absent None = Unit {0}
HasFile (Holds id bytes) (Some file) = (file.0 ≡ id) × (file.1.items ≡ bytes)
HasFile (Holds id bytes) None = ⊥
HasFile Failing file = ⊥
