-- The names of files in the name of an image.
use Rattle.std.specs.Prelude.{◌≡◌, ℕ, ◌+◌, List, ◌∷◌, ◌++◌, length, codes}
use Rattle.disk_layers.specs.declared.layer.Parts.{Parts}
use Rattle.disk_layers.specs.declared.layer.Parts.TheVariants.{Whole, Behind, Join}
use Rattle.disk_layers.specs.Names.{IsBehind, IsJoin}

-- what is left of a name that begins with `behind:`, or both names in one that begins with `join:`; another name has no
-- parts
abbrev pub AreParts : List ℕ → Parts → Type 0
AreParts name Whole = (IsBehind name → ⊥) × ((middle : ℕ) → IsJoin middle name → ⊥)
AreParts name (Behind rest) = IsBehind name × (name ≡ codes "behind:" ++ rest.now)
AreParts name (Join first second) = IsJoin (5 + length first.now) name × (name ≡ codes "join:" ++ first.now ++ 58 ∷ second.now)
