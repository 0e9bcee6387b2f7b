-- The range keys that a ring keeps, each under its number.
use Rattle.std.specs.Prelude.{◌≡◌, ℕ, List, [], ◌∷◌, ◌++◌, Contains}
use Rattle.eli_base.specs.declared.algorithms.Cipher.{Cipher}
use Rattle.lru.specs.LruCache.{LruCache}
use Rattle.range_keys.specs.Keys.{numbered_key, first_part, second_part}
use Rattle.range_keys.specs.Numbers.{room}
use Rattle.range_keys.specs.declared.expanded.RangeKey.{RangeKey}

-- the expanded keys of a number, made of this range base
abbrev pub expanded_key : Cipher → ℕ → List ℕ → ℕ → RangeKey
expanded_key cipher keylen base number =
    record { first = first_part keylen (numbered_key base number); second = second_part cipher keylen (numbered_key base number) }

-- each kept key is that of its number, and there is room for sixteen
pub record AreKept (cipher : Cipher) (keylen : ℕ) (base : List ℕ) (kept : LruCache ℕ RangeKey) : Type 0 where
  pub room : kept.cap ≡ room
  pub each : (number : ℕ) (key : RangeKey) → Contains kept.entries (number, key) → key ≡ expanded_key cipher keylen base number

-- the entry in front has the key of its number, made of this range base, and stands last; of none, none is made
abbrev pub front_remade : Cipher → ℕ → List ℕ → List (ℕ × RangeKey) → List (ℕ × RangeKey)
front_remade cipher keylen base [] = []
front_remade cipher keylen base (e ∷ es) = es ++ (e.0, expanded_key cipher keylen base e.0) ∷ []

pub record RemakesFront (cipher : Cipher) (keylen : ℕ) (base : List ℕ) (old new : LruCache ℕ RangeKey) : Type 0 where
  pub entries : new.entries ≡ front_remade cipher keylen base old.entries
  pub cap : new.cap ≡ old.cap
