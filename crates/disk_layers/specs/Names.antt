-- Names that ask for a layer.
use Rattle.std.specs.Prelude.{◌≡◌, ◌≢◌, ℕ, ◌+◌, ◌<◌, List, ◌∷◌, ◌++◌, length, codes, All}

-- `behind:` and more
pub record IsBehind (name : List ℕ) : Type 0 where
  pub rest : List ℕ
  pub is : name ≡ codes "behind:" ++ rest
  pub more : 0 < length rest

-- `join:`, and then two names of at least one byte with a colon between them, of which the first has none
pub record IsJoin (middle : ℕ) (name : List ℕ) : Type 0 where
  pub first : List ℕ
  pub second : List ℕ
  pub is : name ≡ codes "join:" ++ first ++ 58 ∷ second
  pub some : 0 < length first
  pub more : 0 < length second
  pub alone : All (λ byte. byte ≢ 58) first
  pub place : middle ≡ 5 + length first
