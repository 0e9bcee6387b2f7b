-- The folder in which a name stands.
use Rattle.std.specs.Prelude.{◌≡◌, ◌≢◌, ◌⊎◌, ◌<◌, ◌==◌, ℕ, List, ◌∷◌, ◌++◌, length, get_or, if◌then◌else◌, codes}

-- no slash is among these bytes
abbrev pub HasNoSlash : List ℕ → Type 0
HasNoSlash bytes = (i : ℕ) → i < length bytes → get_or bytes i 0 ≢ 47

-- the folder is what comes before the last slash of a name, or the root if that is nothing
pub record IsBeforeSlash (name folder : List ℕ) : Type 0 where
  pub front : List ℕ
  pub last : List ℕ
  pub cut : name ≡ front ++ 47 ∷ last
  pub is_last : HasNoSlash last
  pub is_front : folder ≡ (if length front == 0 then codes "/" else front)

-- the folder of a name: the current one if the name has no slash (path_resolution(7))
abbrev pub IsFolderOf : List ℕ → List ℕ → Type 0
IsFolderOf name folder = (HasNoSlash name × (folder ≡ codes ".")) ⊎ IsBeforeSlash name folder
