-- The numbers of the range keys that a ring keeps.
use Rattle.std.specs.Prelude.{◌≡◌, ℕ, ◌⊎◌, List, ◌∷◌, take, nat_eq, Contains}
use Rattle.std.specs.Set.{remove_key}

-- how many range keys a ring keeps at most
abbrev pub room : ℕ
room = 16

-- what becomes of the list of kept numbers when the key of this number is asked for: a number in it comes to the front;
-- another is put in front, and of seventeen the last is dropped, or if there is no memory for it, the list stays
pub record AfterUse (number : ℕ) (old new : List ℕ) : Type 0 where
  pub kept : Contains old number → new ≡ number ∷ remove_key (nat_eq number) old
  pub other : ¬ Contains old number → (new ≡ take room (number ∷ old)) ⊎ (new ≡ old)
