-- One disk of one name, and what was asked for it if there was no memory.
use Rattle.std.proofs.Common.{◌≡◌, ap, sym, inl, inr, ℕ, List, [], ◌∷◌, length, Bool, Option, slice_index_or}
use Rattle.file_edge.specs.Asked.{Asked}
use Rattle.image_layers.specs.Images.{AsksPart, AsksUpTo}

-- a list of one element is that element
pub only : {X : Type 0} (xs : List X) (x : X) → length xs ≡ 1 → x ≡ slice_index_or xs 0 x → xs ≡ x ∷ []
only [] x one is = absurd (cc one)
only {X} (y ∷ []) x one is = ap (λ (z : X). z ∷ []) (sym is)
only (y ∷ z ∷ ys) x one is = absurd (cc one)

-- the files up to one of a single name are the first of its files
pub part_of_one : {O : Type 0} (log_of : O → Option (List Asked)) (changes : Bool) (name : List ℕ) (old new : O) → AsksUpTo log_of changes (name ∷ []) old new → AsksPart log_of changes name old new
part_of_one log_of changes name old new (inl part) = part
part_of_one log_of changes name old new (inr all) = absurd all.behind
