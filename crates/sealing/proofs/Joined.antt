-- Units that are read one after the other.
use Rattle.std.proofs.Common.{◌≡◌, ℕ, List, [], ◌∷◌, map, Ok, refl, ap}
use Rattle.std.specs.List.{concat}
use Rattle.sealing.specs.Sectors.{before, joined}

-- units without a fault read as their bytes
pub joined-ok : (units : List (List ℕ)) → joined (map Ok units) ≡ Ok (concat units)
joined-ok [] = refl
joined-ok (unit ∷ units) = ap (before unit) (joined-ok units)
