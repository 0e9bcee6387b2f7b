-- Lists of requests, one after another.
use Rattle.std.proofs.Common.{◌≡◌, List, ◌++◌, refl, ap, ◌∙◌, append_assoc, Option, Some, None}
use Rattle.file_edge.specs.Asked.{more}

more_twice : {A : Type 0} (xs ys : List A) (told : Option (List A)) → more ys (more xs told) ≡ more (xs ++ ys) told
more_twice xs ys None = refl
more_twice xs ys (Some before) = ap Some (append_assoc before xs ys)

-- some requests, and then others
pub more_then : {A : Type 0} (xs ys : List A) (first second third : Option (List A)) → second ≡ more xs first → third ≡ more ys second → third ≡ more (xs ++ ys) first
more_then xs ys first second third a b = b ∙ ap (more ys) a ∙ more_twice xs ys first
