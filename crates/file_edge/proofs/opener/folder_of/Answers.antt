-- The folder of a name is decided by what the name is cut into.
use Rattle.std.proofs.Common.{inl, inr, refl, subst, Bor, List, ℕ, MatchOption, Option}
use Rattle.file_edge.specs.Folder.{HasNoSlash}
use Rattle.file_edge.proofs.Folder.{IsCut, cut_once, of_front, of_root}
use Rattle.file_edge.proofs.opener.folder_of.Goals as goal

abbrev Cuts : List ℕ → Option (Bor (List ℕ) × Bor (List ℕ)) → Type 0
Cuts name r = MatchOption r (HasNoSlash name) (λ x. IsCut name x.0.now)

pub returns-in-Some : goal.returns-in-Some
returns-in-Some c =
    let name = c.args.name.now in
    let cut = subst (Cuts name) c.in-Some.is (cut_once name c.rsplit_once.result c.rsplit_once.ensures.cases) in
    inr (record { front = c.in-Some.folder.now; last = cut.last; cut = cut.cut; is_last = cut.is_last; is_front = of_root c.in-Some.folder.now _ c.is_empty.ensures c.if-is_empty.true })

pub returns-in-Some-2 : goal.returns-in-Some-2
returns-in-Some-2 c =
    let name = c.args.name.now in
    let cut = subst (Cuts name) c.in-Some.is (cut_once name c.rsplit_once.result c.rsplit_once.ensures.cases) in
    inr (record { front = c.in-Some.folder.now; last = cut.last; cut = cut.cut; is_last = cut.is_last; is_front = of_front c.in-Some.folder.now _ c.is_empty.ensures c.if-is_empty.false })

pub returns-in-None : goal.returns-in-None
returns-in-None c =
    let name = c.args.name.now in
    inl (subst (Cuts name) c.in-None.is (cut_once name c.rsplit_once.result c.rsplit_once.ensures.cases), refl)
