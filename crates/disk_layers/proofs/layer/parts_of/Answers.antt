-- Where a name is cut.
use Rattle.std.proofs.Common.{ℕ, ◌+◌, List, ◌∷◌, ◌++◌, length, codes, refl, subst, sym, ap, ◌∙◌}
use Rattle.disk_layers.specs.Names.{IsJoin}
use Rattle.disk_layers.proofs.Cuts.{cut_behind, cut_join, first_is, second_is}
use Rattle.disk_layers.proofs.layer.parts_of.Goals as goal

pub range_from-requires : goal.range_from-requires
range_from-requires c = λ some. cut_behind c.args.name.now c.utf8.name (c.in-Behind.ensures.behind.0 refl)

pub range-requires-clause-start_le_end : goal.range-requires-clause-start_le_end
range-requires-clause-start_le_end c = (cut_join c.args.name.now c.in-Join.middle c.utf8.name ((c.in-Join.ensures.join c.in-Join.middle).0 refl)).order

pub range-requires-clause-start_boundary : goal.range-requires-clause-start_boundary
range-requires-clause-start_boundary c = λ some. (cut_join c.args.name.now c.in-Join.middle c.utf8.name ((c.in-Join.ensures.join c.in-Join.middle).0 refl)).start

pub range-requires-clause-end_boundary : goal.range-requires-clause-end_boundary
range-requires-clause-end_boundary c = (cut_join c.args.name.now c.in-Join.middle c.utf8.name ((c.in-Join.ensures.join c.in-Join.middle).0 refl)).end

pub range_from-requires-in-Join : goal.range_from-requires-in-Join
range_from-requires-in-Join c = λ some. (cut_join c.args.name.now c.in-Join.middle c.utf8.name ((c.in-Join.ensures.join c.in-Join.middle).0 refl)).behind

pub returns-in-Plain : goal.returns-in-Plain
returns-in-Plain c = ((λ behind. cc (c.in-Plain.ensures.behind.1 behind)), (λ middle join. cc ((c.in-Plain.ensures.join middle).1 join)))

pub returns-in-Join : goal.returns-in-Join
returns-in-Join c =
    let name = c.args.name.now in
    let middle = c.in-Join.middle in
    let join = (c.in-Join.ensures.join middle).0 refl in
    let first = c.range.ensures.value ∙ first_is name middle join in
    let second = c.range_from-in-Join.ensures.value ∙ second_is name middle join in
    let place = join.place in
    let J : ℕ → Type 0 = λ middle. IsJoin middle name in (
      subst J (place ∙ ap (λ (l : List ℕ). 5 + length l) (sym first)) join,
      join.is ∙ (λ i. codes "join:" ++ sym first i ++ 58 ∷ sym second i),
    )
