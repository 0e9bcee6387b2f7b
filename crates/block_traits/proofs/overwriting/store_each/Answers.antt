use Rattle.std.proofs.Common.{◌≡◌, List, ℕ, [], ◌∷◌, ◌∙◌, drop, get_or, subst, arith, rules}
use Rattle.std.proofs.lemmas.Grind.{common_steps}
use Rattle.std.proofs.Math.ListN.{drop_of_length-le}
use Rattle.block_traits.specs.Disk.{Continues, FailsIn, Logs}
use Rattle.block_traits.specs.Overwriting.{overwrite_events}
use Rattle.block_traits.specs.declared.disk.Event.TheVariants.{Write, Flush}
use Rattle.block_traits.proofs.Logs.{Continues-end}
use Rattle.block_traits.proofs.Overwritten.{next_store, failed_store}
use Rattle.block_traits.proofs.overwriting.store_each.Goals as goal

pub returns-in_err-store-clause-err : goal.returns-in_err-store-clause-err
returns-in_err-store-clause-err g c =
    let state = g.S.SectorOf.state in
    let values = c.args.values.now in
    let i = c.loop-value.value-index in
    let number = g.S.SectorOf.number c.args.sector.now c.args.device.now in
    let P : ℕ → Type 0 = λ n. FailsIn (Write n (get_or values i []) ∷ Flush ∷ []) (state c.loop-value.device) (state c.store.new.device) in
    let fails = failed_store number i values (overwrite_events number values) c.loop-value-test.true c.loop-value.invariant.left (subst P c.loop-value.invariant.number c.in_err-store.ensures.err) in
    search rules

pub loop-value-preserved : goal.loop-value-preserved
loop-value-preserved g c =
    let state = g.S.SectorOf.state in
    let values = c.args.values.now in
    let i = c.loop-value.value-index in
    let number = g.S.SectorOf.number c.args.sector.now c.args.device.now in
    let P : ℕ → Type 0 = λ n. Logs (Write n (get_or values i []) ∷ Flush ∷ []) (state c.loop-value.device) (state c.store.new.device) in
    record {
      number = c.in_ok-store.ensures.number ∙ c.loop-value.invariant.number;
      size = c.in_ok-store.ensures.ok.size ∙ c.loop-value.invariant.size;
      left = next_store number i values (overwrite_events number values) c.loop-value-test.true c.loop-value.invariant.left (subst P c.loop-value.invariant.number c.in_ok-store.ensures.ok);
      unasked = c.in_ok-store.ensures.unasked ∙ c.loop-value.invariant.unasked;
      rest = c.in_ok-store.ensures.rest ∙ c.loop-value.invariant.rest;
    }

pub returns-clause-ok : goal.returns-clause-ok
returns-clause-ok g c =
    let state = g.S.SectorOf.state in
    let none : drop c.loop-value.value-index c.args.values.now ≡ [] = drop_of_length-le c.args.values.now (omega arith) in
    let number = g.S.SectorOf.number c.args.sector.now c.args.device.now in
    let P : List (List ℕ) → Type 0 = λ more. Continues (overwrite_events number more) (overwrite_events number c.args.values.now) (state c.loop-value.device) (state c.args.device.now) in
    Continues-end (overwrite_events number c.args.values.now) (subst P none c.loop-value.invariant.left)

pub returns-in_err-store-clause-ok : goal.returns-in_err-store-clause-ok
returns-in_err-store-clause-ok g c = grind (arith, common_steps) steps 400000

pub returns-in_err-store-clause-unasked : goal.returns-in_err-store-clause-unasked
returns-in_err-store-clause-unasked g c = grind (arith, common_steps) steps 400000

pub returns-in_err-store-clause-rest : goal.returns-in_err-store-clause-rest
returns-in_err-store-clause-rest g c = grind (arith, common_steps) steps 400000

pub returns-clause-err : goal.returns-clause-err
returns-clause-err g c = grind (arith, common_steps) steps 400000

pub returns-clause-unasked : goal.returns-clause-unasked
returns-clause-unasked g c = grind (arith, common_steps) steps 400000

pub returns-clause-rest : goal.returns-clause-rest
returns-clause-rest g c = grind (arith, common_steps) steps 400000
