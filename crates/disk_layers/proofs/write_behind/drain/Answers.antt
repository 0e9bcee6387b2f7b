-- One more write was done below, or refused and put back.
use Rattle.std.proofs.Common.{◌<◌, ℕ, List, ◌∙◌, arith, subst, sym}
use Rattle.std.proofs.lemmas.Grind.{common_steps}
use Rattle.std.proofs.lemmas.List.Elements.{All-tail}
use Rattle.disk_layers.specs.declared.write_behind.Waiting.{Waiting}
use Rattle.disk_layers.specs.Waiting.{FitBelow}
use Rattle.disk_layers.proofs.WaitingLemmas.{Wrote, Wrote-one, StopsIn-wrote}
use Rattle.disk_layers.proofs.write_behind.drain.Goals as goal

pub returns-in-Err-clause-err : goal.returns-in-Err-clause-err
returns-in-Err-clause-err g c =
    let P : List Waiting → Type 0 = λ left. Wrote c.args.waiting.now.items left (g.D.Disk.state c.args.under.now) (g.D.Disk.state c.loop-first.under) in
    StopsIn-wrote c.args.waiting.now.items c.pop_front.new.self.items c.push_front_reserved.new.self.items c.in-Some.first
    (subst P c.in-Some.ensures.items c.loop-first.invariant.wrote) c.push_front_reserved.ensures.items c.in-Err.ensures.err

pub loop-first-preserved : goal.loop-first-preserved
loop-first-preserved g c =
    let P : List Waiting → Type 0 = λ left. Wrote c.args.waiting.now.items left (g.D.Disk.state c.args.under.now) (g.D.Disk.state c.loop-first.under) in
    let F : List Waiting → Type 0 = λ left. FitBelow (g.D.Disk.state c.loop-first.under).size left in
    let S : ℕ → Type 0 = λ size. FitBelow size c.pop_front.new.self.items in
    let logs = c.in_default-write.ensures.ok in
    let kept = c.loop-first.invariant in
    record {
      wrote = Wrote-one c.args.waiting.now.items c.pop_front.new.self.items c.in-Some.first (subst P c.in-Some.ensures.items kept.wrote) logs;
      fit = subst S (sym logs.size) (All-tail (λ (write : Waiting). write.n < (g.D.Disk.state c.loop-first.under).size) c.in-Some.first c.pop_front.new.self.items (subst F c.in-Some.ensures.items kept.fit));
      fewer = omega arith;
      capacity = c.in-Some.ensures.capacity ∙ kept.capacity;
      unasked = c.in_default-write.ensures.unasked ∙ kept.unasked;
    }

pub returns-in-Err-clause-ok : goal.returns-in-Err-clause-ok
returns-in-Err-clause-ok g c = grind (arith, common_steps) steps 400000

pub returns-in-Err-clause-none : goal.returns-in-Err-clause-none
returns-in-Err-clause-none g c = grind (arith, common_steps) steps 400000

pub returns-in-Err-clause-fit : goal.returns-in-Err-clause-fit
returns-in-Err-clause-fit g c = grind (arith, common_steps)

pub returns-in-Err-clause-fewer : goal.returns-in-Err-clause-fewer
returns-in-Err-clause-fewer g c = grind (arith, common_steps) steps 400000

pub returns-in-Err-clause-capacity : goal.returns-in-Err-clause-capacity
returns-in-Err-clause-capacity g c = grind (arith, common_steps) steps 400000

pub returns-in-Err-clause-unasked : goal.returns-in-Err-clause-unasked
returns-in-Err-clause-unasked g c = grind (arith, common_steps) steps 400000

pub returns-clause-ok : goal.returns-clause-ok
returns-clause-ok g c = grind (arith, common_steps) steps 400000

pub returns-clause-none : goal.returns-clause-none
returns-clause-none g c = grind (arith, common_steps) steps 400000

pub returns-clause-err : goal.returns-clause-err
returns-clause-err g c = grind (arith, common_steps) steps 400000

pub returns-clause-fit : goal.returns-clause-fit
returns-clause-fit g c = grind (arith, common_steps) steps 400000

pub returns-clause-fewer : goal.returns-clause-fewer
returns-clause-fewer g c = grind (arith, common_steps) steps 400000

pub returns-clause-capacity : goal.returns-clause-capacity
returns-clause-capacity g c = grind (arith, common_steps) steps 400000

pub returns-clause-unasked : goal.returns-clause-unasked
returns-clause-unasked g c = grind (arith, common_steps) steps 400000
