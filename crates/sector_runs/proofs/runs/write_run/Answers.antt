use Rattle.std.proofs.Common.{rules, ◌+◌, ◌-◌, ◌*◌, ◌/◌, List, ℕ, length, refl, subst, sym, ap, ◌∙◌, arith}
use Rattle.block_traits.specs.declared.disk.Event.{Event}
use Rattle.block_traits.specs.Disk.{Continues}
use Rattle.block_traits.proofs.Logs.{Continues-then, FailsIn-part, Continues-start, Continues-end}
use Rattle.sector_runs.specs.Writing.{data_writes}
use Rattle.sector_runs.proofs.Batches.{IsBatch, batch_fits, batch_here}
use Rattle.sector_runs.proofs.Events.{batch_continues, run_writes-start, run_writes-end}
use Rattle.sector_runs.proofs.runs.write_run.Given as given
use Rattle.sector_runs.proofs.runs.write_run.Goals as goal
use Rattle.sector_runs.proofs.runs.write_run.Goals.{After-min-many}

pub batches-init : goal.batches-init
batches-init g c =
    let start = g.D.Disk.state c.args.disk.now in
    let k = c.args.ring.now.keying in
    let size = c.layout-layout.result.size in
    let from = c.args.from.now in
    let count = length from / size in
    let all = data_writes k c.args.sector (length from / k.sectorsize) from in
    let P : List Event → Type 0 = λ events. Continues events all start start in
    let whole = run_writes-start k c.args.sector count size from ∙ ap (λ (s : ℕ). data_writes k c.args.sector (length from / s) from) c.layout-layout.ensures.size in
    record {
      keying = search rules;
      size = search rules;
      unasked = search rules;
      within = omega arith;
      events = subst P (sym whole) (Continues-start all start);
    }

-- the batch that is written next
next : (g : given.Over) (c : After-min-many g) → let size = c.layout-layout.result.size in let done = c.batches.done in let many = c.min-many.result in
    IsBatch c.args.ring.now.keying c.batches.ring.keying size (length c.args.from.now / size) many ((done + many) * size - done * size) done c.args.from.now
next g c = batch_here c.batches.invariant.keying c.layout-layout.ensures.size (omega arith) (omega arith) refl

pub write_batch-requires-clause-buffer : goal.write_batch-requires-clause-buffer
write_batch-requires-clause-buffer g c =
    let batch = next g (goal.at.write_batch-requires-clause-buffer g c).After-min-many in
    omega (arith, batch_fits batch c.layout-layout.result.units (length c.args.buffer.now) c.layout-layout.ensures.units (omega arith), c.batches.auto.buffer)

pub returns-in_err-write_batch-clause-err : goal.returns-in_err-write_batch-clause-err
returns-in_err-write_batch-clause-err g c =
    let batch = next g (goal.at.returns-in_err-write_batch-clause-err g c).After-min-many in
    let fails = FailsIn-part _ _ _ (batch_continues c.args.sector batch c.batches.invariant.events) c.in_err-write_batch.ensures.err in
    search rules

pub batches-preserved : goal.batches-preserved
batches-preserved g c =
    let batch = next g (goal.at.batches-preserved g c).After-min-many in
    record {
      keying = c.in_ok-write_batch.ensures.keying ∙ c.batches.invariant.keying;
      size = c.in_ok-write_batch.ensures.ok.size ∙ c.batches.invariant.size;
      unasked = c.write_batch.ensures.unasked ∙ c.batches.invariant.unasked;
      within = batch.within;
      events = Continues-then _ _ _ (batch_continues c.args.sector batch c.batches.invariant.events) c.in_ok-write_batch.ensures.ok;
    }

pub returns-clause-ok : goal.returns-clause-ok
returns-clause-ok g c =
    let state = g.D.Disk.state in
    let k = c.args.ring.now.keying in
    let size = c.layout-layout.result.size in
    let from = c.args.from.now in
    let all = data_writes k c.args.sector (length from / k.sectorsize) from in
    let P : List Event → Type 0 = λ events. Continues events all (state c.batches.disk) (state c.args.disk.now) in
    Continues-end all (subst P (run_writes-end k c.args.sector (length from / size) size from c.batches.done (omega arith)) c.batches.invariant.events)
