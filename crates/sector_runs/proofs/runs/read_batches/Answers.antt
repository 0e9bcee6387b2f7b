use Rattle.std.proofs.Common.{◌≡◌, ◌+◌, ◌-◌, ◌*◌, ◌/◌, ◌≤◌, ℕ, [], length, take, subst, ap, ◌∙◌, arith, Ok, Err}
use Rattle.std.proofs.lemmas.Nat.{le-div}
use Rattle.block_traits.proofs.Causes.{Counted-then}
use Rattle.block_traits.proofs.Logs.{Logs-then, content-Logs}
use Rattle.sealing.specs.Sectors.{units}
use Rattle.sector_runs.specs.Reads.{RunAnswers}
use Rattle.sector_runs.proofs.Batches.{IsBatch, batch_answer, batch_fault, batch_fits, batch_here, batch_length, batch_reads}
use Rattle.sector_runs.proofs.runs.read_batches.Given as given
use Rattle.sector_runs.proofs.runs.read_batches.Goals as goal
use Rattle.sector_runs.proofs.runs.read_batches.Goals.{After-min-many}

-- the batch that is read next
next : (g : given.Over) (c : After-min-many g) → let size = c.layout-layout.result.size in let done = c.batches.done in let many = c.min-many.result in
    IsBatch c.args.ring.now.keying c.batches.ring.keying size (length c.args.into.now / size) many ((done + many) * size - done * size) done c.batches.into
next g c = batch_here c.batches.invariant.keying c.layout-layout.ensures.size (omega arith) (omega arith) c.batches.auto.into

pub read_batch-requires-clause-buffer : goal.read_batch-requires-clause-buffer
read_batch-requires-clause-buffer g c =
    let batch = next g (goal.at.read_batch-requires-clause-buffer g c).After-min-many in
    omega (arith, batch_fits batch c.layout-layout.result.units (length c.args.buffer.now) c.layout-layout.ensures.units (omega arith), c.batches.auto.buffer)

pub batches-smaller : goal.batches-smaller
batches-smaller g c =
    let k = c.args.ring.now.keying in
    let width : ℕ = 512 * c.layout-layout.result.units in
    let broad : width ≡ 512 * units k = ap (λ (n : ℕ). 512 * n) c.layout-layout.ensures.units in
    let one : 1 ≤ length c.args.buffer.now / width = le-div 1 (length c.args.buffer.now) width (omega arith) (omega (arith, broad, c.requires.buffer)) in
    omega (arith, one)

pub batches-preserved : goal.batches-preserved
batches-preserved g c =
    let state = g.D.Disk.state in
    let k = c.args.ring.now.keying in
    let before = c.batches.invariant in
    let done = c.batches.done in
    let many = c.min-many.result in
    let batch = next g (goal.at.batches-preserved g c).After-min-many in
    let start = state c.args.disk.now in
    let middle = state c.batches.disk in
    let block = c.read_batch.new.into in
    let answer = batch_answer batch middle (state c.read_batch.new.disk) c.args.sector block (Ok tt) c.in-Ok.ensures.answer in
    record {
      keying = c.in-Ok.ensures.keying ∙ before.keying;
      within = batch.within;
      asked = Counted-then (done * units k) (many * units k) ((done + many) * units k) (omega arith) before.asked answer.0;
      logs = Logs-then [] [] before.logs answer.1;
      reads = batch_reads batch start.content middle.content c.args.sector block (content-Logs start middle before.logs) (c.read_batch.auto.into ∙ batch_length batch) before.reads answer.2;
    }

pub returns-in-Err-clause-answer : goal.returns-in-Err-clause-answer
returns-in-Err-clause-answer g c =
    let state = g.D.Disk.state in
    let before = c.batches.invariant in
    let batch = next g (goal.at.returns-in-Err-clause-answer g c).After-min-many in
    let start = state c.args.disk.now in
    let middle = state c.batches.disk in
    let last = state c.read_batch.new.disk in
    let block = c.read_batch.new.into in
    let P : ℕ → Type 0 = λ s. RunAnswers c.args.ring.now.keying c.args.sector (length c.args.into.now / s) start last block (Err c.in-Err.fault) in
    let answer = batch_answer batch middle last c.args.sector block (Err c.in-Err.fault) c.in-Err.ensures.answer in
    subst P c.layout-layout.ensures.size
    (batch_fault batch c.in-Err.fault start middle last c.args.sector (take (c.batches.done * c.layout-layout.result.size) c.batches.into) block block before.asked before.logs before.reads answer)
