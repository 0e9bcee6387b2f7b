use Rattle.std.proofs.Common.{◌≡◌, ◌∙◌, ℕ, ◌+◌, ◌-◌, ◌*◌, ◌/◌, ◌≤◌, length, take, arith, sym, subst}
use Rattle.std.proofs.lemmas.Result.{err_from_is_err_and}
use Rattle.shelf.proofs.Batches.{HasRead, HasRead-fails, HasRead-more, count_batch, kept_then, batch_long, whole_batch}
use Rattle.shelf.proofs.workloads.digest_of.Goals as goal

pub read_batch-requires-clause-whole : goal.read_batch-requires-clause-whole
read_batch-requires-clause-whole g c =
    let n = c.min-count.result in
    let size = c.sector_size-size.result in
    let batch = take (n * size) c.batches.buffer in
    let long = batch_long n size (c.args.end - c.batches.sector) (length c.args.buffer.now) c.batches.buffer c.batches.auto.buffer c.min-count.ensures in
    let same : size ≡ c.batches.provider.keying.sectorsize = c.sector_size-size.ensures.size ∙ sym (λ i. (c.batches.invariant.kept.keying i).sectorsize) in
    whole_batch n size batch c.batches.provider.keying same long

pub returns-in_err-read_batch-clause-answer : goal.returns-in_err-read_batch-clause-answer
returns-in_err-read_batch-clause-answer g c =
    let state = g.D.Disk.state in
    let p = err_from_is_err_and c.from_residual.result c.from_residual.ensures.1 in
    let n = c.min-count.result in
    let size = c.sector_size-size.result in
    let batch = take (n * size) c.batches.buffer in
    let now = c.batches.provider.keying in
    let long = batch_long n size (c.args.end - c.batches.sector) (length c.args.buffer.now) c.batches.buffer c.batches.auto.buffer c.min-count.ensures in
    let same : size ≡ now.sectorsize = c.sector_size-size.ensures.size ∙ sym (λ i. (c.batches.invariant.kept.keying i).sectorsize) in
    let some : 1 ≤ size = omega (arith, c.sector_size-size.ensures.at_least) in
    let count : length batch / now.sectorsize ≡ n = count_batch n size batch now some same long in
    let at : c.batches.sector ≡ c.args.start + (c.batches.sector - c.args.start) = omega (arith, c.batches.invariant.from) in
    let within : c.batches.sector - c.args.start + length batch / now.sectorsize ≤ c.args.end - c.args.start = omega (arith, count, c.min-count.ensures, c.batches.invariant.from, c.batches.invariant.within) in
    rw (p.1, p.2) (HasRead-fails c.in_err-read_batch.field-0.0 c.args.provider.now.keying now c.args.start (c.batches.sector - c.args.start) (length batch / now.sectorsize) (c.args.end - c.args.start) c.batches.sector
    (state c.args.provider.now.disk) (state c.batches.provider.disk) (state c.read_batch.new.provider.disk) c.batches.hasher c.batches.invariant.kept.keying at within c.batches.invariant.read c.in_err-read_batch.ensures.answer)

pub batches-preserved : goal.batches-preserved
batches-preserved g c =
    let state = g.D.Disk.state in
    let n = c.min-count.result in
    let size = c.sector_size-size.result in
    let batch = take (n * size) c.batches.buffer in
    let k = c.args.provider.now.keying in
    let now = c.batches.provider.keying in
    let first = state c.args.provider.now.disk in
    let last = state c.read_batch.new.provider.disk in
    let long = batch_long n size (c.args.end - c.batches.sector) (length c.args.buffer.now) c.batches.buffer c.batches.auto.buffer c.min-count.ensures in
    let same : size ≡ now.sectorsize = c.sector_size-size.ensures.size ∙ sym (λ i. (c.batches.invariant.kept.keying i).sectorsize) in
    let some : 1 ≤ size = omega (arith, c.sector_size-size.ensures.at_least) in
    let count : length batch / now.sectorsize ≡ n = count_batch n size batch now some same long in
    let at : c.batches.sector ≡ c.args.start + (c.batches.sector - c.args.start) = omega (arith, c.batches.invariant.from) in
    let sum : c.batches.sector - c.args.start + length batch / now.sectorsize ≡ c.batches.sector + n - c.args.start = omega (arith, count, c.batches.invariant.from) in
    record {
      from = omega (arith, c.batches.invariant.from);
      within = omega (arith, c.min-count.ensures, c.batches.invariant.within);
      kept = kept_then c.args.provider.now c.batches.provider c.read_batch.new.provider c.batches.invariant.kept c.in_ok-read_batch.ensures.kept;
      read = subst (λ (m : ℕ). HasRead k c.args.start m first last c.update.new.self) sum
          (HasRead-more k now c.args.start (c.batches.sector - c.args.start) (length batch / now.sectorsize) c.batches.sector c.read_batch.new.into first (state c.batches.provider.disk) last c.batches.hasher c.update.new.self
          c.batches.invariant.kept.keying at c.batches.invariant.read c.in_ok-read_batch.ensures.answer c.update.ensures);
    }
