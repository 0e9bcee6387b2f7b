use Rattle.std.proofs.Common.{rules, ◌≡◌, ◌∙◌, ℕ, ◌+◌, ◌-◌, ◌*◌, ◌/◌, ◌%◌, ◌≤◌, List, length, take, arith, refl, sym, subst}
use Rattle.block_traits.proofs.Logs.{Continues-end, Continues-then, FailsIn-part}
use Rattle.command_rows.specs.Vocabulary.{Continues, Event, data_writes}
use Rattle.shelf.proofs.Batches.{count_batch, kept_then, left_none, left_writes, batch_long, batch_writes, same_media, whole_batch}
use Rattle.shelf.proofs.workloads.write_words.Goals as goal

pub write_batch-requires-clause-whole : goal.write_batch-requires-clause-whole
write_batch-requires-clause-whole g c =
    let n = c.min-count.result in
    let size = c.sector_size-size.result in
    let now = c.batches.provider.keying in
    let batch = c.fill_bytes_via_u64.new.dst in
    let long : length batch ≡ n * size = c.fill_bytes_via_u64.auto.dst ∙ batch_long n size (c.args.end - c.batches.sector) (length c.args.buffer.now) c.batches.buffer c.batches.auto.buffer c.min-count.ensures in
    let same : size ≡ now.sectorsize = c.sector_size-size.ensures.size ∙ sym (λ i. (c.batches.invariant.kept.keying i).sectorsize) in
    whole_batch n size batch now same long

pub write_batch-requires-clause-there : goal.write_batch-requires-clause-there
write_batch-requires-clause-there g c =
    let state = g.D.Disk.state in
    let n = c.min-count.result in
    let size = c.sector_size-size.result in
    let k = c.args.provider.now.keying in
    let now = c.batches.provider.keying in
    let batch = c.fill_bytes_via_u64.new.dst in
    let long : length batch ≡ n * size = c.fill_bytes_via_u64.auto.dst ∙ batch_long n size (c.args.end - c.batches.sector) (length c.args.buffer.now) c.batches.buffer c.batches.auto.buffer c.min-count.ensures in
    let same : size ≡ now.sectorsize = c.sector_size-size.ensures.size ∙ sym (λ i. (c.batches.invariant.kept.keying i).sectorsize) in
    let some : 1 ≤ size = omega (arith, c.sector_size-size.ensures.at_least) in
    let count : length batch / now.sectorsize ≡ n = count_batch n size batch now some same long in
    let there = same_media k now (state c.args.provider.now.disk) (state c.batches.provider.disk) c.batches.invariant.kept.keying c.batches.invariant.size in
    omega (arith, count, there, c.requires.there, c.min-count.ensures, c.batches.invariant.within)

pub returns-in_err-write_batch-clause-err : goal.returns-in_err-write_batch-clause-err
returns-in_err-write_batch-clause-err g c =
    let state = g.D.Disk.state in
    let n = c.min-count.result in
    let size = c.sector_size-size.result in
    let k = c.args.provider.now.keying in
    let now = c.batches.provider.keying in
    let kept : now ≡ k = c.batches.invariant.kept.keying in
    let before = c.batches.generator in
    let next = c.fill_bytes_via_u64.new.rng in
    let batch = c.fill_bytes_via_u64.new.dst in
    let all = left_writes k c.args.start (c.args.end - c.args.start) c.args.generator.now in
    let rest = c.args.end - (c.batches.sector + n) in
    let one = data_writes now c.batches.sector (length batch / now.sectorsize) batch in
    let left = left_writes k (c.batches.sector + n) rest next in
    let part : length (take (n * size) c.batches.buffer) ≡ n * size = batch_long n size (c.args.end - c.batches.sector) (length c.args.buffer.now) c.batches.buffer c.batches.auto.buffer c.min-count.ensures in
    let same : size ≡ k.sectorsize = c.sector_size-size.ensures.size in
    let bytes : length (take (n * size) c.batches.buffer) ≡ n * k.sectorsize = part ∙ (λ i. n * same i) in
    let some : 1 ≤ k.sectorsize = omega (arith, c.sector_size-size.ensures.at_least, same) in
    let whole = subst (λ (s : ℕ). s % 512 ≡ 0) same c.sector_size-size.ensures.whole in
    let count : c.args.end - c.batches.sector ≡ n + rest = omega (arith, c.min-count.ensures, c.batches.invariant.within) in
    let P : List Event → Type 0 = λ events. Continues events all (state c.batches.provider.disk) (state c.args.provider.now.disk) in
    let here = subst P (batch_writes k now before next c.batches.sector (c.batches.sector + n) n (c.args.end - c.batches.sector) rest (length (take (n * size) c.batches.buffer)) batch
    some whole kept bytes c.fill_bytes_via_u64.auto.dst count refl c.fill_bytes_via_u64.ensures) c.batches.invariant.events in
    let fails = FailsIn-part one left all here c.in_err-write_batch.ensures.err in
    search rules

pub batches-preserved : goal.batches-preserved
batches-preserved g c =
    let state = g.D.Disk.state in
    let n = c.min-count.result in
    let size = c.sector_size-size.result in
    let k = c.args.provider.now.keying in
    let now = c.batches.provider.keying in
    let kept : now ≡ k = c.batches.invariant.kept.keying in
    let before = c.batches.generator in
    let next = c.fill_bytes_via_u64.new.rng in
    let batch = c.fill_bytes_via_u64.new.dst in
    let all = left_writes k c.args.start (c.args.end - c.args.start) c.args.generator.now in
    let rest = c.args.end - (c.batches.sector + n) in
    let one = data_writes now c.batches.sector (length batch / now.sectorsize) batch in
    let left = left_writes k (c.batches.sector + n) rest next in
    let part : length (take (n * size) c.batches.buffer) ≡ n * size = batch_long n size (c.args.end - c.batches.sector) (length c.args.buffer.now) c.batches.buffer c.batches.auto.buffer c.min-count.ensures in
    let same : size ≡ k.sectorsize = c.sector_size-size.ensures.size in
    let bytes : length (take (n * size) c.batches.buffer) ≡ n * k.sectorsize = part ∙ (λ i. n * same i) in
    let some : 1 ≤ k.sectorsize = omega (arith, c.sector_size-size.ensures.at_least, same) in
    let whole = subst (λ (s : ℕ). s % 512 ≡ 0) same c.sector_size-size.ensures.whole in
    let count : c.args.end - c.batches.sector ≡ n + rest = omega (arith, c.min-count.ensures, c.batches.invariant.within) in
    let P : List Event → Type 0 = λ events. Continues events all (state c.batches.provider.disk) (state c.args.provider.now.disk) in
    let here = subst P (batch_writes k now before next c.batches.sector (c.batches.sector + n) n (c.args.end - c.batches.sector) rest (length (take (n * size) c.batches.buffer)) batch
    some whole kept bytes c.fill_bytes_via_u64.auto.dst count refl c.fill_bytes_via_u64.ensures) c.batches.invariant.events in
    record {
      within = omega (arith, c.min-count.ensures, c.batches.invariant.within);
      kept = kept_then c.args.provider.now c.batches.provider c.write_batch.new.provider c.batches.invariant.kept c.in_ok-write_batch.ensures.kept;
      size = c.in_ok-write_batch.ensures.ok.size ∙ c.batches.invariant.size;
      unasked = c.write_batch.ensures.unasked ∙ c.batches.invariant.unasked;
      events = Continues-then one left all here c.in_ok-write_batch.ensures.ok;
    }

pub returns-clause-ok : goal.returns-clause-ok
returns-clause-ok g c =
    let state = g.D.Disk.state in
    let k = c.args.provider.now.keying in
    let all = left_writes k c.args.start (c.args.end - c.args.start) c.args.generator.now in
    let none : c.args.end - c.batches.sector ≡ 0 = omega (arith, c.batches-test.false) in
    let P : List Event → Type 0 = λ events. Continues events all (state c.batches.provider.disk) (state c.args.provider.now.disk) in
    Continues-end all (subst P (left_none k c.batches.sector (c.args.end - c.batches.sector) c.batches.generator none) c.batches.invariant.events)
