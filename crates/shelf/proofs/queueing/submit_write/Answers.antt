use Rattle.std.proofs.Common.{◌≡◌, ◌∙◌, ◌≢◌, ℕ, List, ◌%◌, ◌/◌, ap, arith, length, sym, subst, Err, take, length-take}
use Rattle.bio_queue.specs.declared.job.Job.TheVariants.{Write}
use Rattle.command_rows.specs.Rows.{bytes_spelled, whole_sectors}
use Rattle.command_rows.specs.Vocabulary.{SubmitAnswers, bytes_at}
use Rattle.eli_base.specs.declared.refusals.Refusal.TheVariants as refusals
use Rattle.shelf.proofs.QueueingRows.{write_refused, write_submitted}
use Rattle.shelf.proofs.Sectors.{whole_sectors-none, whole_sectors-odd}
use Rattle.shelf.proofs.queueing.submit_write.Goals as goal
use Rattle.shelf.proofs.queueing.submit_write.Goals.{then-given-eq0-via-then-given-eq0, then-given-eq0-via-else-given-eq0+then-given-sectorsize-ne0}

pub returns-then-given-eq0 : goal.returns-then-given-eq0
returns-then-given-eq0 g c =
    let size : c.sector_size-sectorsize.result ≡ c.args.provider.now.keying.sectorsize = c.sector_size-sectorsize.ensures.size in
    let S = c.args.provider.now.keying.sectorsize in
    let count = c.decode-given.result in
    let bytes = take count c.decode-given.new.buffer in
    let spelled : bytes ≡ bytes_spelled (bytes_at c.args.line.now c.args.hex) = rw (← c.bytes_in.ensures) c.decode-given.ensures.bytes in
    let len : length bytes ≡ count = omega (arith, length-take count c.decode-given.new.buffer, c.decode-given.auto.buffer, c.requires.room, c.decode-given.ensures.bound) in
    let bad : whole_sectors S (length bytes) ≡ Err (refusals.BadLength (length bytes) S) =
    elim c.then-given-eq0.branch [
      | then-given-eq0-via-then-given-eq0 w ↦ whole_sectors-none S (length bytes) (len ∙ w.if-given-eq0.true)
      | then-given-eq0-via-else-given-eq0+then-given-sectorsize-ne0 w ↦ whole_sectors-odd S (length bytes) (subst (λ (n : ℕ). n % S ≢ 0) (sym len) (subst (λ (s : ℕ). count % s ≢ 0) size w.if-given-sectorsize-ne0.true))
    ] in
    let said : whole_sectors S (length bytes) ≡ Err (refusals.BadLength count c.sector_size-sectorsize.result) =
    bad ∙ ap (λ (n : ℕ). Err (refusals.BadLength n S)) len ∙ ap (λ (s : ℕ). Err (refusals.BadLength count s)) (sym size) in
    λ cabinet entropy. write_refused g.D.Disk.state cabinet entropy c.args.provider.now c.args.queue.now c.args.line.now c.args.sector c.args.hex _
    (subst (λ (b : List ℕ). whole_sectors S (length b) ≡ Err (refusals.BadLength count c.sector_size-sectorsize.result)) spelled said)

pub returns : goal.returns
returns g c =
    let size : c.sector_size-sectorsize.result ≡ c.args.provider.now.keying.sectorsize = c.sector_size-sectorsize.ensures.size in
    let S = c.args.provider.now.keying.sectorsize in
    let count = c.decode-given.result in
    let bytes = take count c.decode-given.new.buffer in
    let spelled : bytes ≡ bytes_spelled (bytes_at c.args.line.now c.args.hex) = rw (← c.bytes_in.ensures) c.decode-given.ensures.bytes in
    let len : length bytes ≡ count = omega (arith, length-take count c.decode-given.new.buffer, c.decode-given.auto.buffer, c.requires.room, c.decode-given.ensures.bound) in
    let even : length bytes % S ≡ 0 = subst (λ (n : ℕ). n % S ≡ 0) (sym len) (subst (λ (s : ℕ). count % s ≡ 0) size c.if-given-sectorsize-ne0.false) in
    let sectors : count / c.sector_size-sectorsize.result ≡ length bytes / S = ap (λ (s : ℕ). count / s) size ∙ ap (λ (n : ℕ). n / S) (sym len) in
    λ cabinet entropy. rw c.submit_answer.ensures
    (write_submitted g.D.Disk.state cabinet entropy c.args.provider.now c.submit.new.on c.args.queue.now c.submit.new.self c.args.line.now c.args.sector c.args.hex bytes c.submit.result spelled
    (omega (arith, len, c.if-given-eq0.false)) (omega (arith, len, c.decode-given.ensures.bound)) even c.submit.ensures.stays
    (subst (λ (n : ℕ). SubmitAnswers c.args.provider.now.keying c.args.provider.now.readonly (g.D.Disk.state c.args.provider.now.disk) (Write c.args.sector n) bytes c.args.queue.now c.submit.new.self c.submit.result) sectors c.submit.ensures.answer))
