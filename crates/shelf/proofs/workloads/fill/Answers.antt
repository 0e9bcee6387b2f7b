use Rattle.std.proofs.Common.{◌≡◌, ◌∙◌, ◌+◌, ◌-◌, arith, sym}
use Rattle.std.proofs.lemmas.Result.{err_from_is_err_and}
use Rattle.shelf.proofs.WorkloadRows.{fill_only_read, fill_passes, fill_writes}
use Rattle.shelf.proofs.workloads.fill.Goals as goal

pub returns-then-read_only : goal.returns-then-read_only
returns-then-read_only g c =
    λ queue cabinet entropy. fill_only_read g.D.Disk.state queue cabinet entropy c.args.provider.now c.args.seed c.args.start c.args.count (sym c.read_only.ensures ∙ c.if-read_only.true)

pub returns-in_err-check_range : goal.returns-in_err-check_range
returns-in_err-check_range g c =
    let p = err_from_is_err_and c.from_residual.result c.from_residual.ensures.1 in
    rw (p.1, p.2) (λ queue cabinet entropy. fill_passes g.D.Disk.state queue cabinet entropy c.args.provider.now c.args.seed c.args.start c.args.count c.in_err-check_range.field-0.0
    (sym c.read_only.ensures ∙ c.if-read_only.false) c.in_err-check_range.ensures.answer)

pub returns : goal.returns
returns g c =
    let count : c.args.start + c.args.count - c.args.start ≡ c.args.count = omega arith in
    let w = c.write_words-written in
    rw c.or_device_fault.ensures (λ queue cabinet entropy. fill_writes g.D.Disk.state queue cabinet entropy c.args.provider.now w.new.provider c.args.seed c.args.start c.args.count (c.args.start + c.args.count - c.args.start) c.seed_from_u64-generator.result
    w.result (sym c.read_only.ensures ∙ c.if-read_only.false) c.in_ok-check_range.ensures.answer w.ensures.kept count c.seed_from_u64-generator.ensures w.ensures.ok w.ensures.err w.ensures.unasked)
