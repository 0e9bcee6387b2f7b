use Rattle.std.proofs.Common.{◌≡◌, ℕ, ◌+◌, ◌-◌, arith, subst}
use Rattle.std.proofs.lemmas.Result.{err_from_is_err_and}
use Rattle.shelf.proofs.WorkloadRows.{sum_passes, sum_reads}
use Rattle.shelf.proofs.workloads.sum.Goals as goal
use Rattle.command_rows.specs.verbs.Sum.{SumAnswer}

pub returns-in_err-check_range : goal.returns-in_err-check_range
returns-in_err-check_range g c =
    let p = err_from_is_err_and c.from_residual.result c.from_residual.ensures.1 in
    rw (p.1, p.2) (λ queue cabinet entropy. sum_passes g.D.Disk.state queue cabinet entropy c.args.provider.now c.args.start c.args.count c.in_err-check_range.field-0.0 c.in_err-check_range.ensures.answer)

pub returns : goal.returns
returns g c =
    let state = g.D.Disk.state in
    let old = c.args.provider.now in
    let new = c.digest_of.new.provider in
    let count : c.args.start + c.args.count - c.args.start ≡ c.args.count = omega arith in
    let answer = subst (λ (n : ℕ). SumAnswer old.keying c.args.start n (state old.disk) c.digest_of.result (state new.disk)) count c.digest_of.ensures.answer in
    λ queue cabinet entropy. sum_reads state queue cabinet entropy old new c.args.start c.args.count c.digest_of.result c.in_ok-check_range.ensures.answer c.digest_of.ensures.kept answer
