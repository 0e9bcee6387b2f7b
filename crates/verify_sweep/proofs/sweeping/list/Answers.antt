use Rattle.std.proofs.Common.{◌+◌, ◌-◌, ◌*◌, ◌∙◌, arith}
use Rattle.verify_sweep.proofs.Listing.{Lists-none, Lists-one}
use Rattle.verify_sweep.proofs.sweeping.list.Goals as goal

pub returns-then-accepted : goal.returns-then-accepted
returns-then-accepted c = Lists-none c.args.n c.args.bad c.args.accepted c.args.found.now c.if-accepted.true

pub returns : goal.returns
returns c =
    Lists-one c.args.n c.args.bad (8 * c.args.bad + 8 - 8 * c.args.bad) c.args.accepted c.args.found.now c.copy_from_slice.new.self c.if-accepted.false (c.copy_from_slice.ensures.after ∙ c.to_le_bytes.ensures) (omega arith)
