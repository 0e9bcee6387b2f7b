use Rattle.std.proofs.Common.{List, ℕ, length, ap, ◌∙◌}
use Rattle.sealing.specs.Runs.{opened_run}
use Rattle.auth_sectors.proofs.Openings.{opens_accepted}
use Rattle.auth_sectors.proofs.open_accepted.Goals as goal

pub returns-clause-opened : goal.returns-clause-opened
returns-clause-opened c =
    let k = c.args.ring.now.keying in
    opens_accepted k c.args.offset c.tag_size-size.result (length c.args.out.now) c.args.from.now c.open_run.new.block c.requires.accepted c.tag_size-size.ensures
    (c.open_run.ensures.opened ∙ ap (λ (t : List ℕ). opened_run k c.args.offset t) c.copy_from_slice.ensures.after)
