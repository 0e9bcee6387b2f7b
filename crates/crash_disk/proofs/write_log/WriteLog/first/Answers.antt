use Rattle.std.proofs.Common.{ap, ◌∙◌, sym, List}
use Rattle.block_traits.specs.declared.disk.Event.{Event}
use Rattle.block_traits.specs.Content.{present_after}
use Rattle.crash_disk.proofs.Writes.{get_or-written}
use Rattle.crash_disk.proofs.write_log.WriteLog.first.Goals as goal

pub returns : goal.returns
returns c =
    let log = c.args.self.now in
    c.value_after.ensures
    ∙ ap (λ (events : List Event). present_after events c.args.n c.zeros.result) c.deref.ensures.value
    ∙ ap (present_after log.first.items c.args.n) c.zeros.ensures
    ∙ sym (get_or-written log.size c.args.n log.first.items c.requires)
