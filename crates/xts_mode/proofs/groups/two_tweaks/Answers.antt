use Rattle.std.proofs.Common.{ℕ, sym, ap, ◌∙◌}
use Rattle.std.specs.Int.{w128, to_le_bytes}
use Rattle.xts_mode.specs.Halves.{of_halves}
use Rattle.xts_mode.proofs.GroupLaws.{next_tweak}
use Rattle.xts_mode.proofs.Halves.{digits_are_bytes}
use Rattle.xts_mode.proofs.Tweaks.{tweak_start}
use Rattle.xts_mode.proofs.groups.two_tweaks.Goals as goal

pub returns-clause-first : goal.returns-clause-first
returns-clause-first c = c.pair.ensures.first ∙ digits_are_bytes (of_halves c.args.t)

pub returns-clause-second : goal.returns-clause-second
returns-clause-second c =
    let t : ℕ = of_halves c.args.t in
    c.pair.ensures.second ∙ digits_are_bytes (of_halves c.doubled-second.result)
    ∙ ap (to_le_bytes w128) (next_tweak t t (of_halves c.doubled-second.result) 0 (sym (tweak_start t)) c.doubled-second.ensures.value)

pub returns-clause-next : goal.returns-clause-next
returns-clause-next c =
    let t : ℕ = of_halves c.args.t in
    let second = next_tweak t t (of_halves c.doubled-second.result) 0 (sym (tweak_start t)) c.doubled-second.ensures.value in
    next_tweak t (of_halves c.doubled-second.result) (of_halves c.doubled.result) 1 second c.doubled.ensures.value

pub returns-clause-long : goal.returns-clause-long
returns-clause-long c = (c.pair.ensures.long, c.doubled.ensures.long)
