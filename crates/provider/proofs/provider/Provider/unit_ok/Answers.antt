use Rattle.std.proofs.Common.{◌∙◌, arith}
use Rattle.sector_runs.proofs.Verdicts.{accepted_alone}
use Rattle.provider.proofs.provider.Provider.unit_ok.Goals as goal

pub returns-clause-answer : goal.returns-clause-answer
returns-clause-answer g c =
    c.accepts.ensures
    ∙ c.judge.ensures.each 0 (omega (arith, c.judge.ensures.some))
    ∙ accepted_alone c.args.self.now.keying c.args.n c.args.from.now c.told-from
