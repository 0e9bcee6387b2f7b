use Rattle.std.proofs.Common.{map, rules, string_bytes}
use Rattle.geli_core.proofs.top_call.geli_main.Goals as goal

pub returns-in_default-clause-runs : goal.returns-in_default-clause-runs
returns-in_default-clause-runs g c = c.end_without_memory.ensures (map string_bytes c.args.words.now) _

pub returns-clause-runs : goal.returns-clause-runs
returns-clause-runs g c =
    let lawful = c.run.ensures.runs (map string_bytes c.args.words.now) c.in-Ok.ensures.says in
    search (rules, lawful)
