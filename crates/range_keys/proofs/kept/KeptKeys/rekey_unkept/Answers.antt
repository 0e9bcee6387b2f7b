use Rattle.range_keys.proofs.KeptLemmas.{is-expanded}
use Rattle.range_keys.proofs.kept.KeptKeys.rekey_unkept.Goals as goal

pub returns-in-Some-clause-unkept : goal.returns-in-Some-clause-unkept
returns-in-Some-clause-unkept c =
    is-expanded c.args.cipher c.args.keylen c.args.base.now c.range_key.result 0 c.expanded.result c.range_key.ensures c.expanded.ensures.first c.expanded.ensures.second
