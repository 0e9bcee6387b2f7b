use Rattle.std.proofs.Common.{rules}
use Rattle.std.proofs.lemmas.Iterator.{items_from_collect}
use Rattle.std.proofs.lemmas.Iterator.Adapters.{YieldsList-from_skip, YieldsList-from_vec}
use Rattle.std.specs.Vec.Iter.{into_iter_items}
use Rattle.file_edge.proofs.words.words_of.Goals as goal

pub returns-in-Ok : goal.returns-in-Ok
returns-in-Ok c = rw (c.in-Ok.is) (items_from_collect c.collect.result c.collect.ensures.ran (YieldsList-from_skip 1 (YieldsList-from_vec (into_iter_items c.in-Ok.args) (search rules) (search (rules, c.in-Ok.args.rest.ok.0))) c.skip.ensures.count))
