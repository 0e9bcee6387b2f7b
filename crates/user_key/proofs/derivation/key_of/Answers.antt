use Rattle.std.proofs.Common.{[]}
use Rattle.user_key.proofs.derivation.key_of.Goals as goal

pub returns : goal.returns
returns c =
    c.finish.ensures [] _ (c.update-3.ensures [] _ (c.update-2.ensures [] _ (c.update.ensures [] _ c.new-hasher.ensures)))
