use Rattle.std.proofs.Common.{arith}
use Rattle.xts_mode.proofs.Tweaks.{xts_open-xts_seal}
use Rattle.xts_mode.proofs.opening_takes_it_back.Goals as goal

pub returns : goal.returns
returns c =
    xts_open-xts_seal c.args.k1.now c.args.k2.now c.args.plain.now c.args.tweak c.is_of_a_key.ensures (λ k. omega (arith, c.type_inv.plain k)) c.requires
