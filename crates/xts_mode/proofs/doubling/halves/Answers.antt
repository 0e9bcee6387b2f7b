use Rattle.std.proofs.Common.{◌≡◌, ◌%◌, bit_and, arith}
use Rattle.std.proofs.lemmas.Nat.{and_mask}
use Rattle.xts_mode.proofs.doubling.halves.Goals as goal

pub returns-clause-value : goal.returns-clause-value
returns-clause-value c =
    let low : bit_and c.args.t 18446744073709551615 ≡ c.args.t % 18446744073709551616 = and_mask c.args.t 64 in
    omega (arith, low)
