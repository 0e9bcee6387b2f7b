use Rattle.std.proofs.Common.{◌≡◌, ◌+◌, ◌*◌, ◌/◌, ◌%◌, bit_and, ap, arith}
use Rattle.std.proofs.lemmas.Nat.{and_mask}
use Rattle.aes_planes.specs.Blocks.{plane_of}
use Rattle.aes_planes.proofs.round_keys.plane.Goals as goal

pub returns : goal.returns
returns c =
    let low : bit_and c.args.k 18446744073709551615 ≡ c.args.k % 18446744073709551616 = and_mask c.args.k 64 in
    let whole : bit_and c.args.k 18446744073709551615 + 18446744073709551616 * (c.args.k / 18446744073709551616 + 0) ≡ c.args.k = omega (arith, low) in
    ap plane_of whole
