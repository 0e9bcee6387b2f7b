use Rattle.std.proofs.Common.{arith}
use Rattle.aes_core.proofs.Boxes.{times-one, times-two, times-three}
use Rattle.aes_core.proofs.steps.mixed_byte.Goals as goal

pub returns : goal.returns
returns c =
    rw (
      c.times_x.ensures,
      c.times_x-2.ensures,
      times-two c.args.a (omega arith),
      times-three c.args.b (omega arith),
      times-one c.args.c (omega arith),
      times-one c.args.d (omega arith),
    )
