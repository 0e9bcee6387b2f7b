use Rattle.std.proofs.Common.{arith}
use Rattle.eli_base.proofs.laws.units_without_authentication.Goals as goal

pub returns : goal.returns
returns c = record { units = λ size low whole. omega arith; last = λ size low whole. omega arith }
