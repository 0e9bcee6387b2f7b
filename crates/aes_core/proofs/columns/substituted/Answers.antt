use Rattle.std.proofs.Common.{◌/◌, ◌%◌, ◌^◌, arith}
use Rattle.aes_core.proofs.ColumnLaws.{substituted_is}
use Rattle.aes_core.proofs.columns.substituted.Goals as goal

pub returns : goal.returns
returns c = substituted_is (c.args.a % 256) (c.args.b / 2 ^ 8 % 256) (c.args.c / 2 ^ 16 % 256) (c.args.d / 2 ^ 24) (omega arith) (omega arith) (omega arith) (omega arith)
