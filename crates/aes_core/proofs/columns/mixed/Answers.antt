use Rattle.std.proofs.Common.{◌/◌, ◌%◌, ◌^◌, arith}
use Rattle.aes_core.proofs.ColumnLaws.{column_is}
use Rattle.aes_core.proofs.columns.mixed.Goals as goal

pub returns : goal.returns
returns c = column_is (c.args.a % 256) (c.args.b / 2 ^ 8 % 256) (c.args.c / 2 ^ 16 % 256) (c.args.d / 2 ^ 24) (omega arith) (omega arith) (omega arith) (omega arith)
