use Rattle.std.proofs.Common.{arith, sym, subst}
use Rattle.sha_lanes.proofs.BlockLaws.{IsTail}
use Rattle.sha_stream.proofs.LaneLaws.{below_four}
use Rattle.sha_lanes.proofs.LaneLaws.{bytes_of_is}
use Rattle.sha_lanes.proofs.blocks.tails_of.Goals as goal

pub returns : goal.returns
returns c = record {
  long = below_four _ (omega arith) (omega arith) (omega arith) (omega arith);
  tails = below_four _ (subst (IsTail c.tail_of.result) (sym (bytes_of_is c.args.messages 0)) c.tail_of.ensures)
      (subst (IsTail c.tail_of-2.result) (sym (bytes_of_is c.args.messages 1)) c.tail_of-2.ensures)
      (subst (IsTail c.tail_of-3.result) (sym (bytes_of_is c.args.messages 2)) c.tail_of-3.ensures)
      (subst (IsTail c.tail_of-4.result) (sym (bytes_of_is c.args.messages 3)) c.tail_of-4.ensures);
}
