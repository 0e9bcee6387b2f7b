use Rattle.std.proofs.Common.{sym, arith}
use Rattle.auth_sectors.proofs.Openings.{tag_tells}
use Rattle.auth_sectors.proofs.unit_accepted.Goals as goal

pub returns : goal.returns
returns c =
    sym (tag_tells c.args.ring.now.keying c.args.offset c.tag_size-tag.result c.args.size c.args.from.now c.tag_of-computed.result c.has_tag.result (omega arith)
    c.tag_size-tag.ensures c.tag_of-computed.ensures c.has_tag.ensures)
