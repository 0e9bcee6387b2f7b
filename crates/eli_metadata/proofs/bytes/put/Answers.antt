use Rattle.std.proofs.Common.{◌≡◌, ◌+◌, ◌-◌, length, ap, arith}
use Rattle.std.proofs.lemmas.Slice.{drop-put_mid}
use Rattle.eli_metadata.proofs.bytes.put.Goals as goal

pub returns-clause-behind : goal.returns-clause-behind
returns-clause-behind c =
    let size : length c.copy_from_slice.new.self ≡ length c.args.bytes.now = ap length c.copy_from_slice.ensures.after in
    drop-put_mid c.args.place (c.args.place + length c.args.bytes.now - c.args.place) c.args.into.now c.copy_from_slice.new.self (c.args.place + length c.args.bytes.now)
    (omega arith) (omega (arith, c.requires)) (omega (arith, size))
