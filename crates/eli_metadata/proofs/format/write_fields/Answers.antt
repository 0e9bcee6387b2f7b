use Rattle.std.proofs.Common.{◌≡◌, length}
use Rattle.eli_metadata.specs.Format.{field_bytes}
use Rattle.eli_metadata.proofs.format.write_fields.Goals as goal

pub returns-clause-bytes : goal.returns-clause-bytes
unfolding field_bytes
returns-clause-bytes c =
    let salt : length c.args.meta.now.salt ≡ 64 = cc in
    let slots : length c.args.meta.now.mkeys ≡ 384 = cc in
    let first = rw salt at c.put.ensures.bytes in
    let second = rw slots at c.put-2.ensures.bytes in
    cc
