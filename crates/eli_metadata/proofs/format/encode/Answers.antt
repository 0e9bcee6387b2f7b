use Rattle.std.proofs.Common.{◌≡◌, length, ◌∙◌}
use Rattle.eli_metadata.proofs.Laws.{encoded-taken, metadata_in-encoded}
use Rattle.eli_metadata.proofs.format.encode.Goals as goal

pub returns-clause-bytes : goal.returns-clause-bytes
returns-clause-bytes c =
    let digest : length c.digest-digest.result ≡ 16 = cc in
    let hashed = rw (digest, c.digest-digest.ensures, c.write_fields.ensures.bytes) at c.put.ensures.bytes in
    encoded-taken c.args.meta.now c.put.new.into (c.put.auto.into ∙ c.write_fields.array_long) hashed

pub returns-clause-again : goal.returns-clause-again
returns-clause-again c served =
    let digest : length c.digest-digest.result ≡ 16 = cc in
    let hashed = rw (digest, c.digest-digest.ensures, c.write_fields.ensures.bytes) at c.put.ensures.bytes in
    let salt : length c.args.meta.now.salt ≡ 64 = cc in
    let slots : length c.args.meta.now.mkeys ≡ 384 = cc in
    rw (encoded-taken c.args.meta.now c.put.new.into (c.put.auto.into ∙ c.write_fields.array_long) hashed) (metadata_in-encoded c.args.meta.now c.write_fields.ensures.range salt slots served)
