use Rattle.std.proofs.Common.{rules, ◌≡◌, ◌<◌, ◌^◌, length}
use Rattle.std.specs.Prelude.{FitsSigned}
use Rattle.std.specs.Int.{w32}
use Rattle.eli_metadata.proofs.metadata.Metadata.fits_types.Goals as goal

pub returns : goal.returns
returns c =
    let m = c.args.self in
    let version : m.version < 2 ^ 32 = search rules in
    let flags : m.flags < 2 ^ 32 = search rules in
    let ealgo : m.ealgo < 2 ^ 16 = search rules in
    let keylen : m.keylen < 2 ^ 16 = search rules in
    let aalgo : m.aalgo < 2 ^ 16 = search rules in
    let provsize : m.provsize < 2 ^ 64 = search rules in
    let sectorsize : m.sectorsize < 2 ^ 32 = search rules in
    let iterations : FitsSigned w32 m.iterations = search rules in
    let salt : length m.salt ≡ 64 = search rules in
    let mkeys : length m.mkeys ≡ 384 = search rules in
    record {
      range = record {
        version = version;
        flags = flags;
        ealgo = ealgo;
        keylen = keylen;
        aalgo = aalgo;
        provsize = provsize;
        sectorsize = sectorsize;
        iterations = iterations;
      };
      salt = salt;
      mkeys = mkeys;
    }
