use Rattle.std.proofs.Common.{ℕ, sym, subst, arith}
use Rattle.std.proofs.lemmas.Grind.{common_steps}
use Rattle.block_traits.specs.Disk.{FailsIn, Logs}
use Rattle.eli_metadata.specs.Place.{replace_events}
use Rattle.backup_restore.specs.Restoring.{GivesMetadata, restored}
use Rattle.backup_restore.proofs.restoring.restore.Goals as goal

pub returns-in-Ok : goal.returns-in-Ok
returns-in-Ok g c =
    let disk = g.D.Disk.state c.args.disk.now in
    let after = g.D.Disk.state c.replace_metadata.new.disk in
    let m = c.in_ok-meta.meta in
    let gives : GivesMetadata c.args.bytes.now c.args.force c.sectors-sectors.result m = record {
      given = c.in_ok-meta.ensures.given;
      served = sym {b = restored c.args.bytes.now c.args.force c.sectors-sectors.result} c.in_ok-meta.ensures.answer;
      fits = c.fits_types.ensures;
    } in
    let logs : Logs (replace_events disk m) disk after = c.in-Ok.ensures.ok in
    record {
      gives = subst (λ (n : ℕ). GivesMetadata c.args.bytes.now c.args.force n m) c.sectors-sectors.ensures gives;
      logs = logs;
      unasked = c.replace_metadata.ensures.unasked;
    }

pub returns-in-Err : goal.returns-in-Err
returns-in-Err g c =
    let disk = g.D.Disk.state c.args.disk.now in
    let after = g.D.Disk.state c.replace_metadata.new.disk in
    let m = c.in_ok-meta.meta in
    let gives : GivesMetadata c.args.bytes.now c.args.force c.sectors-sectors.result m = record {
      given = c.in_ok-meta.ensures.given;
      served = sym {b = restored c.args.bytes.now c.args.force c.sectors-sectors.result} c.in_ok-meta.ensures.answer;
      fits = c.fits_types.ensures;
    } in
    let fails : FailsIn (replace_events disk m) disk after = c.in-Err.ensures.err in
    record {
      m = m;
      gives = subst (λ (n : ℕ). GivesMetadata c.args.bytes.now c.args.force n m) c.sectors-sectors.ensures gives;
      fails = fails;
      unasked = c.replace_metadata.ensures.unasked;
    }

pub returns-in_err-meta : goal.returns-in_err-meta
returns-in_err-meta g c = grind (arith, common_steps)
