-- The write of the provider, opened, is that of the disk upon it.
use Rattle.std.proofs.Common.{◌-◌, ◌/◌, [], ◌∷◌, length, Result, refl, subst}
use Rattle.block_traits.specs.declared.disk.Event.TheVariants.{Write}
use Rattle.provider.specs.Answers.{WriteAnswers, request}
use Rattle.sector_runs.specs.Writing.{data_writes}
use Rattle.provider.specs.declared.faults.WriteFault.{WriteFault}
use Rattle.provider_disk.proofs.OpenedLemmas.{opened-writes}
use Rattle.provider_disk.proofs.UponLemmas.{upon_one, logs_upon, fails_upon, count_of, write_fails}
use Rattle.provider_disk.proofs.provider_disk.ProviderDiskDisk.write.Goals as goal

pub returns-in-Ok-clause-ok : goal.returns-in-Ok-clause-ok
returns-in-Ok-clause-ok g c =
    let p = c.args.self.now in
    let k = p.on.keying in
    let n = c.args.n in
    let bytes = c.args.from.now in
    let one = count_of k bytes p.single c.told-from in
    logs_upon k (data_writes k n (length bytes / k.sectorsize) bytes) (Write n bytes ∷ [])
    (opened-writes k ((g.D.Disk.state p.on.disk).size - 1) n (length bytes / k.sectorsize) bytes p.valid p.single c.fits-from c.told-from c.requires one)
    (upon_one refl refl refl refl refl) (upon_one c.write.ensures.kept.keying refl refl refl refl) c.in-Ok.ensures.answer.1.logs

pub returns-in-Err-clause-err : goal.returns-in-Err-clause-err
returns-in-Err-clause-err g c =
    let p = c.args.self.now in
    let k = p.on.keying in
    let n = c.args.n in
    let bytes = c.args.from.now in
    let state = g.D.Disk.state in
    let A : Result (Unit {0}) WriteFault → Type 0 = λ r. WriteAnswers state (request state p.on n bytes) bytes p.on c.write.new.self r in
    let one = count_of k bytes p.single c.told-from in
    let fails = write_fails state n bytes p.on c.write.new.self c.in-Err.field-0 p.single p.writable c.told-from c.requires (subst A c.in-Err.is c.write.ensures.answer) in
    fails_upon k (data_writes k n (length bytes / k.sectorsize) bytes) (Write n bytes ∷ [])
    (opened-writes k ((state p.on.disk).size - 1) n (length bytes / k.sectorsize) bytes p.valid p.single c.fits-from c.told-from c.requires one)
    (upon_one refl refl refl refl refl) (upon_one c.write.ensures.kept.keying refl refl refl refl) fails.fails
