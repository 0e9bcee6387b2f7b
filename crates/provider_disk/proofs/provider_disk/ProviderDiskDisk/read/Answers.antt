-- What the provider reads is what the disk upon it reports.
use Rattle.std.proofs.Common.{[], Result, refl, subst}
use Rattle.provider.specs.Answers.{ReadAnswers, request}
use Rattle.sector_runs.specs.declared.faults.ReadFault.{ReadFault}
use Rattle.provider_disk.proofs.UponLemmas.{upon_one, fails_upon, count_of, fails_once, gives_opened, read_fails, reads_once}
use Rattle.provider_disk.proofs.provider_disk.ProviderDiskDisk.read.Goals as goal

pub returns-in-Ok-clause-bytes : goal.returns-in-Ok-clause-bytes
returns-in-Ok-clause-bytes g c =
    let p = c.args.self.now in
    let below = g.D.Disk.state p.on.disk in
    gives_opened p.on.keying below.size c.args.n _ c.read.new.into below.content p.single below.well_formed.fits c.requires (count_of p.on.keying c.args.into.now p.single c.told-into)
    c.in-Ok.ensures.answer.reads

pub returns-in-Err-clause-err : goal.returns-in-Err-clause-err
returns-in-Err-clause-err g c =
    let p = c.args.self.now in
    let state = g.D.Disk.state in
    let P : Result (Unit {0}) ReadFault → Type 0 = λ r. ReadAnswers state (request state p.on c.args.n c.args.into.now) c.read.new.into p.on c.read.new.self r in
    let answer = subst P c.in-Err.is c.read.ensures.answer in
    fails_upon p.on.keying [] [] refl (upon_one refl refl refl refl refl) (upon_one c.read.ensures.kept.keying refl refl refl refl)
    (read_fails state c.args.n c.args.into.now c.read.new.into p.on c.read.new.self c.in-Err.field-0 p.single c.told-into c.requires answer)

pub returns-in-Ok-clause-asked : goal.returns-in-Ok-clause-asked
returns-in-Ok-clause-asked g c =
    let p = c.args.self.now in
    let state = g.D.Disk.state in
    reads_once p.on.keying _ (state p.on.disk).reads (state c.read.new.self.disk).reads p.single (count_of p.on.keying c.args.into.now p.single c.told-into) c.in-Ok.ensures.answer.asked

pub returns-in-Err-clause-asked : goal.returns-in-Err-clause-asked
returns-in-Err-clause-asked g c =
    let p = c.args.self.now in
    let state = g.D.Disk.state in
    let P : Result (Unit {0}) ReadFault → Type 0 = λ r. ReadAnswers state (request state p.on c.args.n c.args.into.now) c.read.new.into p.on c.read.new.self r in
    let answer = subst P c.in-Err.is c.read.ensures.answer in
    fails_once state c.args.n c.args.into.now c.read.new.into p.on c.read.new.self c.in-Err.field-0 p.single c.told-into c.requires answer
