-- Each sector is put where it is to stand.
use Rattle.std.proofs.Common.{◌≡◌, ◌*◌, ◌≤◌, length, ap, ◌∙◌, arith}
use Rattle.std.proofs.lemmas.Grind.{common_steps}
use Rattle.crash_disk.specs.SparseDisk.{sparse_content}
use Rattle.crash_disk.proofs.Looks.{Looked-next}
use Rattle.crash_disk.proofs.sparse_disk.SparseDiskDisk.peek.Goals as goal

pub loop-j-preserved : goal.loop-j-preserved
loop-j-preserved c =
    let put = c.copy_from_slice.ensures.after in
    let long : length c.copy_from_slice.new.self ≡ 512 = omega (arith, ap length put) in
    let room : 512 * c.loop-j.j ≤ length c.loop-j.into = omega arith in
    Looked-next (sparse_content c.args.self.now.log) c.args.first c.loop-j.j _ c.loop-j.into c.copy_from_slice.new.self c.loop-j.invariant (put ∙ c.get.ensures) long room

pub returns-then-has_read-clause-stand : goal.returns-then-has_read-clause-stand
returns-then-has_read-clause-stand c = grind (arith, common_steps) steps 400000

pub returns-then-has_read-clause-stays : goal.returns-then-has_read-clause-stays
returns-then-has_read-clause-stays c = grind (arith, common_steps) steps 400000

pub returns-then-has_read-clause-answer : goal.returns-then-has_read-clause-answer
returns-then-has_read-clause-answer c = grind (arith, common_steps) steps 400000

pub returns-then-has_read-clause-after : goal.returns-then-has_read-clause-after
returns-then-has_read-clause-after c = grind (arith, common_steps) steps 400000

pub returns-clause-stand : goal.returns-clause-stand
returns-clause-stand c = grind (arith, common_steps) steps 400000

pub returns-clause-stays : goal.returns-clause-stays
returns-clause-stays c = grind (arith, common_steps) steps 400000

pub returns-clause-answer : goal.returns-clause-answer
returns-clause-answer c = grind (arith, common_steps) steps 400000

pub returns-clause-after : goal.returns-clause-after
returns-clause-after c = grind (arith, common_steps) steps 400000
