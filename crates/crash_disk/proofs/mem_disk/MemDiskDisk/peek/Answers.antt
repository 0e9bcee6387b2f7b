-- Each sector is put where it is to stand.
use Rattle.std.proofs.Common.{◌≡◌, ◌*◌, ◌≤◌, length, ap, ◌∙◌, arith}
use Rattle.crash_disk.specs.SectorLog.{content_of}
use Rattle.crash_disk.proofs.Looks.{Looked-next}
use Rattle.crash_disk.proofs.mem_disk.MemDiskDisk.peek.Goals as goal

pub loop-j-preserved : goal.loop-j-preserved
loop-j-preserved c =
    let put = c.copy_from_slice.ensures.after in
    let long : length c.copy_from_slice.new.self ≡ 512 = omega (arith, ap length put) in
    let room : 512 * c.loop-j.j ≤ length c.loop-j.into = omega arith in
    Looked-next (content_of c.args.self.now.log) c.args.first c.loop-j.j _ c.loop-j.into c.copy_from_slice.new.self c.loop-j.invariant (put ∙ c.get.ensures) long room
