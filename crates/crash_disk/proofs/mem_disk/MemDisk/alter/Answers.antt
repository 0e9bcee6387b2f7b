use Rattle.std.proofs.Common.{ap, ap₂, ◌∙◌, [], List, ℕ, set}
use Rattle.block_traits.specs.Content.{Content}
use Rattle.crash_disk.specs.MemDisk.{MemState}
use Rattle.crash_disk.specs.Replay.{content}
use Rattle.crash_disk.proofs.Replay.{replayed-present}
use Rattle.crash_disk.proofs.mem_disk.MemDisk.alter.Goals as goal

pub returns-clause-after : goal.returns-clause-after
returns-clause-after c =
    let disk = c.args.self.now in
    let state = λ (told : Content) (room : ℕ). let s : MemState = record { content = told; room = room; faults = disk.faults; plan = disk.plan } in s in
    let altered = λ (sectors : List (List ℕ)). content (set sectors c.args.n c.args.bytes.now) [] in
    ap₂ state (c.alter.ensures.content ∙ ap altered (replayed-present disk.log.base.items disk.log.events.items)) c.alter.ensures.room
