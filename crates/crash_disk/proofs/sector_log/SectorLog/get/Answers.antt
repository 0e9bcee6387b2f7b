use Rattle.std.proofs.Common.{arith, length, get_or, ap, ◌<◌, ◌≡◌, ◌∙◌, List, ℕ, []}
use Rattle.std.proofs.lemmas.List.{get_or_read}
use Rattle.crash_disk.proofs.Replay.{length-replayed, get_or-replayed}
use Rattle.crash_disk.proofs.sector_log.SectorLog.get.Goals as goal

pub index-requires : goal.index-requires
index-requires c =
    let log = c.args.self.now in
    let same : length log.present.items ≡ length log.base.items = ap length log.replayed ∙ length-replayed log.base.items log.events.items in
    omega (arith, same, c.requires)

pub returns : goal.returns
returns c =
    let log = c.args.self.now in
    let same : length log.present.items ≡ length log.base.items = ap length log.replayed ∙ length-replayed log.base.items log.events.items in
    let inside : c.args.n < length log.present.items = omega (arith, same, c.requires) in
    get_or_read log.present.items c.args.n c.index.result.now inside c.index.ensures []
    ∙ ap (λ (sectors : List (List ℕ)). get_or sectors c.args.n []) log.replayed
    ∙ get_or-replayed log.base.items log.events.items c.args.n c.requires
