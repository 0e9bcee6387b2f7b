use Rattle.std.proofs.Common.{rules, arith, ap, ◌∙◌, refl, ◌≡◌, ◌<◌, ◌^◌, [], length, length-set, set, All}
use Rattle.std.proofs.lemmas.Grind.{common_steps}
use Rattle.std.proofs.lemmas.List.Elements.{All-nil, All-set}
use Rattle.block_traits.specs.Content.{IsContentOf, IsEventOf, IsSector}
use Rattle.crash_disk.specs.Replay.{content}
use Rattle.crash_disk.proofs.Replay.{All-replayed, length-replayed}
use Rattle.crash_disk.proofs.sector_log.SectorLog.alter.Goals as goal

pub index_mut-requires : goal.index_mut-requires
index_mut-requires c =
    let log = c.args.self.now in
    let same : length log.present.items ≡ length log.base.items = ap length log.replayed ∙ length-replayed log.base.items log.events.items in
    omega (arith, same, c.requires)

pub copy_from_slice-requires : goal.copy_from_slice-requires
copy_from_slice-requires c =
    let log = c.args.self.now in
    let same : length log.present.items ≡ length log.base.items = ap length log.replayed ∙ length-replayed log.base.items log.events.items in
    grind (arith, common_steps, same, length-set)

pub invariant_of-self : goal.invariant_of-self
invariant_of-self c =
    let log = c.args.self.now in
    let bytes = c.args.bytes.now in
    let sector : length bytes ≡ 512 = search rules in
    let present = set log.present.items c.args.n bytes in
    let base : c.copy_from_slice.new.self.items ≡ present = c.copy_from_slice.ensures.items ∙ c.deref.ensures.value in
    let none : c.clear.new.self.items ≡ [] = c.clear.ensures.items in
    let size : length present ≡ length log.base.items = length-set log.present.items c.args.n bytes ∙ ap length log.replayed ∙ length-replayed log.base.items log.events.items in
    let small : length present < 2 ^ 44 = omega (arith, size, log.small) in
    let old : All IsSector log.present.items = rw log.replayed (All-replayed (length log.base.items) log.base.items log.events.items log.fits.base log.fits.events) in
    let fits : IsContentOf (length present) (content present []) = record {
      sectors = refl;
      base = All-set IsSector log.present.items c.args.n bytes sector old;
      events = All-nil (IsEventOf (length present));
    } in
    record {
      small = rw base small;
      fits = rw (base, none) fits;
      replayed = rw (base, none) refl;
      within = grind (arith, common_steps);
      reserved = grind (arith, common_steps);
    }
