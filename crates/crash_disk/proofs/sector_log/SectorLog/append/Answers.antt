use Rattle.std.proofs.Common.{arith, ap, ◌∙◌, sym, ◌≡◌, ◌∷◌, [], List, ℕ, length, drop, ◌++◌}
use Rattle.std.proofs.lemmas.List.{take_at}
use Rattle.std.proofs.lemmas.List.Elements.{All-cons, All-nil}
use Rattle.std.proofs.lemmas.Grind.{common_steps}
use Rattle.block_traits.specs.Content.{IsEventOf}
use Rattle.block_traits.proofs.Contents.{IsContentOf-more}
use Rattle.crash_disk.specs.Replay.{content, replayed}
use Rattle.crash_disk.proofs.Replay.{length-replayed, replayed-append}
use Rattle.crash_disk.proofs.sector_log.SectorLog.append.Goals as goal

pub apply-requires : goal.apply-requires
apply-requires c =
    let log = c.args.self.now in
    let same : length c.deref_mut.result.now ≡ length log.base.items = ap length (c.deref_mut.ensures.value ∙ log.replayed) ∙ length-replayed log.base.items log.events.items in
    rw same c.requires.fits

pub invariant_of-self : goal.invariant_of-self
invariant_of-self c =
    let log = c.args.self.now in
    let event = c.args.event in
    let one = All-cons (IsEventOf (length log.base.items)) event [] c.requires.fits (All-nil (IsEventOf (length log.base.items))) in
    let events : c.push_reserved.new.self.items ≡ log.events.items ++ event ∷ [] = c.push_reserved.ensures.items in
    let same : length c.apply.new.sectors ≡ log.present.len = c.apply.auto.sectors ∙ c.deref_mut.ensures.len in
    record {
      small = log.small;
      fits = rw events (IsContentOf-more (length log.base.items) (event ∷ []) (content log.base.items log.events.items) log.fits one);
      replayed =
          take_at c.apply.new.sectors (drop (length c.apply.new.sectors) log.present.items) log.present.len same
          ∙ c.apply.ensures
          ∙ ap (λ (sectors : List (List ℕ)). replayed sectors (event ∷ [])) (c.deref_mut.ensures.value ∙ log.replayed)
          ∙ sym (replayed-append log.base.items log.events.items (event ∷ []))
          ∙ ap (replayed log.base.items) (sym events);
      within = grind (arith, common_steps);
      reserved = grind (arith, common_steps);
    }
