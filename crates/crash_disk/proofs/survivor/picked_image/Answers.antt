use Rattle.std.proofs.Common.{arith, length, take}
use Rattle.std.proofs.lemmas.List.{get_or_default}
use Rattle.block_traits.specs.Content.{at_moment}
use Rattle.crash_disk.specs.SectorLog.{content_of}
use Rattle.crash_disk.specs.Survivor.{choice_of}
use Rattle.crash_disk.proofs.SurvivorLemmas.{All-image, AllGood-more, IsContentOf-at_moment, IsImage-more, IsImage-start}
use Rattle.crash_disk.proofs.survivor.picked_image.Goals as goal

pub loop-index-init : goal.loop-index-init
loop-index-init c = record {
  image = IsImage-start (at_moment c.args.moment (content_of c.args.disk.now.log)) c.in-Ok.image.items c.in-Ok.ensures;
  good = λ i pick small. absurd (omega arith);
}

pub loop-index-preserved : goal.loop-index-preserved
loop-index-preserved c =
    let left = at_moment c.args.moment (content_of c.args.disk.now.log) in
    let picks = c.args.picks.now in
    let index = c.loop-index.index in
    let good = rw (c.base-base.ensures.base, c.history.ensures) at c.in-Some.ensures.good in
    record {
      image = IsImage-more left picks c.loop-index.image.items index _ c.in-Some.bytes c.loop-index-test.true (get_or_default picks index _ _ c.loop-index-test.true) good c.loop-index.invariant.image;
      good = AllGood-more left picks index _ c.in-Some.bytes c.loop-index-test.true good c.loop-index.invariant.good;
    }

pub returns-clause-sectors : goal.returns-clause-sectors
returns-clause-sectors c =
    let log = c.args.disk.now.log in
    let left = at_moment c.args.moment (content_of log) in
    All-image (length log.base.items) left (choice_of left (take c.loop-index.index c.args.picks.now)) c.loop-index.image.items (IsContentOf-at_moment (length log.base.items) c.args.moment (content_of log) log.fits) c.loop-index.invariant.image
