use Rattle.std.proofs.Common.{arith, ap, ◌∙◌, ◌≡◌, [], List, ℕ, drop, length, get_or, set}
use Rattle.std.proofs.lemmas.List.{get_or_default, take_at}
use Rattle.std.proofs.lemmas.Result.{err_from_is_err_and}
use Rattle.block_traits.specs.Content.{at_moment}
use Rattle.block_traits.proofs.Images.{IsTorn-image}
use Rattle.crash_disk.specs.SectorLog.{content_of}
use Rattle.crash_disk.specs.Survivor.{choice_of}
use Rattle.crash_disk.proofs.SurvivorLemmas.{IsContentOf-at_moment}
use Rattle.crash_disk.proofs.Tears.{AllGoodTears-more, IsTorn-more, IsTornImage-more, IsTornImage-start}
use Rattle.crash_disk.proofs.survivor.survivor_torn.Goals as goal

pub returns-in_err-image-clause-bad : goal.returns-in_err-image-clause-bad
returns-in_err-image-clause-bad c =
    let p = err_from_is_err_and c.from_residual.result c.from_residual.ensures.1 in
    rw (p.1, p.2) (c.in_err-image.ensures.bad c.args.torn.now)

pub loop-index-init : goal.loop-index-init
loop-index-init c =
    let log = c.args.disk.now.log in
    let left = at_moment c.args.moment (content_of log) in
    let choice = choice_of left c.args.picks.now in
    let fits = IsContentOf-at_moment (length log.base.items) c.args.moment (content_of log) log.fits in
    record {
      image = IsTornImage-start left choice c.in_ok-image.image.items c.in_ok-image.ensures.image;
      torn = IsTorn-image (length log.base.items) left choice c.in_ok-image.image.items fits c.in_ok-image.ensures.image;
      good = λ i tear small. absurd (omega arith);
    }

pub loop-index-preserved : goal.loop-index-preserved
loop-index-preserved c =
    let left = at_moment c.args.moment (content_of c.args.disk.now.log) in
    let picks = c.args.picks.now in
    let torn = c.args.torn.now in
    let index = c.loop-index.index in
    let tear = get_or torn index (record { n = 0; bytes = [] }) in
    let here = get_or_default torn index (record { n = 0; bytes = [] }) tear c.loop-index-test.true in
    let good = rw (c.base-base.ensures.base, c.history.ensures) at c.if-not-can_tear.ensures.good in
    let items = c.loop-index.image.items in
    let size : length c.put.new.image ≡ c.loop-index.image.len = c.put.auto.image ∙ c.deref_mut.ensures.len in
    let after =
    take_at c.put.new.image (drop (length c.put.new.image) items) c.loop-index.image.len size
    ∙ c.put.ensures.after
    ∙ ap (λ (image : List (List ℕ)). set image tear.n tear.bytes) c.deref_mut.ensures.value in
    rw after record {
      image = IsTornImage-more left (choice_of left picks) picks torn items index tear c.loop-index-test.true here good c.loop-index.invariant.image;
      torn = IsTorn-more left items tear.n tear.bytes c.loop-index.invariant.torn good.inside good.unsettled c.put.ensures.sector;
      good = AllGoodTears-more left picks torn index (record { n = 0; bytes = [] }) c.loop-index-test.true good c.loop-index.invariant.good;
    }
