use Rattle.std.proofs.Common.{arith, ap, ◌∙◌, sym, [], List, ℕ, length, get_or}
use Rattle.std.proofs.lemmas.List.{get_or_default}
use Rattle.std.proofs.lemmas.Result.{err_from_is_err_and}
use Rattle.block_traits.specs.Content.{at_moment}
use Rattle.block_traits.proofs.Images.{IsTorn-image}
use Rattle.crash_disk.specs.MemDisk.{MemState, fresh}
use Rattle.crash_disk.specs.SparseDisk.{after_put, sparse_content, sparse_state_of}
use Rattle.crash_disk.specs.Survivor.{choice_of}
use Rattle.crash_disk.proofs.SurvivorLemmas.{IsContentOf-at_moment}
use Rattle.crash_disk.proofs.Tears.{AllGoodTears-more, IsTorn-more, IsTornImage-more, IsTornImage-start}
use Rattle.crash_disk.proofs.sparse_crash.sparse_survivor.Goals as goal

pub returns-in_err-made-clause-bad : goal.returns-in_err-made-clause-bad
returns-in_err-made-clause-bad c =
    let p = err_from_is_err_and c.from_residual.result c.from_residual.ensures.1 in
    rw (p.1, p.2) (c.in_err-made.ensures.bad c.args.torn.now)

pub loop-index-init : goal.loop-index-init
loop-index-init c =
    let log = c.args.disk.now.log in
    let content = sparse_content log in
    let left = at_moment c.args.moment content in
    let choice = choice_of left c.args.picks.now in
    let base = (sparse_state_of c.in_ok-made.made).content.base in
    let fits = IsContentOf-at_moment (length content.base) c.args.moment content log.fits in
    record {
      image = IsTornImage-start left choice base c.in_ok-made.ensures.image;
      torn = IsTorn-image (length content.base) left choice base fits c.in_ok-made.ensures.image;
      good = λ i tear small. absurd (omega arith);
      rest = c.in_ok-made.ensures.rest;
    }

pub loop-index-preserved : goal.loop-index-preserved
loop-index-preserved c =
    let left = at_moment c.args.moment (sparse_content c.args.disk.now.log) in
    let room = c.args.disk.now.log.room in
    let picks = c.args.picks.now in
    let torn = c.args.torn.now in
    let index = c.loop-index.index in
    let tear = get_or torn index (record { n = 0; bytes = [] }) in
    let here = get_or_default torn index (record { n = 0; bytes = [] }) tear c.loop-index-test.true in
    let good = c.if-not-can_tear.ensures.good in
    let old = (sparse_state_of c.loop-index.made).content.base in
    let is = ap (λ (s : MemState). s.content.base) c.in-Ok.ensures.after in
    record {
      image = rw is (IsTornImage-more left (choice_of left picks) picks torn old index tear c.loop-index-test.true here good c.loop-index.invariant.image);
      torn = rw is (IsTorn-more left old tear.n tear.bytes c.loop-index.invariant.torn good.inside good.unsettled c.in-Ok.ensures.sector);
      good = AllGoodTears-more left picks torn index (record { n = 0; bytes = [] }) c.loop-index-test.true good c.loop-index.invariant.good;
      rest = c.in-Ok.ensures.after ∙ ap (after_put tear.n tear.bytes) c.loop-index.invariant.rest ∙ ap (λ (sectors : List (List ℕ)). fresh sectors room) (sym is);
    }
