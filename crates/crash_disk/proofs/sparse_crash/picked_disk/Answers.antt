use Rattle.std.proofs.Common.{arith, ap, ◌∙◌, sym, List, ℕ}
use Rattle.std.proofs.lemmas.List.{get_or_default}
use Rattle.block_traits.specs.Content.{at_moment}
use Rattle.crash_disk.specs.MemDisk.{MemState, fresh}
use Rattle.crash_disk.specs.SparseDisk.{after_put, sparse_content, sparse_state_of}
use Rattle.crash_disk.proofs.SurvivorLemmas.{AllGood-more, IsImage-more, IsImage-start}
use Rattle.crash_disk.proofs.sparse_crash.picked_disk.Goals as goal

pub loop-index-init : goal.loop-index-init
loop-index-init c =
    let left = at_moment c.args.moment (sparse_content c.args.disk.now.log) in
    let base = (sparse_state_of c.in-Ok.made).content.base in
    let is = ap (λ (s : MemState). s.content.base) c.in-Ok.ensures in
    record {
      image = IsImage-start left base is;
      good = λ i pick small. absurd (omega arith);
      rest = c.in-Ok.ensures ∙ ap (λ (sectors : List (List ℕ)). fresh sectors c.args.disk.now.log.room) (sym is);
    }

pub loop-index-preserved : goal.loop-index-preserved
loop-index-preserved c =
    let left = at_moment c.args.moment (sparse_content c.args.disk.now.log) in
    let room = c.args.disk.now.log.room in
    let picks = c.args.picks.now in
    let index = c.loop-index.index in
    let old = (sparse_state_of c.loop-index.made).content.base in
    let good = c.in-Some.ensures.good in
    let is = ap (λ (s : MemState). s.content.base) c.in-Ok-put.ensures.after in
    record {
      image = rw is (IsImage-more left picks old index _ c.in-Some.bytes c.loop-index-test.true (get_or_default picks index _ _ c.loop-index-test.true) good c.loop-index.invariant.image);
      good = AllGood-more left picks index _ c.in-Some.bytes c.loop-index-test.true good c.loop-index.invariant.good;
      rest = c.in-Ok-put.ensures.after ∙ ap (after_put _ c.in-Some.bytes) c.loop-index.invariant.rest ∙ ap (λ (sectors : List (List ℕ)). fresh sectors room) (sym is);
    }
