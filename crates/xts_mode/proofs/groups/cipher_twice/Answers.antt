use Rattle.std.proofs.Common.{◌≡◌, ℕ, ◌+◌, ◌*◌, List, ap, arith, subst, sym, ◌∙◌}
use Rattle.aes_core.proofs.BlockLists.{AreBlocks}
use Rattle.aes_core.proofs.InPlace.{IsDone, IsDone-start, part_blocks, sixteen_done}
use Rattle.xts_mode.specs.Halves.{of_halves}
use Rattle.xts_mode.specs.Ways.{aes_by}
use Rattle.xts_mode.specs.Xts.{tweaked_block, tweak_at}
use Rattle.xts_mode.proofs.GroupLaws.{part_same, part_step}
use Rattle.xts_mode.proofs.Tweaks.{tweak_at-add, tweak_start}
use Rattle.xts_mode.proofs.groups.cipher_twice.Goals as goal

pub loop-g-init : goal.loop-g-init
loop-g-init c = record {
  long = c.requires.long;
  at = sym (tweak_start (of_halves c.args.t));
  done = IsDone-start (tweaked_block (aes_by c.args.way c.args.k1.now) (of_halves c.args.t) c.args.group.now) c.args.group.now;
  are = λ n ln. absurd (omega arith);
}

pub loop-g-preserved : goal.loop-g-preserved
loop-g-preserved c =
    let t : ℕ = of_halves c.args.t in
    let p = c.args.group.now in
    let f : List ℕ → List ℕ = aes_by c.args.way c.args.k1.now in
    let j : ℕ = 8 * c.loop-g.g in
    let more : j + 8 ≡ 8 * (c.loop-g.g + 1) = omega arith in
    let at = c.loop-g.invariant.at in
    let done = c.loop-g.invariant.done in
    record {
      long = c.cipher_group-now.ensures.long;
      at = c.cipher_group-now.ensures.next ∙ ap (λ (x : ℕ). tweak_at x 8) at ∙ tweak_at-add t j 8 ∙ ap (tweak_at t) more;
      done = subst (IsDone (tweaked_block f t p) p _) more
          (part_step f p c.loop-g.group c.cipher_group-now.new.group t (of_halves c.loop-g.now) _ _ j 8 at done (omega arith) (omega arith) (omega arith) c.cipher_group-now.ensures.done);
      are = subst (AreBlocks (tweaked_block f t p)) more
          (part_blocks (tweaked_block f t p) c.cipher_group-now.new.group j 8 (omega arith)
          (part_same f p c.loop-g.group c.cipher_group-now.new.group t (of_halves c.loop-g.now) _ _ j 8 at done (omega arith) (omega arith) c.cipher_group-now.ensures.done) c.loop-g.invariant.are);
    }

pub returns-clause-done : goal.returns-clause-done
returns-clause-done c =
    let g : ℕ → List ℕ = tweaked_block (aes_by c.args.way c.args.k1.now) (of_halves c.args.t) c.args.group.now in
    let end : 8 * c.loop-g.g ≡ 16 = omega arith in
    sixteen_done g c.args.group.now c.loop-g.group c.requires.sixteen (subst (IsDone g c.args.group.now c.loop-g.group) end c.loop-g.invariant.done) (subst (AreBlocks g) end c.loop-g.invariant.are)

pub returns-clause-next : goal.returns-clause-next
returns-clause-next c =
    let end : 8 * c.loop-g.g ≡ 16 = omega arith in
    c.loop-g.invariant.at ∙ ap (tweak_at (of_halves c.args.t)) end
