use Rattle.std.proofs.Common.{◌≡◌, ◌+◌, ◌-◌, ◌*◌, ◌/◌, ℕ, length, sym, ap, ◌∙◌, arith}
use Rattle.aes_core.proofs.InPlace.{IsDone-start, IsDone-end}
use Rattle.xts_mode.specs.Halves.{of_halves}
use Rattle.xts_mode.specs.Ways.{aes_by}
use Rattle.xts_mode.specs.Xts.{tweak_at, first_tweak, tweaked_block}
use Rattle.xts_mode.proofs.Tweaks.{tweak_start, tweak_at-add}
use Rattle.xts_mode.proofs.GroupLaws.{group_step, rest_step}
use Rattle.xts_mode.proofs.groups.cipher_unit.Goals as goal

pub loop-g-init : goal.loop-g-init
loop-g-init c =
    let t = first_tweak c.args.k2.now c.args.unit in
    record {
      long = c.halves-t.ensures.long;
      at = c.halves-t.ensures.value ∙ c.first_tweak.ensures ∙ sym (tweak_start t);
      done = IsDone-start (tweaked_block (aes_by c.args.way c.args.k1.now) t c.args.block.now) c.args.block.now;
    }

pub loop-g-preserved : goal.loop-g-preserved
loop-g-preserved c =
    let t = first_tweak c.args.k2.now c.args.unit in
    let at = c.loop-g.invariant.at in
    let more : 16 * c.loop-g.g + 16 ≡ 16 * (c.loop-g.g + 1) = omega arith in
    record {
      long = c.cipher_sixteen-t.ensures.long;
      at = c.cipher_sixteen-t.ensures.next ∙ ap (λ (x : ℕ). tweak_at x 16) at ∙ tweak_at-add t (16 * c.loop-g.g) 16 ∙ ap (tweak_at t) more;
      done = group_step (aes_by c.args.way c.args.k1.now) c.args.block.now c.loop-g.block c.cipher_sixteen-t.new.group t (of_halves c.loop-g.t) _ _ c.loop-g.g at c.loop-g.invariant.done (omega arith) (omega arith) (omega arith) c.cipher_sixteen-t.ensures.done;
    }

pub returns : goal.returns
returns c =
    let p = c.args.block.now in
    let t = first_tweak c.args.k2.now c.args.unit in
    let f = tweaked_block (aes_by c.args.way c.args.k1.now) t p in
    let s : ℕ = 256 * (length p / 256) in
    let end : c.loop-g.g ≡ length p / 256 = omega arith in
    let whole = c.requires in
    let done = rest_step (aes_by c.args.way c.args.k1.now) p c.loop-g.block c.cipher_rest.new.rest t (of_halves c.loop-g.t) s (length c.loop-g.block - s) c.loop-g.g c.loop-g.invariant.at c.loop-g.invariant.done (omega arith) (omega arith) (omega arith) whole (omega arith) (omega arith) c.cipher_rest.ensures in
    IsDone-end f p _ (length p / 16) (omega arith) done
