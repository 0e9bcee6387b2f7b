use Rattle.std.proofs.Common.{ℕ, sym, refl}
use Rattle.aes_planes.specs.Blocks.{plane_of}
use Rattle.aes_planes.specs.declared.vectors.Planes.{Planes}
use Rattle.xts_mode.specs.Halves.{of_halves}
use Rattle.xts_mode.proofs.Tweaks.{tweak_start}
use Rattle.xts_mode.proofs.GroupLaws.{masks_are, next_tweak}
use Rattle.xts_mode.proofs.groups.tweaks_from.Goals as goal

pub returns-clause-masks : goal.returns-clause-masks
returns-clause-masks c =
    let t : ℕ = of_halves c.args.t in
    let e1 = next_tweak t t (of_halves c.doubled-t1.result) 0 (sym (tweak_start t)) c.doubled-t1.ensures.value in
    let e2 = next_tweak t (of_halves c.doubled-t1.result) (of_halves c.doubled-t2.result) 1 e1 c.doubled-t2.ensures.value in
    let e3 = next_tweak t (of_halves c.doubled-t2.result) (of_halves c.doubled-t3.result) 2 e2 c.doubled-t3.ensures.value in
    let e4 = next_tweak t (of_halves c.doubled-t3.result) (of_halves c.doubled-t4.result) 3 e3 c.doubled-t4.ensures.value in
    let e5 = next_tweak t (of_halves c.doubled-t4.result) (of_halves c.doubled-t5.result) 4 e4 c.doubled-t5.ensures.value in
    let e6 = next_tweak t (of_halves c.doubled-t5.result) (of_halves c.doubled-t6.result) 5 e5 c.doubled-t6.ensures.value in
    let e7 = next_tweak t (of_halves c.doubled-t6.result) (of_halves c.doubled-t7.result) 6 e6 c.doubled-t7.ensures.value in
    let q : Planes = record {
      b7 = plane_of (of_halves c.doubled-t7.result);
      b6 = plane_of (of_halves c.doubled-t6.result);
      b5 = plane_of (of_halves c.doubled-t5.result);
      b4 = plane_of (of_halves c.doubled-t4.result);
      b3 = plane_of (of_halves c.doubled-t3.result);
      b2 = plane_of (of_halves c.doubled-t2.result);
      b1 = plane_of (of_halves c.doubled-t1.result);
      b0 = plane_of (of_halves c.args.t);
    } in
    masks_are q c.args.t c.doubled-t1.result c.doubled-t2.result c.doubled-t3.result c.doubled-t4.result c.doubled-t5.result c.doubled-t6.result c.doubled-t7.result refl e1 e2 e3 e4 e5 e6 e7

pub returns-clause-next : goal.returns-clause-next
returns-clause-next c =
    let t : ℕ = of_halves c.args.t in
    let e1 = next_tweak t t (of_halves c.doubled-t1.result) 0 (sym (tweak_start t)) c.doubled-t1.ensures.value in
    let e2 = next_tweak t (of_halves c.doubled-t1.result) (of_halves c.doubled-t2.result) 1 e1 c.doubled-t2.ensures.value in
    let e3 = next_tweak t (of_halves c.doubled-t2.result) (of_halves c.doubled-t3.result) 2 e2 c.doubled-t3.ensures.value in
    let e4 = next_tweak t (of_halves c.doubled-t3.result) (of_halves c.doubled-t4.result) 3 e3 c.doubled-t4.ensures.value in
    let e5 = next_tweak t (of_halves c.doubled-t4.result) (of_halves c.doubled-t5.result) 4 e4 c.doubled-t5.ensures.value in
    let e6 = next_tweak t (of_halves c.doubled-t5.result) (of_halves c.doubled-t6.result) 5 e5 c.doubled-t6.ensures.value in
    let e7 = next_tweak t (of_halves c.doubled-t6.result) (of_halves c.doubled-t7.result) 6 e6 c.doubled-t7.ensures.value in
    next_tweak t (of_halves c.doubled-t7.result) (of_halves c.doubled.result) 7 e7 c.doubled.ensures.value
