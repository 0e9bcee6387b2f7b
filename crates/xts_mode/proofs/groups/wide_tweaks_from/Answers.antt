use Rattle.std.proofs.Common.{◌≡◌, ℕ, ◌+◌, ◌*◌, sym}
use Rattle.std.specs.Int.{w128, to_le_bytes}
use Rattle.aes_planes.specs.Blocks.{vector_at}
use Rattle.aes_planes.specs.Wide.{side}
use Rattle.aes_planes.specs.declared.vectors.WidePlanes.{WidePlanes}
use Rattle.aes_planes.proofs.BlockLaws.{eight}
use Rattle.xts_mode.specs.Halves.{of_halves}
use Rattle.xts_mode.specs.Xts.{tweak_at}
use Rattle.xts_mode.proofs.GroupLaws.{two_masks, two_on}
use Rattle.xts_mode.proofs.Tweaks.{tweak_start}
use Rattle.xts_mode.proofs.groups.wide_tweaks_from.Goals as goal

pub returns-clause-masks : goal.returns-clause-masks
returns-clause-masks c =
    λ i li.
    let t : ℕ = of_halves c.args.t in
    let n0 = sym (tweak_start t) in
    let n1 = two_on t (of_halves c.args.t) (of_halves c.two_tweaks-w0.result.next) 0 n0 c.two_tweaks-w0.ensures.next in
    let n2 = two_on t (of_halves c.two_tweaks-w0.result.next) (of_halves c.two_tweaks-w1.result.next) 2 n1 c.two_tweaks-w1.ensures.next in
    let n3 = two_on t (of_halves c.two_tweaks-w1.result.next) (of_halves c.two_tweaks-w2.result.next) 4 n2 c.two_tweaks-w2.ensures.next in
    let n4 = two_on t (of_halves c.two_tweaks-w2.result.next) (of_halves c.two_tweaks-w3.result.next) 6 n3 c.two_tweaks-w3.ensures.next in
    let n5 = two_on t (of_halves c.two_tweaks-w3.result.next) (of_halves c.two_tweaks-w4.result.next) 8 n4 c.two_tweaks-w4.ensures.next in
    let n6 = two_on t (of_halves c.two_tweaks-w4.result.next) (of_halves c.two_tweaks-w5.result.next) 10 n5 c.two_tweaks-w5.ensures.next in
    let n7 = two_on t (of_halves c.two_tweaks-w5.result.next) (of_halves c.two_tweaks-w6.result.next) 12 n6 c.two_tweaks-w6.ensures.next in
    let m0 = two_masks t (of_halves c.args.t) c.two_tweaks-w0.result.mask 0 n0 c.two_tweaks-w0.ensures.first c.two_tweaks-w0.ensures.second i li in
    let m1 = two_masks t (of_halves c.two_tweaks-w0.result.next) c.two_tweaks-w1.result.mask 2 n1 c.two_tweaks-w1.ensures.first c.two_tweaks-w1.ensures.second i li in
    let m2 = two_masks t (of_halves c.two_tweaks-w1.result.next) c.two_tweaks-w2.result.mask 4 n2 c.two_tweaks-w2.ensures.first c.two_tweaks-w2.ensures.second i li in
    let m3 = two_masks t (of_halves c.two_tweaks-w2.result.next) c.two_tweaks-w3.result.mask 6 n3 c.two_tweaks-w3.ensures.first c.two_tweaks-w3.ensures.second i li in
    let m4 = two_masks t (of_halves c.two_tweaks-w3.result.next) c.two_tweaks-w4.result.mask 8 n4 c.two_tweaks-w4.ensures.first c.two_tweaks-w4.ensures.second i li in
    let m5 = two_masks t (of_halves c.two_tweaks-w4.result.next) c.two_tweaks-w5.result.mask 10 n5 c.two_tweaks-w5.ensures.first c.two_tweaks-w5.ensures.second i li in
    let m6 = two_masks t (of_halves c.two_tweaks-w5.result.next) c.two_tweaks-w6.result.mask 12 n6 c.two_tweaks-w6.ensures.first c.two_tweaks-w6.ensures.second i li in
    let m7 = two_masks t (of_halves c.two_tweaks-w6.result.next) c.two_tweaks-w7.result.mask 14 n7 c.two_tweaks-w7.ensures.first c.two_tweaks-w7.ensures.second i li in
    let q : WidePlanes = record { b7 = c.two_tweaks-w7.result.mask; b6 = c.two_tweaks-w6.result.mask; b5 = c.two_tweaks-w5.result.mask; b4 = c.two_tweaks-w4.result.mask; b3 = c.two_tweaks-w3.result.mask; b2 = c.two_tweaks-w2.result.mask; b1 = c.two_tweaks-w1.result.mask; b0 = c.two_tweaks-w0.result.mask } in
    eight (λ j. vector_at (side i q) j ≡ to_le_bytes w128 (tweak_at t (2 * j + i))) m0 m1 m2 m3 m4 m5 m6 m7

pub returns-clause-wide : goal.returns-clause-wide
returns-clause-wide c = record { l7 = c.two_tweaks-w7.ensures.long.0; l6 = c.two_tweaks-w6.ensures.long.0; l5 = c.two_tweaks-w5.ensures.long.0; l4 = c.two_tweaks-w4.ensures.long.0; l3 = c.two_tweaks-w3.ensures.long.0; l2 = c.two_tweaks-w2.ensures.long.0; l1 = c.two_tweaks-w1.ensures.long.0; l0 = c.two_tweaks-w0.ensures.long.0 }

pub returns-clause-next : goal.returns-clause-next
returns-clause-next c =
    let t : ℕ = of_halves c.args.t in
    let n0 = sym (tweak_start t) in
    let n1 = two_on t (of_halves c.args.t) (of_halves c.two_tweaks-w0.result.next) 0 n0 c.two_tweaks-w0.ensures.next in
    let n2 = two_on t (of_halves c.two_tweaks-w0.result.next) (of_halves c.two_tweaks-w1.result.next) 2 n1 c.two_tweaks-w1.ensures.next in
    let n3 = two_on t (of_halves c.two_tweaks-w1.result.next) (of_halves c.two_tweaks-w2.result.next) 4 n2 c.two_tweaks-w2.ensures.next in
    let n4 = two_on t (of_halves c.two_tweaks-w2.result.next) (of_halves c.two_tweaks-w3.result.next) 6 n3 c.two_tweaks-w3.ensures.next in
    let n5 = two_on t (of_halves c.two_tweaks-w3.result.next) (of_halves c.two_tweaks-w4.result.next) 8 n4 c.two_tweaks-w4.ensures.next in
    let n6 = two_on t (of_halves c.two_tweaks-w4.result.next) (of_halves c.two_tweaks-w5.result.next) 10 n5 c.two_tweaks-w5.ensures.next in
    let n7 = two_on t (of_halves c.two_tweaks-w5.result.next) (of_halves c.two_tweaks-w6.result.next) 12 n6 c.two_tweaks-w6.ensures.next in
    two_on t (of_halves c.two_tweaks-w6.result.next) (of_halves c.two_tweaks-w7.result.next) 14 n7 c.two_tweaks-w7.ensures.next

pub returns-clause-long : goal.returns-clause-long
returns-clause-long c = c.two_tweaks-w7.ensures.long.1
