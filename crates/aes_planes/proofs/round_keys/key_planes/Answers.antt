use Rattle.std.proofs.Common.{◌≡◌, ℕ, List, refl, sym, subst}
use Rattle.aes_core.specs.State.{IsState}
use Rattle.aes_planes.specs.Blocks.{AreOf, key_at}
use Rattle.aes_planes.specs.declared.vectors.Planes.{Planes}
use Rattle.aes_planes.specs.declared.round_keys.KeyPlanes.{KeyPlanes}
use Rattle.aes_planes.proofs.BlockLaws.{same_states, same_blocks}
use Rattle.aes_planes.proofs.round_keys.key_planes.Goals as goal

pub returns : goal.returns
returns c =
    let v : List ℕ = c.args.v in
    let q : Planes = record { b7 = v; b6 = v; b5 = v; b4 = v; b3 = v; b2 = v; b1 = v; b0 = v } in
    let state : IsState v = c.requires in
    let p : Planes = c.transposed-q.result in
    let k : KeyPlanes = record { b7 = c.number.result; b6 = c.number-2.result; b5 = c.number-3.result; b4 = c.number-4.result; b3 = c.number-5.result; b2 = c.number-6.result; b1 = c.number-7.result; b0 = c.number-8.result } in
    let e : p ≡ key_at k =
    (λ i. record {
      b7 = sym c.number.ensures i;
      b6 = sym c.number-2.ensures i;
      b5 = sym c.number-3.ensures i;
      b4 = sym c.number-4.ensures i;
      b3 = sym c.number-5.ensures i;
      b2 = sym c.number-6.ensures i;
      b1 = sym c.number-7.ensures i;
      b0 = sym c.number-8.ensures i;
    }) in
    subst (AreOf v) e (record { states = same_states v q p state refl c.transposed-q.ensures; blocks = same_blocks v q p state refl c.transposed-q.ensures })
