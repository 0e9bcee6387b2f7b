use Rattle.std.proofs.Common.{◌≡◌, ℕ, List, arith, subst}
use Rattle.aes_core.specs.State.{IsState}
use Rattle.aes_planes.specs.Planes.{rows, turned}
use Rattle.aes_planes.specs.Blocks.{AreOf, key_at}
use Rattle.aes_planes.proofs.KeyLaws.{HasKeys, keys_step, keys_end}
use Rattle.aes_planes.proofs.round_keys.schedule_planes.Goals as goal

pub loop-r-preserved : goal.loop-r-preserved
loop-r-preserved c =
    let few = c.requires in
    let k = c.round_key_of-in-loop-r.ensures in
    keys_step c.args.round_keys.now c.loop-r.keys c.loop-r.r c.middle_key.result (omega arith) c.loop-r.invariant
    (subst (λ (b : List ℕ). AreOf (rows (turned b)) (key_at c.middle_key.result)) k.value c.middle_key.ensures) (subst IsState k.value k.state)

pub returns : goal.returns
returns c =
    let few = c.requires in
    let k = c.round_key_of-2.ensures in
    let done : c.loop-r.r ≡ c.args.count = omega arith in
    keys_end c.args.round_keys.now c.loop-r.keys c.args.count c.last_key.result (omega arith) (subst (λ (n : ℕ). HasKeys c.args.round_keys.now c.loop-r.keys n) done c.loop-r.invariant)
    (subst (λ (b : List ℕ). AreOf (turned b) (key_at c.last_key.result)) k.value c.last_key.ensures) (subst IsState k.value k.state)
