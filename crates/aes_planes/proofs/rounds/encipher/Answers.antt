use Rattle.std.proofs.Common.{◌≡◌, ℕ, ◌+◌, arith, subst}
use Rattle.aes_planes.proofs.BlockLaws.{IsAt, rounds_start, rounds_step, rounds_end}
use Rattle.aes_planes.proofs.rounds.encipher.Goals as goal

pub loop-n-init : goal.loop-n-init
loop-n-init c =
    let states = c.requires.states in
    let keys = c.requires.keys in
    rounds_start c.args.round_keys.now c.args.q c.transposed.result _ c.add_round_key.result c.first_shift.result c.sub_bytes-s.result states c.transposed.ensures (keys.first _) c.add_round_key.ensures c.first_shift.ensures c.sub_bytes-s.ensures

pub loop-n-preserved : goal.loop-n-preserved
loop-n-preserved c =
    let few = c.requires.few in
    let states = c.requires.states in
    let keys = c.requires.keys in
    rounds_step c.args.round_keys.now (c.args.count + 1) c.args.q c.loop-n.s c.mix_columns.result _ c.add_round_key-in-loop-n.result c.middle_shift.result c.sub_bytes-s-in-loop-n.result c.loop-n.n (omega arith) states keys.states c.loop-n.invariant
    c.mix_columns.ensures (keys.between c.loop-n.n (omega arith) _) c.add_round_key-in-loop-n.ensures c.middle_shift.ensures c.sub_bytes-s-in-loop-n.ensures

pub returns : goal.returns
returns c =
    let few = c.requires.few in
    let states = c.requires.states in
    let keys = c.requires.keys in
    let done : c.loop-n.n ≡ c.args.count = omega arith in
    let at = subst (λ (m : ℕ). IsAt c.args.round_keys.now c.args.q c.loop-n.s m) done c.loop-n.invariant in
    rounds_end c.args.round_keys.now (c.args.count + 1) c.args.q c.loop-n.s c.mix_columns-2.result _ c.add_round_key-2.result c.last_shift.result c.sub_bytes-s-2.result _ c.add_round_key-3.result c.transposed-2.result c.args.count (omega arith) states keys.states at
    c.mix_columns-2.ensures (keys.between c.args.count (omega arith) _) c.add_round_key-2.ensures c.last_shift.ensures c.sub_bytes-s-2.ensures (keys.last _) c.add_round_key-3.ensures c.transposed-2.ensures
