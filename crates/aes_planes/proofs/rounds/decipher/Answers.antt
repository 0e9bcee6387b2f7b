use Rattle.std.proofs.Common.{◌≡◌, ℕ, arith, subst}
use Rattle.aes_planes.proofs.BlockLaws.{add_states}
use Rattle.aes_planes.proofs.InverseLaws.{IsInverseAt, inverse_start, inverse_step, inverse_end, inverse_sub_states, key_from_end}
use Rattle.aes_planes.proofs.rounds.decipher.Goals as goal

pub loop-n-init : goal.loop-n-init
loop-n-init c =
    let states = c.requires.states in
    let keys = c.requires.keys in
    inverse_start c.args.round_keys.now c.args.count c.args.q c.transposed.result _ c.add_round_key.result c.first_unshift-s.result states keys.states c.transposed.ensures (keys.last _) c.add_round_key.ensures c.first_unshift-s.ensures

pub inverse_mix_columns-requires : goal.inverse_mix_columns-requires
inverse_mix_columns-requires c =
    let keys = c.requires.keys in
    let hk = key_from_end c.args.round_keys.now c.args.count c.loop-n.n c.args.keys.now (omega arith) keys _ in
    add_states c.inverse_sub_bytes.result _ c.add_round_key-in-loop-n.result (inverse_sub_states c.loop-n.s c.inverse_sub_bytes.result c.loop-n.invariant.0 c.inverse_sub_bytes.ensures) hk.states c.add_round_key-in-loop-n.ensures

pub loop-n-preserved : goal.loop-n-preserved
loop-n-preserved c =
    let states = c.requires.states in
    let keys = c.requires.keys in
    inverse_step c.args.round_keys.now c.args.count c.args.q c.loop-n.s c.inverse_sub_bytes.result _ c.add_round_key-in-loop-n.result c.inverse_mix_columns.result c.middle_unshift-s.result c.loop-n.n (omega arith) states keys.states c.loop-n.invariant
    c.inverse_sub_bytes.ensures (key_from_end c.args.round_keys.now c.args.count c.loop-n.n c.args.keys.now (omega arith) keys _) c.add_round_key-in-loop-n.ensures c.inverse_mix_columns.ensures.states c.inverse_mix_columns.ensures.blocks c.middle_unshift-s.ensures

pub returns : goal.returns
returns c =
    let states = c.requires.states in
    let keys = c.requires.keys in
    let done : c.loop-n.n ≡ c.args.count = omega arith in
    let at = subst (λ (k : ℕ). IsInverseAt c.args.round_keys.now c.args.count c.args.q c.loop-n.s k) done c.loop-n.invariant in
    inverse_end c.args.round_keys.now c.args.count c.args.q c.loop-n.s c.inverse_sub_bytes-2.result c.by_columns.result _ c.add_round_key-2.result c.transposed-2.result states keys.states at
    c.inverse_sub_bytes-2.ensures c.by_columns.ensures (keys.first _) c.add_round_key-2.ensures c.transposed-2.ensures
