use Rattle.std.proofs.Common.{◌≡◌, ℕ, arith, subst}
use Rattle.std.proofs.lemmas.Grind.{common_steps}
use Rattle.aes_planes.specs.Wide.{side}
use Rattle.aes_planes.proofs.BlockLaws.{add_states}
use Rattle.aes_planes.proofs.InverseLaws.{IsInverseAt, inverse_start, inverse_step, inverse_end, inverse_sub_states, key_from_end}
use Rattle.aes_planes.proofs.rounds.wide_decipher.Goals as goal

pub loop-n-init : goal.loop-n-init
loop-n-init c =
    let keys = c.requires.keys in (
      c.wide_first_unshift-s.ensures.wide,
      λ i li.
          inverse_start c.args.round_keys.now c.args.count (side i c.args.q) (side i c.wide_transposed.result) _ (side i c.wide_add_round_key.result) (side i c.wide_first_unshift-s.result) (c.requires.states i li) keys.states
          (c.wide_transposed.ensures.sides i li) (keys.last _) (c.wide_add_round_key.ensures.sides i li) (c.wide_first_unshift-s.ensures.sides i li),
    )

pub wide_inverse_mix_columns-requires-clause-states : goal.wide_inverse_mix_columns-requires-clause-states
wide_inverse_mix_columns-requires-clause-states c =
    λ i li.
    let keys = c.requires.keys in
    let hk = key_from_end c.args.round_keys.now c.args.count c.loop-n.n c.args.keys.now (omega arith) keys _ in
    add_states (side i c.wide_inverse_sub_bytes.result) _ (side i c.wide_add_round_key-keyed.result)
    (inverse_sub_states (side i c.loop-n.s) (side i c.wide_inverse_sub_bytes.result) (c.loop-n.invariant.1 i li).0 (c.wide_inverse_sub_bytes.ensures.sides i li)) hk.states (c.wide_add_round_key-keyed.ensures.sides i li)

pub loop-n-preserved : goal.loop-n-preserved
loop-n-preserved c =
    let keys = c.requires.keys in (
      c.wide_middle_unshift-s.ensures.wide,
      λ i li.
          inverse_step c.args.round_keys.now c.args.count (side i c.args.q) (side i c.loop-n.s) (side i c.wide_inverse_sub_bytes.result) _ (side i c.wide_add_round_key-keyed.result) (side i c.wide_inverse_mix_columns.result)
          (side i c.wide_middle_unshift-s.result) c.loop-n.n (omega arith) (c.requires.states i li) keys.states (c.loop-n.invariant.1 i li) (c.wide_inverse_sub_bytes.ensures.sides i li)
          (key_from_end c.args.round_keys.now c.args.count c.loop-n.n c.args.keys.now (omega arith) keys _) (c.wide_add_round_key-keyed.ensures.sides i li) (c.wide_inverse_mix_columns.ensures.states i li)
          (c.wide_inverse_mix_columns.ensures.blocks i li) (c.wide_middle_unshift-s.ensures.sides i li),
    )

pub returns-clause-sides : goal.returns-clause-sides
returns-clause-sides c =
    λ i li.
    let keys = c.requires.keys in
    let done : c.loop-n.n ≡ c.args.count = omega arith in
    let at = subst (λ (k : ℕ). IsInverseAt c.args.round_keys.now c.args.count (side i c.args.q) (side i c.loop-n.s) k) done (c.loop-n.invariant.1 i li) in
    inverse_end c.args.round_keys.now c.args.count (side i c.args.q) (side i c.loop-n.s) (side i c.wide_inverse_sub_bytes-2.result) (side i c.wide_by_columns.result) _ (side i c.wide_add_round_key-2.result)
    (side i c.wide_transposed-2.result) (c.requires.states i li) keys.states at (c.wide_inverse_sub_bytes-2.ensures.sides i li) (c.wide_by_columns.ensures.sides i li) (keys.first _) (c.wide_add_round_key-2.ensures.sides i li)
    (c.wide_transposed-2.ensures.sides i li)

pub returns-clause-wide : goal.returns-clause-wide
returns-clause-wide c = grind (arith, common_steps) steps 400000
