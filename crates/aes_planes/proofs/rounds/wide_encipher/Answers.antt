use Rattle.std.proofs.Common.{◌≡◌, ℕ, ◌+◌, arith, subst}
use Rattle.aes_planes.specs.Wide.{side}
use Rattle.aes_planes.proofs.BlockLaws.{IsAt, rounds_start, rounds_step, rounds_end}
use Rattle.aes_planes.proofs.rounds.wide_encipher.Goals as goal

pub loop-n-init : goal.loop-n-init
loop-n-init c =
    let keys = c.requires.keys in (
      c.wide_sub_bytes-s.ensures.wide,
      λ i li.
          rounds_start c.args.round_keys.now (side i c.args.q) (side i c.wide_transposed.result) _ (side i c.wide_add_round_key.result) (side i c.wide_first_shift.result) (side i c.wide_sub_bytes-s.result) (c.requires.states i li)
          (c.wide_transposed.ensures.sides i li) (keys.first _) (c.wide_add_round_key.ensures.sides i li) (c.wide_first_shift.ensures.sides i li) (c.wide_sub_bytes-s.ensures.sides i li),
    )

pub loop-n-preserved : goal.loop-n-preserved
loop-n-preserved c =
    let few = c.requires.few in
    let keys = c.requires.keys in (
      c.wide_sub_bytes-s-in-loop-n.ensures.wide,
      λ i li.
          rounds_step c.args.round_keys.now (c.args.count + 1) (side i c.args.q) (side i c.loop-n.s) (side i c.wide_mix_columns.result) _ (side i c.wide_add_round_key-in-loop-n.result) (side i c.wide_middle_shift.result)
          (side i c.wide_sub_bytes-s-in-loop-n.result) c.loop-n.n (omega arith) (c.requires.states i li) keys.states (c.loop-n.invariant.1 i li)
          (c.wide_mix_columns.ensures.sides i li) (keys.between c.loop-n.n (omega arith) _) (c.wide_add_round_key-in-loop-n.ensures.sides i li) (c.wide_middle_shift.ensures.sides i li) (c.wide_sub_bytes-s-in-loop-n.ensures.sides i li),
    )

pub returns-clause-sides : goal.returns-clause-sides
returns-clause-sides c =
    λ i li.
    let few = c.requires.few in
    let keys = c.requires.keys in
    let done : c.loop-n.n ≡ c.args.count = omega arith in
    let at = subst (λ (m : ℕ). IsAt c.args.round_keys.now (side i c.args.q) (side i c.loop-n.s) m) done (c.loop-n.invariant.1 i li) in
    rounds_end c.args.round_keys.now (c.args.count + 1) (side i c.args.q) (side i c.loop-n.s) (side i c.wide_mix_columns-2.result) _ (side i c.wide_add_round_key-2.result) (side i c.wide_last_shift.result)
    (side i c.wide_sub_bytes-s-2.result) _ (side i c.wide_add_round_key-3.result) (side i c.wide_transposed-2.result) c.args.count (omega arith) (c.requires.states i li) keys.states at
    (c.wide_mix_columns-2.ensures.sides i li) (keys.between c.args.count (omega arith) _) (c.wide_add_round_key-2.ensures.sides i li) (c.wide_last_shift.ensures.sides i li) (c.wide_sub_bytes-s-2.ensures.sides i li)
    (keys.last _) (c.wide_add_round_key-3.ensures.sides i li) (c.wide_transposed-2.ensures.sides i li)
