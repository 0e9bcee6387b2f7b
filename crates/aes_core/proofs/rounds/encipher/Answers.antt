use Rattle.std.proofs.Common.{◌≡◌, ℕ, ◌+◌, ◌-◌, List, sym, ap, ◌∙◌, arith}
use Rattle.aes_core.specs.Columns.{words_of}
use Rattle.aes_core.specs.Aes.{xor, round_key, after_rounds, sub_bytes, shift_rows}
use Rattle.aes_core.specs.State.{IsState}
use Rattle.aes_core.proofs.Inverse.{AreRoundKeys, IsState-after_rounds, IsState-sub_bytes, IsState-shift_rows, IsState-xor}
use Rattle.aes_core.proofs.KeyBytes.{IsState-block}
use Rattle.aes_core.proofs.Turns.{after_rounds_start, behind_round}
use Rattle.aes_core.proofs.rounds.encipher.Goals as goal

pub returns : goal.returns
returns c =
    let keys : List ℕ = c.args.keys.now in
    let b : List ℕ = c.args.block.now in
    let count : ℕ = c.args.count in
    let few = c.requires.few in
    let many = c.requires.many in
    let are : AreRoundKeys keys 13 = λ r le. IsState-block keys r c.fits-keys (omega (arith, le)) in
    let block : IsState b = record { long = c.told-block; bytes = c.fits-block } in
    let start = c.columns_of-start.ensures ∙ ap words_of (c.add_round_key.ensures ∙ sym (after_rounds_start keys b)) in
    let even = c.even_rounds.ensures b block start in
    let odd : count ≡ count - 1 + 1 = omega (arith, many) in
    let held = behind_round keys b _ _ (count - 1) count odd c.after_round-before.ensures (IsState-after_rounds keys b 13 (count - 1) block are (omega (arith, few))) even in
    let state = IsState-after_rounds keys b 13 count block are (omega (arith, few)) in
    let key = IsState-block keys (count + 1) c.fits-keys (omega (arith, few)) in
    let before : List ℕ = after_rounds keys b count in
    let last = c.after_last_round.ensures before state held in
    let out = IsState-xor (shift_rows (sub_bytes before)) (round_key keys (count + 1)) (IsState-shift_rows (sub_bytes before) (IsState-sub_bytes before state.long)) key in
    c.state_of.ensures (xor (shift_rows (sub_bytes before)) (round_key keys (count + 1))) out last
