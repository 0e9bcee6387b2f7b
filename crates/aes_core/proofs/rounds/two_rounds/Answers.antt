use Rattle.std.proofs.Common.{◌≡◌, ℕ, ◌+◌, List, refl, arith}
use Rattle.aes_core.proofs.Inverse.{AreRoundKeys, IsState-after_rounds}
use Rattle.aes_core.proofs.KeyBytes.{IsState-block}
use Rattle.aes_core.proofs.Turns.{behind_round}
use Rattle.aes_core.proofs.rounds.two_rounds.Goals as goal

pub returns : goal.returns
returns c b block held =
    let keys : List ℕ = c.args.keys.now in
    let r : ℕ = c.args.r in
    let few = c.requires in
    let are : AreRoundKeys keys 13 = λ n le. IsState-block keys n c.fits-keys (omega (arith, le)) in
    let middle = behind_round keys b _ _ r (r + 1) refl c.after_round.ensures (IsState-after_rounds keys b 13 r block are (omega (arith, few))) held in
    let two : r + 2 ≡ r + 1 + 1 = omega arith in
    behind_round keys b _ _ (r + 1) (r + 2) two c.after_round-2.ensures (IsState-after_rounds keys b 13 (r + 1) block are (omega (arith, few))) middle
