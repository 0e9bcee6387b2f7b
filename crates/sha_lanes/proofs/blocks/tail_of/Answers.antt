use Rattle.std.proofs.Common.{◌≡◌, ◌+◌, ◌-◌, ◌*◌, ◌%◌, ◌^◌, length, ap, refl, replicate, ◌∙◌, arith, ℕ}
use Rattle.std.proofs.lemmas.List.{take_rest}
use Rattle.std.specs.Int.{w64, to_be_bytes}
use Rattle.sha_lanes.proofs.BlockLaws.{tail_is}
use Rattle.sha_lanes.proofs.blocks.tail_of.Goals as goal

pub returns : goal.returns
returns c =
    let n : ℕ = length c.args.message.now in
    let bits : (n + 64) % 2 ^ 64 * 8 % 2 ^ 64 ≡ (64 + n) * 8 % 2 ^ 64 = omega arith in
    tail_is c.args.message.now (replicate 128 0) c.put.new.tail c.put-2.new.tail c.put-3.new.tail _ _ _ _ _ refl (omega arith)
    c.put.ensures (take_rest c.args.message.now (n - n % 64)) c.put-2.ensures refl c.put-3.ensures (c.to_be_bytes.ensures ∙ ap (to_be_bytes w64) bits)
