use Rattle.std.proofs.Common.{◌≡◌, ◌+◌, ◌-◌, ◌*◌, ◌%◌, ◌^◌, length, ap, refl, replicate, ◌∙◌, arith, ℕ}
use Rattle.std.proofs.lemmas.List.{take_rest}
use Rattle.std.specs.Int.{w128, to_be_bytes}
use Rattle.sha512_lanes.proofs.BlockLaws.{tail_is}
use Rattle.sha512_lanes.proofs.blocks.tail_of.Goals as goal

pub returns : goal.returns
returns c =
    let n : ℕ = length c.args.message.now in
    let bits : (n + 128) * 8 ≡ (128 + n) * 8 % 2 ^ 128 = omega arith in
    tail_is c.args.message.now (replicate 256 0) c.put.new.tail c.put-2.new.tail c.put-3.new.tail _ _ _ _ _ refl (omega arith)
    c.put.ensures (take_rest c.args.message.now (n - n % 128)) c.put-2.ensures refl c.put-3.ensures (c.to_be_bytes.ensures ∙ ap (to_be_bytes w128) bits)
