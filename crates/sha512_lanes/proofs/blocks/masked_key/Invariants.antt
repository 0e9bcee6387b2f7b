use Rattle.std.proofs.Common.{◌≡◌, length, map, take, drop, replicate, bit_xor}
use Rattle.sha512_lanes.proofs.blocks.masked_key.Given as goal

abbrev pub invariant-loop-i : goal.invariant-loop-i
invariant-loop-i l =
    (length l.block ≡ 128) × (take l.i l.block ≡ map (bit_xor l.pad) (take l.i l.key)) × (drop 32 l.block ≡ replicate 96 l.pad)
