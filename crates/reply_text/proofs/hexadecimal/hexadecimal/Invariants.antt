use Rattle.std.proofs.Common.{ℕ, ◌≡◌, ◌≤◌, ◌<◌, ◌^◌, drop, length, false}
use Rattle.std.specs.Fmt.{digits, digits_onto}
use Rattle.reply_text.proofs.hexadecimal.hexadecimal.Given as goal

-- the digits so far stand at the end, and those of what is left come before them
abbrev pub invariant-loop-left : goal.invariant-loop-left
invariant-loop-left l = record {
  some : 1 ≤ l.start;
  inside : l.start ≤ 8;
  long : length l.buffer ≡ 8;
  small : l.left < 16 ^ l.start;
  digits : (k : ℕ) × (l.start ≤ k) × (digits 16 false l.number ≡ digits_onto k 16 false l.left (drop l.start l.buffer));
}

abbrev pub decreases-loop-left : goal.decreases-loop-left
decreases-loop-left l = l.start
