use Rattle.std.proofs.Common.{length}
use Rattle.word_values.proofs.values.+digits_value.Given as goal

abbrev pub decreases-digits_value : goal.decreases-digits_value
decreases-digits_value l = length l.digits.now
