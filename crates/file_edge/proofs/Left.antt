-- What is left of a file if nothing was done, and of one that reports nothing.
use Rattle.std.proofs.Common.{ℕ, Bool, false, List, length, Option, None, refl, sym, arith}
use Rattle.block_traits.specs.declared.disk.Event.{Event}
use Rattle.block_traits.specs.Content.{Content}
use Rattle.block_traits.proofs.Logs.{logged-none}
use Rattle.file_edge.specs.Told.{Leaves}

-- nothing was done
pub leaves_nothing : (events : List Event) (sectors : ℕ) (told : Option Content) → Leaves events sectors false told told
leaves_nothing events sectors told = record {
  count = 0;
  within = omega arith;
  all = λ reaches done. absurd (cc done);
  left = sym (logged-none told);
}

-- nothing is left of a file that reports nothing, whatever was done
pub leaves_untold : (events : List Event) (sectors : ℕ) (done : Bool) → Leaves events sectors done None None
leaves_untold events sectors done = record {
  count = length events;
  within = omega arith;
  all = λ reaches did. refl;
  left = refl;
}
