use Rattle.std.proofs.Common.{ℕ, List, sym, subst, ◌↔◌, Contains}
use Rattle.std.specs.List.Sorted.{IsStrictlyIncreasing}
use Rattle.verify_sweep.proofs.Failing.{failing_units-increase, listed-exactly}
use Rattle.command_rows.specs.Vocabulary.{Fails}
use Rattle.command_rows.proofs.laws.a_sweep_lists_each_failing_unit_once.Goals as goal

pub returns : goal.returns
returns c = λ k n count offsets old new h. record {
  sectors = h.sectors;
  all = h.all;
  stand = h.stand;
  each = λ offset. subst (λ (l : List ℕ). Contains l offset ↔ Fails k n h.sectors offset) (sym h.listed) (listed-exactly k n h.sectors offset);
  once = subst (λ (l : List ℕ). IsStrictlyIncreasing l) (sym h.listed) (failing_units-increase k n h.sectors);
}
