use Rattle.std.proofs.Common.{◌≡◌, drop, map}
use Rattle.command_words.specs.Table.{of_length}
use Rattle.command_words.proofs.table.of_length.Given as goal

-- The forms that are left decide.
abbrev pub invariant-loop-form : goal.invariant-loop-form
invariant-loop-form l = of_length l.count (map (λ form. form.now) (drop l.form-index l.forms)) ≡ of_length l.count (map (λ form. form.now) l.forms)
