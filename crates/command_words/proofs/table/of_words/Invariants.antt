use Rattle.std.proofs.Common.{◌≡◌, drop, map}
use Rattle.command_words.specs.Cursor.{left}
use Rattle.command_words.specs.Table.{of_words}
use Rattle.command_words.proofs.table.of_words.Given as goal

-- The forms that are left decide.
abbrev pub invariant-loop-form : goal.invariant-loop-form
invariant-loop-form l = of_words (left l.words) (map (λ form. form.now) (drop l.form-index l.forms)) ≡ of_words (left l.words) (map (λ form. form.now) l.forms)
