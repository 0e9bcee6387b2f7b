use Rattle.std.proofs.Common.{[], ◌∷◌, codes}
use Rattle.reply_text.specs.Text.{numbers_line}
use Rattle.text_page.proofs.Printing.{Puts-failed, Puts-then, PutsPart-more}
use Rattle.reply_text.proofs.verified.write_verified.Goals as goal

pub returns-in_err-write_offsets : goal.returns-in_err-write_offsets
returns-in_err-write_offsets g c =
    Puts-failed _ _ _ _ _ _ c.from_residual.ensures.0 (PutsPart-more _ (numbers_line (codes "ok") (c.args.next ∷ c.args.bad ∷ [])) c.in_err-write_offsets.ensures)

pub returns : goal.returns
returns g c = Puts-then _ _ _ _ _ _ _ _ _ c.in_ok-write_offsets.ensures (rw c.into.ensures at c.write_numbers_line.ensures)
