use Rattle.text_page.proofs.Printing.{Puts-failed, Puts-then, PutsAll-then, PutsPart-more, PutsPart-then}
use Rattle.reply_text.proofs.reply.write_refusal.Goals as goal

pub returns-in_err-write_head : goal.returns-in_err-write_head
returns-in_err-write_head g c = Puts-failed _ _ _ _ _ _ c.from_residual.ensures.0 (PutsPart-more _ _ (PutsPart-more _ _ c.in_err-write_head.ensures))

pub returns-in_err-write_fields : goal.returns-in_err-write_fields
returns-in_err-write_fields g c = Puts-failed _ _ _ _ _ _ c.from_residual-in_err-write_fields.ensures.0 (PutsPart-more _ _ (PutsPart-then _ _ c.in_ok-write_head.ensures c.in_err-write_fields.ensures))

pub returns : goal.returns
returns g c = Puts-then _ _ _ _ _ _ _ _ _ (PutsAll-then _ _ c.in_ok-write_head.ensures c.in_ok-write_fields.ensures) c.put.ensures
