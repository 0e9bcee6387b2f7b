use Rattle.std.proofs.Common.{◌∙◌, ap, ℕ, unwrap_or}
use Rattle.shelf.proofs.KeyRows.{setkey_attached_row}
use Rattle.shelf.proofs.Sectors.{kept_holding}
use Rattle.shelf.proofs.set_key.serve_setkey_attached.Goals as goal

pub returns-clause-serves : goal.returns-clause-serves
returns-clause-serves g c =
    let now = c.setkey_attached-answer.new.place in
    let then = c.args.provider.now in
    let told = c.rest_tells_all.ensures now.keying then.keying now.slot then.slot now.readonly then.readonly c.setkey_attached-answer.ensures.rest in
    rw c.in-Setkey.is (λ queue entropy bytes. record {
      answer = c.setkey_attached-answer.result;
      row = setkey_attached_row _ c.in-Setkey.iterations c.in-Setkey.slot _ _ _ _ _ _ _ _ _ _ _
          (c.unwrap_or-target.ensures ∙ ap (λ (n : ℕ). unwrap_or c.in-Setkey.slot n) c.slot.ensures) c.master-master.ensures
          (kept_holding queue then now (record { keying = told.0; slot = told.1; readonly = told.2 })) (c.setkey_attached-answer.ensures.row _ _);
      replied = c.done_or.ensures.reply bytes;
    })
