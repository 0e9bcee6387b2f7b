use Rattle.std.proofs.Common.{◌∙◌, ap, ℕ, Some}
use Rattle.std.specs.Option.{option_or}
use Rattle.shelf.proofs.KeyRows.{delkey_attached_row}
use Rattle.shelf.proofs.Sectors.{kept_holding}
use Rattle.shelf.proofs.delete_keys.serve_delkey_attached.Goals as goal

pub returns-clause-serves : goal.returns-clause-serves
returns-clause-serves g c =
    let now = c.delkey-answer.new.place in
    let then = c.args.provider.now in
    let told = c.rest_tells_all.ensures now.keying then.keying now.slot then.slot now.readonly then.readonly c.delkey-answer.ensures.rest in
    rw c.in-Delkey.is (λ queue cabinet bytes. record {
      answer = c.delkey-answer.result;
      row = delkey_attached_row _ _ c.in-Delkey.slot _ _ _ _ _ _ _ _ _
          (c.or-slot.ensures ∙ ap (λ (n : ℕ). option_or c.in-Delkey.slot (Some n)) c.slot.ensures)
          (kept_holding queue then now (record { keying = told.0; slot = told.1; readonly = told.2 })) (c.delkey-answer.ensures.row _ _);
      replied = c.done_or.ensures.reply bytes;
    })
