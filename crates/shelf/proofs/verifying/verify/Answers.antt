use Rattle.std.proofs.Common.{◌∙◌, sym}
use Rattle.std.proofs.lemmas.Result.{err_from_is_err_and}
use Rattle.command_rows.specs.Rows.{IsAttached}
use Rattle.reply_text.specs.Text.{numbers_in}
use Rattle.shelf.specs.Shelved.{attachment_of}
use Rattle.shelf.proofs.VerifyRows.{verify_stored, verify_unplaced, verify_unstored, verify_unswept, verify_untagged}
use Rattle.shelf.proofs.verifying.verify.Goals as goal

pub returns-then-not-authenticated-clause-row : goal.returns-then-not-authenticated-clause-row
returns-then-not-authenticated-clause-row g c =
    λ queue entropy. verify_untagged g.D.Disk.state queue (g.C.Cabinet.state c.args.files.now) entropy c.args.provider.now c.args.line.now c.args.file c.args.count c.args.restart (sym c.authenticated.ensures ∙ c.if-not-authenticated.true)

pub returns-in_err-place-clause-row : goal.returns-in_err-place-clause-row
returns-in_err-place-clause-row g c =
    let state = g.D.Disk.state in
    let cabinet = g.C.Cabinet.state in
    let old = c.args.provider.now in
    let tagged = sym c.authenticated.ensures ∙ c.if-not-authenticated.false in
    let p = err_from_is_err_and c.from_residual.result c.from_residual.ensures.1 in
    rw (p.1, p.2) (λ queue entropy. verify_unplaced state queue (cabinet c.args.files.now) (cabinet c.find_place.new.files) entropy old c.args.line.now c.args.file c.args.count c.args.restart c.in_err-place.field-0.0 tagged
    (c.in_err-place.ensures (state old.disk) (IsAttached (attachment_of queue old)) entropy))

pub returns-in_err-swept-clause-row : goal.returns-in_err-swept-clause-row
returns-in_err-swept-clause-row g c =
    let state = g.D.Disk.state in
    let cabinet = g.C.Cabinet.state in
    let old = c.args.provider.now in
    let new = c.sweep_from.new.provider in
    let tagged = sym c.authenticated.ensures ∙ c.if-not-authenticated.false in
    let p = err_from_is_err_and c.from_residual-in_err-swept.result c.from_residual-in_err-swept.ensures.1 in
    rw (p.1, p.2) (λ queue entropy. verify_unswept state queue (cabinet c.args.files.now) (cabinet c.find_place.new.files) entropy old new c.args.line.now c.args.file c.args.count c.args.restart c.in_ok-place.place c.in_err-swept.field-0.0 tagged
    (c.in_ok-place.ensures (state old.disk) (IsAttached (attachment_of queue old)) entropy) (c.in_err-swept.ensures.row queue (cabinet c.find_place.new.files) entropy))

pub returns-in_err-store_at-clause-row : goal.returns-in_err-store_at-clause-row
returns-in_err-store_at-clause-row g c =
    let state = g.D.Disk.state in
    let cabinet = g.C.Cabinet.state in
    let old = c.args.provider.now in
    let new = c.sweep_from.new.provider in
    let tagged = sym c.authenticated.ensures ∙ c.if-not-authenticated.false in
    let p = err_from_is_err_and c.from_residual-in_err-store_at.result c.from_residual-in_err-store_at.ensures.1 in
    rw (p.1, p.2) (λ queue entropy. verify_unstored state queue (cabinet c.args.files.now) (cabinet c.find_place.new.files) (cabinet c.store_at.new.files) entropy old new c.args.line.now c.args.file c.args.count c.args.restart c.in_ok-place.place
    (record { offsets = numbers_in c.in_ok-swept.swept.bad c.sweep_from.new.buffer; next = c.in_ok-swept.swept.next }) c.to_le_bytes.result c.in_err-store_at.field-0.0 tagged
    (c.in_ok-place.ensures (state old.disk) (IsAttached (attachment_of queue old)) entropy) (c.in_ok-swept.ensures.row queue (cabinet c.find_place.new.files) entropy) c.to_le_bytes.ensures
    (c.in_err-store_at.ensures (state new.disk) (IsAttached (attachment_of queue new)) entropy))

pub returns-clause-row : goal.returns-clause-row
returns-clause-row g c =
    let state = g.D.Disk.state in
    let cabinet = g.C.Cabinet.state in
    let old = c.args.provider.now in
    let new = c.sweep_from.new.provider in
    let tagged = sym c.authenticated.ensures ∙ c.if-not-authenticated.false in
    λ queue entropy. verify_stored state queue (cabinet c.args.files.now) (cabinet c.find_place.new.files) (cabinet c.store_at.new.files) entropy old new c.args.line.now c.args.file c.args.count c.args.restart c.in_ok-place.place
    (record { offsets = numbers_in c.in_ok-swept.swept.bad c.sweep_from.new.buffer; next = c.in_ok-swept.swept.next }) c.to_le_bytes.result tagged
    (c.in_ok-place.ensures (state old.disk) (IsAttached (attachment_of queue old)) entropy) (c.in_ok-swept.ensures.row queue (cabinet c.find_place.new.files) entropy) c.to_le_bytes.ensures
    (c.in_ok-store_at.ensures (state new.disk) (IsAttached (attachment_of queue new)) entropy)
