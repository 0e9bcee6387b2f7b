use Rattle.std.proofs.Common.{◌≡◌, ◌∙◌, ℕ, ◌*◌, ◌<◌, ◌≤◌, ap, arith, sym, subst, Err}
use Rattle.command_rows.specs.Rows.{whole_sectors}
use Rattle.eli_base.specs.declared.refusals.Refusal.TheVariants as refusals
use Rattle.shelf.proofs.QueueingRows.{read_refused, read_submitted}
use Rattle.shelf.proofs.Sectors.{whole_sectors-many, whole_sectors-none}
use Rattle.shelf.proofs.queueing.submit_read.Goals as goal
use Rattle.shelf.proofs.queueing.submit_read.Goals.{then-given-eq0-via-then-given-eq0, then-given-eq0-via-else-given-eq0+then-given-gt-REQUEST_LIMIT}

pub returns-then-given-eq0 : goal.returns-then-given-eq0
returns-then-given-eq0 g c =
    let size : c.sector_size-sectorsize.result ≡ c.args.provider.now.keying.sectorsize = c.sector_size-sectorsize.ensures.size in
    let one : c.from.result ≡ c.args.count = c.from.ensures in
    let two : c.from-2.result ≡ c.args.provider.now.keying.sectorsize = c.from-2.ensures ∙ size in
    let S = c.args.provider.now.keying.sectorsize in
    let given : c.from.result * c.from-2.result ≡ c.args.count * S = ap (λ (n : ℕ). n * c.from-2.result) one ∙ ap (λ (n : ℕ). c.args.count * n) two in
    let bad : whole_sectors S (c.args.count * S) ≡ Err (refusals.BadLength (c.args.count * S) S) =
    elim c.then-given-eq0.branch [
      | then-given-eq0-via-then-given-eq0 w ↦ whole_sectors-none S (c.args.count * S) (sym given ∙ w.if-given-eq0.true)
      | then-given-eq0-via-else-given-eq0+then-given-gt-REQUEST_LIMIT w ↦ whole_sectors-many S (c.args.count * S) (subst (λ (n : ℕ). 131072 < n) given w.if-given-gt-REQUEST_LIMIT.true)
    ] in
    λ line cabinet entropy. rw (given, size) (read_refused g.D.Disk.state cabinet entropy c.args.provider.now c.args.queue.now line c.args.sector c.args.count _ bad)

pub returns : goal.returns
returns g c =
    let size : c.sector_size-sectorsize.result ≡ c.args.provider.now.keying.sectorsize = c.sector_size-sectorsize.ensures.size in
    let two : c.from-2.result ≡ c.args.provider.now.keying.sectorsize = c.from-2.ensures ∙ size in
    let S = c.args.provider.now.keying.sectorsize in
    let given : c.from.result * c.from-2.result ≡ c.args.count * S = ap (λ (n : ℕ). n * c.from-2.result) c.from.ensures ∙ ap (λ (n : ℕ). c.args.count * n) two in
    let some : 1 ≤ c.args.count * S = subst (λ (n : ℕ). 1 ≤ n) given (omega (arith, c.if-given-eq0.false)) in
    let small : c.args.count * S ≤ 131072 = subst (λ (n : ℕ). n ≤ 131072) given (omega (arith, c.if-given-gt-REQUEST_LIMIT.false)) in
    λ line cabinet entropy. rw c.submit_answer.ensures
    (read_submitted g.D.Disk.state cabinet entropy c.args.provider.now c.submit.new.on c.args.queue.now c.submit.new.self line c.args.sector c.args.count c.submit.result
    (omega (arith, size, c.sector_size-sectorsize.ensures.at_least)) some small c.submit.ensures.stays c.submit.ensures.answer)
