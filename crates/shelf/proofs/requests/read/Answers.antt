use Rattle.std.proofs.Common.{◌≡◌, ◌∙◌, ℕ, ◌*◌, ◌<◌, ap, arith, length, sym, subst, Err, take, drop, length-take}
use Rattle.command_rows.specs.Rows.{whole_sectors}
use Rattle.eli_base.specs.declared.refusals.Refusal.TheVariants as refusals
use Rattle.shelf.proofs.Sectors.{read_answered, read_bad_length, read_bytes, whole_sectors-many, whole_sectors-none}
use Rattle.shelf.proofs.requests.read.Goals as goal
use Rattle.shelf.proofs.requests.read.Goals.{then-given-eq0-via-then-given-eq0, then-given-eq0-via-else-given-eq0+then-given-gt-REQUEST_LIMIT}

pub returns-then-given-eq0-clause-row : goal.returns-then-given-eq0-clause-row
returns-then-given-eq0-clause-row g c =
    let size : c.sector_size-sectorsize.result ≡ c.args.provider.now.keying.sectorsize = c.sector_size-sectorsize.ensures.size in
    let one : c.from.result ≡ c.args.count = c.from.ensures in
    let two : c.from-2.result ≡ c.args.provider.now.keying.sectorsize = c.from-2.ensures ∙ size in
    let S = c.args.provider.now.keying.sectorsize in
    let given : c.from.result * c.from-2.result ≡ c.args.count * S = ap (λ (n : ℕ). n * c.from-2.result) one ∙ ap (λ (n : ℕ). c.args.count * n) two in
    let bad : whole_sectors S (c.args.count * S) ≡ Err (refusals.BadLength (c.args.count * S) S) =
    elim c.then-given-eq0.branch [
      | then-given-eq0-via-then-given-eq0 w ↦ whole_sectors-none S (c.args.count * S) (sym given ∙ w.if-given-eq0.true)
      | then-given-eq0-via-else-given-eq0+then-given-gt-REQUEST_LIMIT w ↦ whole_sectors-many S (c.args.count * S) (subst (λ (n : ℕ). 131072 < n) given w.if-given-gt-REQUEST_LIMIT.true)
    ] in
    λ queue cabinet entropy. rw (given, size) (read_bad_length g.D.Disk.state queue cabinet entropy c.args.provider.now c.args.sector c.args.count _ bad)

pub returns-clause-row : goal.returns-clause-row
returns-clause-row g c =
    let size : c.sector_size-sectorsize.result ≡ c.args.provider.now.keying.sectorsize = c.sector_size-sectorsize.ensures.size in
    let two : c.from-2.result ≡ c.args.provider.now.keying.sectorsize = c.from-2.ensures ∙ size in
    let S = c.args.provider.now.keying.sectorsize in
    let given : c.from.result * c.from-2.result ≡ c.args.count * S = ap (λ (n : ℕ). n * c.from-2.result) c.from.ensures ∙ ap (λ (n : ℕ). c.args.count * n) two in
    let before = take (c.from.result * c.from-2.result) c.args.buffer.now in
    let len : length before ≡ c.from.result * c.from-2.result = omega (arith, length-take (c.from.result * c.from-2.result) c.args.buffer.now) in
    let same : length c.read-answer.new.into ≡ length before = c.read-answer.auto.into in
    λ queue cabinet entropy. rw (c.read_answer.ensures, read_bytes c.read-answer.new.into (drop (c.from.result * c.from-2.result) c.args.buffer.now) (c.from.result * c.from-2.result) c.read-answer.result (same ∙ len))
    (read_answered g.D.Disk.state queue cabinet entropy c.args.provider.now c.read-answer.new.self c.args.sector c.args.count before c.read-answer.new.into c.read-answer.result
    (omega (arith, size, c.sector_size-sectorsize.ensures.at_least)) (omega (arith, len, c.if-given-eq0.false)) (omega (arith, len, c.if-given-gt-REQUEST_LIMIT.false)) (len ∙ given) same c.read-answer.ensures.kept c.read-answer.ensures.answer)
