use Rattle.std.proofs.Common.{◌≡◌, ◌∙◌, ◌≢◌, ℕ, List, ◌%◌, ap, arith, length, sym, subst, Err, take, length-take}
use Rattle.command_rows.specs.Rows.{or_refusal, whole_sectors, write_refusal}
use Rattle.eli_base.specs.declared.refusals.Refusal.TheVariants as refusals
use Rattle.command_rows.specs.Turn.{WriteRow}
use Rattle.shelf.specs.Shelved.{attachment_of}
use Rattle.shelf.proofs.Sectors.{at, whole_sectors-none, whole_sectors-odd, write_answered, write_bad_length}
use Rattle.shelf.proofs.requests.write.Goals as goal
use Rattle.shelf.proofs.requests.write.Goals.{then-given-eq0-via-then-given-eq0, then-given-eq0-via-else-given-eq0+then-given-sectorsize-ne0}

pub returns-then-given-eq0 : goal.returns-then-given-eq0
returns-then-given-eq0 g c =
    let size : c.sector_size-sectorsize.result ≡ c.args.provider.now.keying.sectorsize = c.sector_size-sectorsize.ensures.size in
    let S = c.args.provider.now.keying.sectorsize in
    let count = c.decode-given.result in
    let bytes = take count c.decode-given.new.buffer in
    let len : length bytes ≡ count = omega (arith, length-take count c.decode-given.new.buffer, c.decode-given.auto.buffer, c.requires.room, c.decode-given.ensures.bound) in
    let bad : whole_sectors S (length bytes) ≡ Err (refusals.BadLength (length bytes) S) =
    elim c.then-given-eq0.branch [
      | then-given-eq0-via-then-given-eq0 w ↦ whole_sectors-none S (length bytes) (len ∙ w.if-given-eq0.true)
      | then-given-eq0-via-else-given-eq0+then-given-sectorsize-ne0 w ↦ whole_sectors-odd S (length bytes) (subst (λ (n : ℕ). n % S ≢ 0) (sym len) (subst (λ (s : ℕ). count % s ≢ 0) size w.if-given-sectorsize-ne0.true))
    ] in
    let said : whole_sectors S (length bytes) ≡ Err (refusals.BadLength count c.sector_size-sectorsize.result) =
    bad ∙ ap (λ (n : ℕ). Err (refusals.BadLength n S)) len ∙ ap (λ (s : ℕ). Err (refusals.BadLength count s)) (sym size) in
    λ queue cabinet entropy. subst (λ (b : List ℕ). WriteRow c.args.sector b (attachment_of queue c.args.provider.now) (at g.D.Disk.state queue cabinet entropy c.args.provider.now) (Err (refusals.BadLength count c.sector_size-sectorsize.result)) (at g.D.Disk.state queue cabinet entropy c.args.provider.now))
    c.decode-given.ensures.bytes (write_bad_length g.D.Disk.state queue cabinet entropy c.args.provider.now c.args.sector bytes _ said)

pub returns : goal.returns
returns g c =
    let size : c.sector_size-sectorsize.result ≡ c.args.provider.now.keying.sectorsize = c.sector_size-sectorsize.ensures.size in
    let S = c.args.provider.now.keying.sectorsize in
    let count = c.decode-given.result in
    let bytes = take count c.decode-given.new.buffer in
    let len : length bytes ≡ count = omega (arith, length-take count c.decode-given.new.buffer, c.decode-given.auto.buffer, c.requires.room, c.decode-given.ensures.bound) in
    let even : length bytes % S ≡ 0 = subst (λ (n : ℕ). n % S ≡ 0) (sym len) (subst (λ (s : ℕ). count % s ≡ 0) size c.if-given-sectorsize-ne0.false) in
    λ queue cabinet entropy. rw c.write_answer.ensures
    (subst (λ (b : List ℕ). WriteRow c.args.sector b (attachment_of queue c.args.provider.now) (at g.D.Disk.state queue cabinet entropy c.args.provider.now) (or_refusal write_refusal c.write.result) (at g.D.Disk.state queue cabinet entropy c.write.new.self)) c.decode-given.ensures.bytes
    (write_answered g.D.Disk.state queue cabinet entropy c.args.provider.now c.write.new.self c.args.sector bytes c.write.result
    (omega (arith, len, c.if-given-eq0.false)) (omega (arith, len, c.decode-given.ensures.bound)) even c.write.ensures.kept c.write.ensures.answer c.write.ensures.unasked))
