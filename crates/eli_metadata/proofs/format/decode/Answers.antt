use Rattle.std.proofs.Common.{ap, sym, ◌∙◌}
use Rattle.std.proofs.lemmas.Slice.Eq.{bytes_eq-Decides}
use Rattle.eli_metadata.specs.declared.metadata.Metadata.{Metadata}
use Rattle.eli_metadata.proofs.Laws.{encoded-fields, flags-fields, version-fields}
use Rattle.eli_metadata.proofs.format.decode.Goals as goal

pub returns-clause-again : goal.returns-clause-again
returns-clause-again c =
    rw c.read_fields.ensures
    (encoded-fields c.args.from.now c.told-from c.fits-from ((bytes_eq-Decides _ _).0 (sym c.has_magic.ensures ∙ c.if-not-has_magic.false))
    ((bytes_eq-Decides _ _).0 (sym c.has_hash.ensures ∙ c.if-not-has_hash.false)))

pub returns-clause-version : goal.returns-clause-version
returns-clause-version c =
    let served = sym c.is_served.ensures ∙ c.if-not-is_served.false in
    let version = ap (λ (m : Metadata). m.version) c.read_fields.ensures ∙ sym (version-fields c.args.from.now) ∙ sym c.u32_at-version.ensures in
    let flags = ap (λ (m : Metadata). m.flags) c.read_fields.ensures ∙ sym (flags-fields c.args.from.now) ∙ sym c.u32_at.ensures in
    rw (version, flags) served
