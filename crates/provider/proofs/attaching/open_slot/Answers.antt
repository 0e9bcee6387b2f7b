use Rattle.std.proofs.Common.{subst, sym, ◌∙◌}
use Rattle.eli_metadata.specs.Checks.{settings_of}
use Rattle.key_slots.specs.Slots.{IsKeyBits}
use Rattle.provider.proofs.Checked.{bits_allowed, said}
use Rattle.provider.proofs.attaching.open_slot.Goals as goal

pub opened-requires-clause-keylen : goal.opened-requires-clause-keylen
opened-requires-clause-keylen c =
    let params = c.args.params.now in
    let s = said c.args.meta.now (settings_of params) c.requires.checked in
    let bits : IsKeyBits params.keylen = bits_allowed params.cipher params.keylen params.allowed in
    subst IsKeyBits (sym s.keylen) bits

pub returns-in-None : goal.returns-in-None
returns-in-None c = (
  c.in-Ok.ensures.fault,
  sym c.opened.ensures.answer ∙ c.in-None.is,
  λ s master opens. let other = (c.opened.ensures.opens s master).0 opens in absurd cc,
)

pub returns-in-Some : goal.returns-in-Some
returns-in-Some c = record {
  room = c.in-Ok.ensures.fault;
  opened = sym c.opened.ensures.answer ∙ c.in-Some.is;
  opens = (c.opened.ensures.opens c.in-Some.slot c.in-Some.master.bytes).1 c.in-Some.is;
}
