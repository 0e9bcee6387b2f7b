use Rattle.std.proofs.Common.{refl, subst, sym}
use Rattle.command_rows.specs.Vocabulary.{settings_of}
use Rattle.key_slots.specs.Slots.{IsKeyBits}
use Rattle.provider.proofs.Checked.{bits_allowed, said}
use Rattle.shelf.proofs.set_key.open.Goals as goal

pub opened-requires-clause-keylen : goal.opened-requires-clause-keylen
opened-requires-clause-keylen c =
    let params = c.args.params.now in
    let s = said c.args.meta.now (settings_of params) c.requires in
    let bits : IsKeyBits params.keylen = bits_allowed params.cipher params.keylen params.allowed in
    subst IsKeyBits (sym s.keylen) bits

pub returns-in-Some-clause-slot : goal.returns-in-Some-clause-slot
returns-in-Some-clause-slot c = ((c.in-Some.ensures.opens c.in-Some.found.1 c.in-Some.found.0.bytes).1 refl).slot
