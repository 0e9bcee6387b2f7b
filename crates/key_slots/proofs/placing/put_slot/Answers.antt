use Rattle.std.proofs.Common.{◌≡◌, refl, ℕ, ◌*◌, List, length, take, drop, ap, ◌∙◌, arith, rules}
use Rattle.key_slots.specs.Slots.{deciphered_slot}
use Rattle.key_slots.proofs.Changes.{set_same, set_other, bytes_same, bytes_other, OpensAsBefore-same}
use Rattle.key_slots.proofs.placing.put_slot.Goals as goal

pub returns-clause-opens : goal.returns-clause-opens
returns-clause-opens c =
    let slot = c.args.slot in
    let long : length c.args.meta.now.mkeys ≡ 384 = search rules in
    let put = ap (λ (l : List ℕ). take 192 (drop (192 * slot) l)) c.put_bytes.ensures ∙ bytes_same c.args.meta.now.mkeys c.args.wrapped.now slot long (omega arith) c.requires in
    λ u master held. record {
      set = set_same c.args.meta.now.keys slot c.requires;
      slot = record { text = ap (λ (l : List ℕ). deciphered_slot l u c.args.meta.now.keylen) put ∙ held.text };
    }

pub returns-clause-other : goal.returns-clause-other
returns-clause-other c =
    let slot = c.args.slot in
    let long : length c.args.meta.now.mkeys ≡ 384 = search rules in
    λ s ls ne. record {
      set = set_other c.args.meta.now.keys slot s c.requires ne;
      bytes = ap (λ (l : List ℕ). take 192 (drop (192 * s) l)) c.put_bytes.ensures
          ∙ bytes_other c.args.meta.now.mkeys c.args.wrapped.now slot s long (omega arith) c.requires ls ne;
    }

pub returns-clause-opens_as_before : goal.returns-clause-opens_as_before
returns-clause-opens_as_before c = λ s ls ne. OpensAsBefore-same _ _ s (returns-clause-other c s ls ne) refl
