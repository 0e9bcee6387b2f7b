use Rattle.std.proofs.Common.{◌≡◌, refl, ℕ, ◌*◌, List, length, take, drop, ap, ◌∙◌, arith, rules}
use Rattle.key_slots.proofs.Changes.{clear_other, bytes_other, OpensAsBefore-same}
use Rattle.key_slots.proofs.placing.clear_slot.Goals as goal

pub returns-clause-other : goal.returns-clause-other
returns-clause-other c =
    let slot = c.args.slot in
    let long : length c.args.meta.now.mkeys ≡ 384 = search rules in
    λ s ls ne. record {
      set = clear_other c.args.meta.now.keys slot s c.requires ls ne;
      bytes = ap (λ (l : List ℕ). take 192 (drop (192 * s) l)) c.put_bytes.ensures
          ∙ bytes_other c.args.meta.now.mkeys c.args.filler.now slot s long (omega arith) c.requires ls ne;
    }

pub returns-clause-opens_as_before : goal.returns-clause-opens_as_before
returns-clause-opens_as_before c = λ s ls ne. OpensAsBefore-same _ _ s (returns-clause-other c s ls ne) refl
