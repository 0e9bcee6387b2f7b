use Rattle.std.proofs.Common.{◌≡◌, Some, slice_get, ap, sym, ◌∙◌}
use Rattle.std.specs.Option.{option_copied_mut}
use Rattle.std.specs.Map.Iter.{deref_pair}
use Rattle.std.specs.Prelude.{option_map}
use Rattle.range_keys.proofs.KeptLemmas.{front-found, is-expanded, front-is-remade}
use Rattle.range_keys.proofs.kept.KeptKeys.rekey_first.Goals as goal
use Rattle.range_keys.proofs.kept.KeptKeys.rekey_first.Goals.{in-Some-peek_mut, in_default-peek_mut}

pub returns-clause-remade : goal.returns-clause-remade
returns-clause-remade c =
    let number = c.in-Some.number.now in
    let old = c.args.self.now.cache in
    let front : slice_get old.entries 0 ≡ Some (number, c.in-Some.field-0-1.now) = sym c.peek_mru.ensures ∙ ap (option_map deref_pair) c.in-Some.is in
    elim c.match-peek_mut.branch [
      | in-Some-peek_mut w ↦ front-is-remade c.args.cipher c.args.keylen c.args.base.now number c.in-Some.field-0-1.now w.expanded.result old c.match-peek_mut.self.cache c.demote.new.self
          front (is-expanded c.args.cipher c.args.keylen c.args.base.now w.range_key.result number w.expanded.result w.range_key.ensures w.expanded.ensures.first w.expanded.ensures.second)
          (ap (λ k. k.cache) w.self-is) c.demote.ensures.entries
      | in_default-peek_mut w ↦ front-found number c.in-Some.field-0-1.now old.entries front (sym (ap option_copied_mut w.in_default-peek_mut.is) ∙ c.peek_mut.ensures.value)
    ]
