use Rattle.std.proofs.Common.{◌≡◌, ◌∙◌, ◌<◌, ℕ, Option, ap, arith, get_or, length, rules, subst, sym}
use Rattle.std.specs.Prelude.{IfSome, string_bytes}
use Rattle.edge_tests.specs.Change.{named_at}
use Rattle.edge_tests.proofs.Changes.{found, passed}
use Rattle.edge_tests.proofs.change.Change.last_of.Goals as goal
use Rattle.edge_tests.proofs.change.Change.last_of.Goals.{then-eq, else-eq}

pub loop-i-preserved : goal.loop-i-preserved
loop-i-preserved c =
    let changes = c.args.changes.now in
    let change = c.index-changes-i.result in
    let inside : c.loop-i.i < length changes = omega (arith, c.loop-i-test.true) in
    let here : get_or changes c.loop-i.i change ≡ change = sym c.index-changes-i.is in
    let P : Option ℕ → Type 0 = λ last. IfSome last (λ place. place < length changes) in
    elim c.if-eq.branch [
      | then-eq w ↦
          let same : string_bytes change.name ≡ c.args.name.now = search (rules, c.eq.ensures, w.if-eq.true, c.as_str.ensures.value) in
          record { named = ap (named_at changes) w.last-is ∙ found changes c.loop-i.i change c.args.name.now inside here same; inside = subst P (sym w.last-is) inside }
      | else-eq w ↦
          let other : string_bytes change.name ≡ c.args.name.now → ⊥ = λ same. search (rules, c.eq.ensures, w.if-eq.false, c.as_str.ensures.value, same) in
          record {
            named = ap (named_at changes) w.last-is ∙ passed changes c.loop-i.last c.loop-i.i change c.args.name.now inside here other c.loop-i.invariant.named;
            inside = subst P (sym w.last-is) c.loop-i.invariant.inside;
          }
    ]
