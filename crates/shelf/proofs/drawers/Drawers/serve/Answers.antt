use Rattle.std.proofs.Common.{◌≡◌, ◌∙◌, ℕ, List, ap, refl, rules, subst, sym}
use Rattle.std.proofs.Math.ListN.{set}
use Rattle.std.specs.List.{insert}
use Rattle.command_words.specs.declared.verbs.Traits.{Traits}
use Rattle.reply_text.specs.Text.{FitsPayload}
use Rattle.shelf.specs.Shelved.{DifferInName}
use Rattle.shelf.specs.declared.drawer.Drawer.{Drawer}
use Rattle.shelf.proofs.Naming.{removed_differ, set_differ}
use Rattle.shelf.proofs.Requesting.{request_stays}
use Rattle.shelf.proofs.Places.{ChangesAt-set, ServesAt-out, ServesAt-row, insert-remove, whole_buffer}
use Rattle.shelf.proofs.drawers.Drawers.serve.Goals as goal

pub invariant_of-self : goal.invariant_of-self
invariant_of-self g c =
    let bound = rw c.deref.ensures.value at c.in-Some-find.ensures.bound in (
      search rules,
      search rules,
      search rules,
      set_differ c.self.inside.drawers.items c.in-Some-find.place c.index_mut-drawer.result.now c.serve_request.new.self bound c.index_mut-drawer.ensures.value c.serve_request.ensures.name c.self.invariant.3,
    )

pub returns-then-is_attached-clause-turn : goal.returns-then-is_attached-clause-turn
returns-then-is_attached-clause-turn g c =
    let found = rw (c.deref.ensures.value, c.bytes_in-name.ensures) at c.in-Some-find.ensures.found in
    let bound = rw c.deref.ensures.value at c.in-Some-find.ensures.bound in
    let len = c.serve_request.auto.buffer ∙ c.as_mut_slice-buffer.ensures.len in
    let whole = whole_buffer c.serve_request.new.buffer c.self.inside.buffer.items c.self.inside.buffer.len len in
    rw (← c.self.view_is, ← c.in-Some.ensures, ← found, whole)
    (ServesAt-row _ _ _ _ _ _ (request_stays _ (ap (λ (t : Traits). t.is_request) (sym c.traits-traits.ensures) ∙ c.if-traits.true))
    (ChangesAt-set g.D.Disk.state _ _ _ _ c.self.inside.drawers.items c.in-Some-find.place c.index_mut-drawer.result.now c.serve_request.new.self bound c.index_mut-drawer.ensures.value c.serve_request.ensures.name refl refl
    (c.serve_request.ensures.serves _ _)))

pub returns-then-is_attached-clause-payload : goal.returns-then-is_attached-clause-payload
returns-then-is_attached-clause-payload g c =
    let len = c.serve_request.auto.buffer ∙ c.as_mut_slice-buffer.ensures.len in
    let whole = whole_buffer c.serve_request.new.buffer c.self.inside.buffer.items c.self.inside.buffer.len len in
    rw whole (subst (λ (n : ℕ). FitsPayload n c.serve_request.result) (sym (len ∙ c.self.invariant.2)) c.serve_request.ensures.payload)

pub invariant_of-self-then-traits-2 : goal.invariant_of-self-then-traits-2
invariant_of-self-then-traits-2 g c =
    let xs = c.self.inside.drawers.items in
    let bound = rw c.deref.ensures.value at c.in-Some-find.ensures.bound in (
      search rules,
      search rules,
      search rules,
      subst (λ (ys : List (Drawer g.row.D.Denot)). DifferInName ys) (sym c.remove-drawer.ensures.items) (removed_differ xs c.in-Some-find.place c.remove-drawer.result bound c.remove-drawer.ensures.value c.self.invariant.3),
    )

pub invariant_of-self-2 : goal.invariant_of-self-2
invariant_of-self-2 g c =
    let xs = c.self.inside.drawers.items in
    let place = c.in-Some-find.place in
    let after = c.serve-drawer.result.0 in
    let bound = rw c.deref.ensures.value at c.in-Some-find.ensures.bound in
    let put : c.put_back.new.items.items ≡ set xs place after =
    c.put_back.ensures.items ∙ ap (λ (ys : List (Drawer g.row.D.Denot)). insert ys place after) c.remove-drawer.ensures.items ∙ insert-remove xs place after bound in (
      search rules,
      search rules,
      search rules,
      subst (λ (ys : List (Drawer g.row.D.Denot)). DifferInName ys) (sym put) (set_differ xs place c.remove-drawer.result after bound c.remove-drawer.ensures.value c.serve-drawer.ensures.name c.self.invariant.3),
    )

pub returns-clause-turn : goal.returns-clause-turn
returns-clause-turn g c =
    let found = rw (c.deref.ensures.value, c.bytes_in-name.ensures) at c.in-Some-find.ensures.found in
    let bound = rw c.deref.ensures.value at c.in-Some-find.ensures.bound in
    let len = c.serve-drawer.auto.buffer ∙ c.as_mut_slice-buffer-2.ensures.len in
    let whole = whole_buffer c.serve-drawer.new.buffer c.self.inside.buffer.items c.self.inside.buffer.len len in
    rw (← c.self.view_is, ← c.in-Some.ensures, ← found, c.put_back.ensures.items, c.remove-drawer.ensures.items, insert-remove c.self.inside.drawers.items c.in-Some-find.place c.serve-drawer.result.0 bound, whole)
    (ServesAt-row _ _ _ _ _ _ (ap (λ (t : Traits). t.takes_out) (sym c.traits-traits.ensures) ∙ c.if-traits-2.false)
    (ChangesAt-set g.D.Disk.state _ _ _ _ c.self.inside.drawers.items c.in-Some-find.place c.remove-drawer.result c.serve-drawer.result.0 bound c.remove-drawer.ensures.value c.serve-drawer.ensures.name refl refl
    c.serve-drawer.ensures.serves))

pub returns-then-traits-2-clause-turn : goal.returns-then-traits-2-clause-turn
returns-then-traits-2-clause-turn g c =
    let found = rw (c.deref.ensures.value, c.bytes_in-name.ensures) at c.in-Some-find.ensures.found in
    let bound = rw c.deref.ensures.value at c.in-Some-find.ensures.bound in
    rw (← c.self.view_is, ← c.in-Some.ensures, ← found, c.remove-drawer.ensures.items)
    (ServesAt-out g.D.Disk.state _ _ _ _ c.self.inside.drawers.items c.in-Some-find.place c.remove-drawer.result bound c.remove-drawer.ensures.value (ap (λ (t : Traits). t.takes_out) (sym c.traits-traits.ensures) ∙ c.if-traits-2.true) refl refl)

pub returns-clause-payload : goal.returns-clause-payload
returns-clause-payload g c =
    let len = c.serve-drawer.auto.buffer ∙ c.as_mut_slice-buffer-2.ensures.len in
    let whole = whole_buffer c.serve-drawer.new.buffer c.self.inside.buffer.items c.self.inside.buffer.len len in
    rw whole (subst (λ (n : ℕ). FitsPayload n c.serve-drawer.result.1) (sym (len ∙ c.self.invariant.2)) c.serve-drawer.ensures.payload)
