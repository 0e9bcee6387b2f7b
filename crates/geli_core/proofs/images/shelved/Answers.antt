use Rattle.std.proofs.Common.{rules, ◌≡◌, ◌∙◌, ◌+◌, arith, drop, get_or, map, refl, string_bytes}
use Rattle.std.proofs.lemmas.Grind.{common_steps}
use Rattle.command_rows.specs.Rows.{DrawerState, Idle}
use Rattle.geli_core.specs.Images.{idle_drawers}
use Rattle.geli_core.specs.Vocabulary.{drawers_of}
use Rattle.geli_core.proofs.Shelving.{differ_more, idle_next, not_shelved, refused_next, taken_next}
use Rattle.geli_core.proofs.images.shelved.Goals as goal

pub loop-name-init : goal.loop-name-init
loop-name-init g c =
    let none = c.in-Ok.ensures in
    (rw none refl, omega (arith, c.requires), rw none tt, rw none refl)

pub remove-requires : goal.remove-requires
remove-requires g c = omega (arith, c.loop-name.invariant.1, c.loop-name-test.true, c.loop-name.disks.ok.0)

pub loop-name-preserved : goal.loop-name-preserved
loop-name-preserved g c =
    let state = g.D.Disk.state in
    let before = drawers_of state c.loop-name.shelf.drawers in
    let here : get_or c.args.names.now c.loop-name.name-index c.name-item.result ≡ c.name-item.result = search (rules, c.name-item.is) in
    let adds = c.in-Ok-add.ensures.adds in (
      rw (adds.added, c.as_str.ensures.value) (
          idle_next state string_bytes before c.args.names.now c.loop-name.name-index c.name-item.result c.loop-name.disks.items c.remove.new.self.items c.remove.result
          c.loop-name-test.true here (omega (arith, c.loop-name.invariant.1, c.loop-name-test.true)) c.remove.ensures.value c.remove.ensures.items ∙ c.loop-name.invariant.0),
      omega (arith, c.loop-name.invariant.1, c.loop-name-test.true, c.remove.ensures.len, c.loop-name.disks.ok.0, c.remove.new.self.ok.0),
      rw adds.added (differ_more before _ c.loop-name.invariant.2 adds.free.new_name),
      rw adds.added (
          taken_next state before _ c.loop-name.disks.items c.remove.new.self.items c.remove.result _ (omega (arith, c.loop-name.invariant.1, c.loop-name-test.true)) c.remove.ensures.value c.remove.ensures.items c.loop-name.invariant.3),
    )

pub returns-in-Err-clause-refused : goal.returns-in-Err-clause-refused
returns-in-Err-clause-refused g c =
    let state = g.D.Disk.state in
    let before = drawers_of state c.loop-name.shelf.drawers in
    let here : get_or c.args.names.now c.loop-name.name-index c.name-item.result ≡ c.name-item.result = search (rules, c.name-item.is) in
    let drawer : DrawerState = record { name = c.as_str.result.now; disk = state c.remove.result; holding = Idle } in
    let rest = idle_drawers (map string_bytes (drop (c.loop-name.name-index + 1) c.args.names.now)) (map state c.remove.new.self.items) in
    not_shelved c.in-Err.fault before drawer rest _ (rw c.as_str.ensures.value (
    idle_next state string_bytes before c.args.names.now c.loop-name.name-index c.name-item.result c.loop-name.disks.items c.remove.new.self.items c.remove.result
    c.loop-name-test.true here (omega (arith, c.loop-name.invariant.1, c.loop-name-test.true)) c.remove.ensures.value c.remove.ensures.items ∙ c.loop-name.invariant.0)) c.in-Err.ensures.adds.1

pub returns-in-Err-clause-kept : goal.returns-in-Err-clause-kept
returns-in-Err-clause-kept g c =
    let state = g.D.Disk.state in
    let before = drawers_of state c.loop-name.shelf.drawers in
    rw (c.in-Err.ensures.adds.0, c.in-Err.ensures.adds.2) (
    refused_next state before c.loop-name.disks.items c.remove.new.self.items c.remove.result _ (omega (arith, c.loop-name.invariant.1, c.loop-name-test.true)) c.remove.ensures.value c.remove.ensures.items c.loop-name.invariant.3)

pub returns-in_default-clause-drawers : goal.returns-in_default-clause-drawers
returns-in_default-clause-drawers g c = grind (arith, common_steps) steps 400000

pub returns-in_default-clause-differ : goal.returns-in_default-clause-differ
returns-in_default-clause-differ g c = grind (arith, common_steps) steps 400000

pub returns-in_default-clause-refused : goal.returns-in_default-clause-refused
returns-in_default-clause-refused g c = grind (arith, common_steps) steps 400000

pub returns-in_default-clause-kept : goal.returns-in_default-clause-kept
returns-in_default-clause-kept g c = grind (arith, common_steps) steps 400000

pub returns-in-Err-clause-drawers : goal.returns-in-Err-clause-drawers
returns-in-Err-clause-drawers g c = grind (arith, common_steps) steps 400000

pub returns-in-Err-clause-differ : goal.returns-in-Err-clause-differ
returns-in-Err-clause-differ g c = grind (arith, common_steps) steps 400000

pub returns-clause-drawers : goal.returns-clause-drawers
returns-clause-drawers g c = grind (arith, common_steps)

pub returns-clause-differ : goal.returns-clause-differ
returns-clause-differ g c = grind (arith, common_steps)

pub returns-clause-refused : goal.returns-clause-refused
returns-clause-refused g c = grind (arith, common_steps) steps 400000

pub returns-clause-kept : goal.returns-clause-kept
returns-clause-kept g c = grind (arith, common_steps) steps 400000
