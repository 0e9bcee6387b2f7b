use Rattle.std.proofs.Common.{◌≡◌, ◌∙◌, ◌<◌, None, length, rules, sym}
use Rattle.command_rows.specs.Rows.{place_of}
use Rattle.shelf.specs.Shelved.{drawers_of}
use Rattle.shelf.proofs.Listing.{added, none_found}
use Rattle.shelf.proofs.Naming.{added_differ}
use Rattle.shelf.proofs.drawers.Drawers.add.Goals as goal

pub returns-in-Ok : goal.returns-in-Ok
returns-in-Ok g c =
    let drawers = c.self.inside.drawers.items in
    let room : length drawers < 16 = search rules in
    let found = rw (c.deref.ensures.value, c.as_bytes.ensures.value) at c.find.ensures.found in
    let free : place_of c.args.name.now (drawers_of g.D.Disk.state drawers) ≡ None = sym found ∙ none_found c.find.result (sym c.is_some.ensures ∙ c.if-is_some.false) in
    let same : c.from_vec-name.result ≡ c.args.name.now = search rules in
    rw (← c.self.view_is) (record { adds = added g.D.Disk.state c.args.name.now c.from_vec-name.result c.args.disk drawers c.push_reserved.new.self.items room free same c.push_reserved.ensures.items })

pub invariant_of-self : goal.invariant_of-self
invariant_of-self g c =
    let drawers = c.self.inside.drawers.items in
    let found = rw (c.deref.ensures.value, c.as_bytes.ensures.value) at c.find.ensures.found in
    let free : place_of c.args.name.now (drawers_of g.D.Disk.state drawers) ≡ None = sym found ∙ none_found c.find.result (sym c.is_some.ensures ∙ c.if-is_some.false) in
    let same : c.from_vec-name.result ≡ c.args.name.now = search rules in
    (search rules, search rules, search rules, added_differ g.D.Disk.state c.args.name.now c.from_vec-name.result c.args.disk drawers c.push_reserved.new.self.items free same c.push_reserved.ensures.items c.self.invariant.3)
