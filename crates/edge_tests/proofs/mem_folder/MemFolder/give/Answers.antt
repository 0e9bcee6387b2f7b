use Rattle.std.proofs.Common.{◌≡◌, ◌∷◌, ◌++◌, [], rules}
use Rattle.std.specs.Prelude.{string_bytes}
use Rattle.edge_tests.specs.declared.change.Change.{Change}
use Rattle.edge_tests.proofs.Changes.{given}
use Rattle.edge_tests.proofs.mem_folder.MemFolder.give.Goals as goal

pub returns : goal.returns
returns g c =
    let change : Change = record { name = c.expect-name.result; id = c.args.id; bytes = c.args.bytes } in
    let pushed : c.push.new.self.items ≡ c.args.self.now.changes.items ++ change ∷ [] = search rules in
    let same : string_bytes c.expect-name.result ≡ c.args.name.now = search rules in
    given c.args.self.now.changes.items c.push.new.self.items change c.args.name.now pushed same
