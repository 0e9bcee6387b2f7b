use Rattle.std.proofs.Common.{Some, ap, sym}
use Rattle.std.specs.Prelude.{string_bytes}
use Rattle.file_edge.specs.Names.{NameMap, NamedFiles}
use Rattle.edge_tests.specs.Change.{after_changes, nothing}
use Rattle.edge_tests.proofs.Changes.{same_named}
use Rattle.edge_tests.proofs.mem_files.MemFilesOpener.write.Goals as goal

pub returns-then-is_err-clause-told : goal.returns-then-is_err-clause-told
returns-then-is_err-clause-told g c =
    let named = after_changes nothing c.args.self.now.folder.changes.items in
    let fresh = string_bytes c.args.self.now.fresh in
    (named fresh, ap (λ (n : NameMap). let names : NamedFiles = record { named = n; fresh = fresh } in Some names) (sym (same_named named fresh)))
