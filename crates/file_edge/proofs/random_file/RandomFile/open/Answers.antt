use Rattle.std.proofs.Common.{◌≡◌, rules}
use Rattle.std.specs.Prelude.{is_ok}
use Rattle.file_edge.specs.Opening.{to_read}
use Rattle.file_edge.proofs.random_file.RandomFile.open.Goals as goal

-- src/random_file.rt:21:5
pub returns-clause-asked : goal.returns-clause-asked
returns-clause-asked g c =
    let how : c.read.result.now ≡ to_read = search (rules, c.read.ensures.value, c.read.ensures.same_reference, c.new.ensures) in
    record { done = is_ok c.open.result; log = search (rules, c.open.ensures.asked, how) }
