use Rattle.std.proofs.lemmas.List.Elements.{All-replicate}
use Rattle.block_traits.specs.Content.{IsSector}
use Rattle.crash_disk.specs.Image.{zero_sector}
use Rattle.crash_disk.proofs.ImageLemmas.{IsSector-zero_sector}
use Rattle.crash_disk.proofs.sparse_disk.SparseDisk.new.Goals as goal

pub new-requires-2-clause-sectors : goal.new-requires-2-clause-sectors
new-requires-2-clause-sectors c = rw c.new.ensures.items (All-replicate IsSector c.args.sectors zero_sector IsSector-zero_sector)
