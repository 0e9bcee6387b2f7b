use Rattle.std.proofs.Common.{◌≡◌}
use Rattle.file_edge.specs.Asked.{more}
use Rattle.file_edge.specs.Storing.{met}
use Rattle.file_edge.proofs.store.make_beside.Given as goal

-- the names of the numbers so far were met, and names have what they had
abbrev pub invariant-loop-number : goal.invariant-loop-number
invariant-loop-number g l = record {
  asked : g.O.Opener.asked l.opener ≡ more (met l.name l.number) (g.O.Opener.asked l.fn.opener);
  told : g.O.Opener.told l.opener ≡ g.O.Opener.told l.fn.opener;
}
