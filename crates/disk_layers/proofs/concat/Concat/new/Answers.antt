-- What both logged is covered by all their writes.
use Rattle.std.proofs.Common.{◌+◌, List, sym, subst}
use Rattle.block_traits.specs.declared.disk.Event.{Event}
use Rattle.block_traits.specs.Disk.{FitsSize}
use Rattle.disk_layers.specs.Joined.{CoversBoth, joined_content}
use Rattle.disk_layers.proofs.JoinedLemmas.{new-covers, new-fits}
use Rattle.disk_layers.proofs.concat.Concat.new.Goals as goal

pub invariant_of-result-clause-fits : goal.invariant_of-result-clause-fits
invariant_of-result-clause-fits g c =
    let a = g.A.Disk.state c.args.first in
    let b = g.B.Disk.state c.args.second in
    subst (λ (l : List Event). FitsSize (a.size + b.size) (joined_content l a.content b.content)) (sym c.both_histories-past.ensures) (new-fits a.size b.size a.content b.content a.well_formed.fits b.well_formed.fits)

pub invariant_of-result-clause-covered : goal.invariant_of-result-clause-covered
invariant_of-result-clause-covered g c =
    let a = g.A.Disk.state c.args.first in
    let b = g.B.Disk.state c.args.second in
    subst (λ (l : List Event). CoversBoth a.size a.content b.content (joined_content l a.content b.content)) (sym c.both_histories-past.ensures) (new-covers a.size a.content b.content a.well_formed.fits)
