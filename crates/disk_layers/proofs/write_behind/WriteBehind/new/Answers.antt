-- Nothing waits, and the history is that of the disk below.
use Rattle.std.proofs.Common.{◌∙◌, List, ap, sym, subst, subst₂}
use Rattle.block_traits.specs.declared.disk.Event.{Event}
use Rattle.block_traits.specs.Content.{logged}
use Rattle.block_traits.specs.Disk.{FitsSize}
use Rattle.disk_layers.specs.declared.write_behind.Waiting.{Waiting}
use Rattle.disk_layers.specs.Covering.{CoversTold}
use Rattle.disk_layers.specs.History.{with_history}
use Rattle.disk_layers.specs.Waiting.{writes_of}
use Rattle.disk_layers.proofs.BehindLemmas.{anew-own, new-covered, new-fitting}
use Rattle.disk_layers.proofs.write_behind.WriteBehind.new.Goals as goal

pub invariant_of-result-clause-fits : goal.invariant_of-result-clause-fits
invariant_of-result-clause-fits g c =
    let d = g.D.Disk.state c.args.under in
    subst (λ (l : List Event). FitsSize d.size (with_history l d.content)) (sym c.history_of-past.ensures) (new-fitting d.size d.content d.well_formed.fits)

pub invariant_of-result-clause-covered : goal.invariant_of-result-clause-covered
invariant_of-result-clause-covered g c =
    let d = g.D.Disk.state c.args.under in
    let P = λ (w : List Waiting) (l : List Event). CoversTold (logged (writes_of w) d.content) (with_history l d.content) in
    subst₂ P (sym c.in-Ok.ensures.items) (sym c.history_of-past.ensures) (new-covered d.content)

pub returns-clause-told : goal.returns-clause-told
returns-clause-told g c =
    let d = g.D.Disk.state c.args.under in
    ap (λ (l : List Event). with_history l d.content) c.history_of-past.ensures ∙ anew-own d.content
