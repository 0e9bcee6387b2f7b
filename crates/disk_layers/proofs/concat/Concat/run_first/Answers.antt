-- What was noted is what the disk logged.
use Rattle.std.proofs.Common.{◌+◌, List, refl, sym, subst}
use Rattle.block_traits.specs.declared.disk.Event.{Event}
use Rattle.block_traits.specs.Disk.{FitsSize, write_events}
use Rattle.disk_layers.specs.Joined.{CoversBoth, joined_content}
use Rattle.disk_layers.proofs.Failing.{failed_first}
use Rattle.disk_layers.proofs.JoinedLemmas.{AreWrites-from, Part-answer, first-covers, first-fails, first-fits, first-logs, noted-first, on_err, on_ok}
use Rattle.disk_layers.proofs.concat.Concat.run_first.Goals as goal

pub invariant_of-self-clause-fits : goal.invariant_of-self-clause-fits
invariant_of-self-clause-fits g c =
    let old = g.A.Disk.state c.args.self.now.first in
    let new = g.A.Disk.state c.write_some-answer.new.disk in
    let other = g.B.Disk.state c.args.self.now.second in
    let past : List Event = c.args.self.now.past.events in
    let events : List Event = write_events c.args.first c.args.from.now in
    let noted = noted-first past c.with_first-self.result.events c.history_of-before.result.events old.content new.content c.history_of-before.ensures c.with_first-self.ensures in
    let part = Part-answer events c.write_some-answer.result {old = old} {new = new} (on_ok c.write_some-answer.result (λ h. h.logs) c.write_some-answer.ensures.did) (on_err c.write_some-answer.result (λ h. h.fails) c.write_some-answer.ensures.failed) in
    subst (λ (l : List Event). FitsSize (new.size + other.size) (joined_content l new.content other.content)) (sym noted) (first-fits events past old new other part c.args.self.now.fits)

pub invariant_of-self-clause-covered : goal.invariant_of-self-clause-covered
invariant_of-self-clause-covered g c =
    let old = g.A.Disk.state c.args.self.now.first in
    let new = g.A.Disk.state c.write_some-answer.new.disk in
    let other = g.B.Disk.state c.args.self.now.second in
    let past : List Event = c.args.self.now.past.events in
    let events : List Event = write_events c.args.first c.args.from.now in
    let noted = noted-first past c.with_first-self.result.events c.history_of-before.result.events old.content new.content c.history_of-before.ensures c.with_first-self.ensures in
    let part = Part-answer events c.write_some-answer.result {old = old} {new = new} (on_ok c.write_some-answer.result (λ h. h.logs) c.write_some-answer.ensures.did) (on_err c.write_some-answer.result (λ h. h.fails) c.write_some-answer.ensures.failed) in
    subst (λ (l : List Event). CoversBoth new.size new.content other.content (joined_content l new.content other.content)) (sym noted) (first-covers events past old new other part c.args.self.now.covered)

pub returns-clause-ok : goal.returns-clause-ok
returns-clause-ok g c =
    let old = g.A.Disk.state c.args.self.now.first in
    let new = g.A.Disk.state c.write_some-answer.new.disk in
    let other = g.B.Disk.state c.args.self.now.second in
    let past : List Event = c.args.self.now.past.events in
    let events : List Event = write_events c.args.first c.args.from.now in
    let noted = noted-first past c.with_first-self.result.events c.history_of-before.result.events old.content new.content c.history_of-before.ensures c.with_first-self.ensures in
    on_ok c.write_some-answer.result (first-logs past c.with_first-self.result.events old new other _ _ (record { content = refl; size = refl; shows = refl; faults = refl }) (record { content = refl; size = refl; shows = refl; faults = refl }) events (AreWrites-from c.args.first _) noted) (on_ok c.write_some-answer.result (λ h. h.logs) c.write_some-answer.ensures.did)

pub returns-clause-err : goal.returns-clause-err
returns-clause-err g c =
    let old = g.A.Disk.state c.args.self.now.first in
    let new = g.A.Disk.state c.write_some-answer.new.disk in
    let other = g.B.Disk.state c.args.self.now.second in
    let past : List Event = c.args.self.now.past.events in
    let events : List Event = write_events c.args.first c.args.from.now in
    let noted = noted-first past c.with_first-self.result.events c.history_of-before.result.events old.content new.content c.history_of-before.ensures c.with_first-self.ensures in
    on_err c.write_some-answer.result (first-fails past c.with_first-self.result.events old new other _ _ (record { content = refl; size = refl; shows = refl; faults = refl }) (record { content = refl; size = refl; shows = refl; faults = refl }) events (AreWrites-from c.args.first _) noted) (on_err c.write_some-answer.result (λ h. h.fails) c.write_some-answer.ensures.failed)

pub returns-clause-failed_last : goal.returns-clause-failed_last
returns-clause-failed_last g c =
    failed_first c.write_some-answer.result c.which_failed-self.result (write_events c.args.first c.args.from.now) (g.A.Disk.state c.args.self.now.first) (g.A.Disk.state c.write_some-answer.new.disk) (g.B.Disk.state c.args.self.now.second) _
    c.which_failed-self.ensures.err (on_err c.write_some-answer.result (λ h. h.fails) c.write_some-answer.ensures.failed)
