-- What was noted is what the disk logged.
use Rattle.std.proofs.Common.{◌+◌, List, [], ◌∷◌, refl, sym, subst}
use Rattle.block_traits.specs.declared.disk.Event.{Event}
use Rattle.block_traits.specs.declared.disk.Event.TheVariants.{Write}
use Rattle.block_traits.specs.Disk.{FitsSize}
use Rattle.disk_layers.specs.Joined.{CoversBoth, joined_content}
use Rattle.disk_layers.proofs.Failing.{failed_first}
use Rattle.disk_layers.proofs.JoinedLemmas.{AreWrites-one, Part-answer, first-covers, first-fails, first-fits, first-logs, noted-first, on_err, on_ok}
use Rattle.disk_layers.proofs.concat.Concat.write_first.Goals as goal

pub invariant_of-self-clause-fits : goal.invariant_of-self-clause-fits
invariant_of-self-clause-fits g c =
    let old = g.A.Disk.state c.args.self.now.first in
    let new = g.A.Disk.state c.write-answer.new.self in
    let other = g.B.Disk.state c.args.self.now.second in
    let past : List Event = c.args.self.now.past.events in
    let events : List Event = Write c.args.n c.args.from.now ∷ [] in
    let noted = noted-first past c.with_first-self.result.events c.history_of-before.result.events old.content new.content c.history_of-before.ensures c.with_first-self.ensures in
    let part = Part-answer events c.write-answer.result {old = old} {new = new} (c.write-answer.ensures.ok) (c.write-answer.ensures.err) in
    subst (λ (l : List Event). FitsSize (new.size + other.size) (joined_content l new.content other.content)) (sym noted) (first-fits events past old new other part c.args.self.now.fits)

pub invariant_of-self-clause-covered : goal.invariant_of-self-clause-covered
invariant_of-self-clause-covered g c =
    let old = g.A.Disk.state c.args.self.now.first in
    let new = g.A.Disk.state c.write-answer.new.self in
    let other = g.B.Disk.state c.args.self.now.second in
    let past : List Event = c.args.self.now.past.events in
    let events : List Event = Write c.args.n c.args.from.now ∷ [] in
    let noted = noted-first past c.with_first-self.result.events c.history_of-before.result.events old.content new.content c.history_of-before.ensures c.with_first-self.ensures in
    let part = Part-answer events c.write-answer.result {old = old} {new = new} (c.write-answer.ensures.ok) (c.write-answer.ensures.err) in
    subst (λ (l : List Event). CoversBoth new.size new.content other.content (joined_content l new.content other.content)) (sym noted) (first-covers events past old new other part c.args.self.now.covered)

pub returns-clause-ok : goal.returns-clause-ok
returns-clause-ok g c =
    let old = g.A.Disk.state c.args.self.now.first in
    let new = g.A.Disk.state c.write-answer.new.self in
    let other = g.B.Disk.state c.args.self.now.second in
    let past : List Event = c.args.self.now.past.events in
    let events : List Event = Write c.args.n c.args.from.now ∷ [] in
    let noted = noted-first past c.with_first-self.result.events c.history_of-before.result.events old.content new.content c.history_of-before.ensures c.with_first-self.ensures in
    on_ok c.write-answer.result (first-logs past c.with_first-self.result.events old new other _ _ (record { content = refl; size = refl; shows = refl; faults = refl }) (record { content = refl; size = refl; shows = refl; faults = refl }) events (AreWrites-one c.args.n c.args.from.now) noted) (c.write-answer.ensures.ok)

pub returns-clause-err : goal.returns-clause-err
returns-clause-err g c =
    let old = g.A.Disk.state c.args.self.now.first in
    let new = g.A.Disk.state c.write-answer.new.self in
    let other = g.B.Disk.state c.args.self.now.second in
    let past : List Event = c.args.self.now.past.events in
    let events : List Event = Write c.args.n c.args.from.now ∷ [] in
    let noted = noted-first past c.with_first-self.result.events c.history_of-before.result.events old.content new.content c.history_of-before.ensures c.with_first-self.ensures in
    on_err c.write-answer.result (first-fails past c.with_first-self.result.events old new other _ _ (record { content = refl; size = refl; shows = refl; faults = refl }) (record { content = refl; size = refl; shows = refl; faults = refl }) events (AreWrites-one c.args.n c.args.from.now) noted) (c.write-answer.ensures.err)

pub returns-clause-failed_last : goal.returns-clause-failed_last
returns-clause-failed_last g c =
    failed_first c.write-answer.result c.which_failed-self.result (Write c.args.n c.args.from.now ∷ []) (g.A.Disk.state c.args.self.now.first) (g.A.Disk.state c.write-answer.new.self) (g.B.Disk.state c.args.self.now.second) _
    c.which_failed-self.ensures.err c.write-answer.ensures.err
