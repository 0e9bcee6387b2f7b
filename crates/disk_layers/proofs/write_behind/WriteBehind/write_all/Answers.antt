-- What waited was written below, and what is reported stays.
use Rattle.std.proofs.Common.{◌∙◌, refl, sym}
use Rattle.block_traits.proofs.Logs.{logged-none}
use Rattle.disk_layers.specs.History.{with_history}
use Rattle.disk_layers.specs.Waiting.{writes_of}
use Rattle.disk_layers.proofs.BehindLemmas.{history-covers, history-fits, same_history, stops-covered, stops-faults, stops-history, stops-size}
use Rattle.disk_layers.proofs.write_behind.WriteBehind.write_all.Goals as goal

pub invariant_of-self-in-Err-clause-fits : goal.invariant_of-self-in-Err-clause-fits
invariant_of-self-in-Err-clause-fits g c =
    let past = c.args.self.now.past.events in
    let waiting = c.args.self.now.waiting.items in
    let old = g.D.Disk.state c.args.self.now.under in
    let new = g.D.Disk.state c.drain.new.under in
    let stops = c.in-Err.ensures.err in
    history-fits past old new (stops-size past old new waiting c.drain.new.waiting.items stops) (stops-history past old new waiting c.drain.new.waiting.items stops) c.args.self.now.fits

pub invariant_of-self-in-Err-clause-covered : goal.invariant_of-self-in-Err-clause-covered
invariant_of-self-in-Err-clause-covered g c =
    let past = c.args.self.now.past.events in
    let waiting = c.args.self.now.waiting.items in
    let left = c.drain.new.waiting.items in
    let old = g.D.Disk.state c.args.self.now.under in
    let new = g.D.Disk.state c.drain.new.under in
    let stops = c.in-Err.ensures.err in
    history-covers past old new waiting left (stops-history past old new waiting left stops) (stops-covered waiting left old new stops) c.args.self.now.covered

pub returns-in-Ok-clause-quiet : goal.returns-in-Ok-clause-quiet
returns-in-Ok-clause-quiet g c =
    let past = c.args.self.now.past.events in
    let old = g.D.Disk.state c.args.self.now.under in
    let new = g.D.Disk.state c.drain.new.under in
    let logs = c.in-Ok.ensures.ok in
    record {
      content = same_history past old new (writes_of c.args.self.now.waiting.items) logs ∙ sym (logged-none (with_history past old.content));
      size = logs.size;
      shows = refl;
      faults = logs.faults;
    }

pub returns-in-Err-clause-quiet : goal.returns-in-Err-clause-quiet
returns-in-Err-clause-quiet g c =
    let past = c.args.self.now.past.events in
    let waiting = c.args.self.now.waiting.items in
    let left = c.drain.new.waiting.items in
    let old = g.D.Disk.state c.args.self.now.under in
    let new = g.D.Disk.state c.drain.new.under in
    let stops = c.in-Err.ensures.err in
    record {
      content = stops-history past old new waiting left stops ∙ sym (logged-none (with_history past old.content));
      size = stops-size past old new waiting left stops;
      shows = refl;
      faults = stops-faults past old new waiting left stops;
    }
