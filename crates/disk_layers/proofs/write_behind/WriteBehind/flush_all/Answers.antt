-- All that waited was written, and the flush was refused.
use Rattle.std.proofs.Common.{◌∙◌, [], ◌∷◌, List, arith, rules, ap, inr, refl, subst, sym}
use Rattle.block_traits.proofs.Logs.{logged-none}
use Rattle.block_traits.specs.declared.disk.Event.{Event}
use Rattle.block_traits.specs.declared.disk.Event.TheVariants.{Flush}
use Rattle.block_traits.specs.Content.{logged}
use Rattle.disk_layers.specs.Covering.{CoversTold}
use Rattle.disk_layers.specs.History.{with_history}
use Rattle.disk_layers.specs.Waiting.{writes_of}
use Rattle.disk_layers.proofs.BehindLemmas.{flush-covers, flush-fits, flush-reported, flush-refused, history-covers, history-fits, quiet-fails, same_history, stops-rose}
use Rattle.disk_layers.specs.WriteBehind.{behind_disk_of}
use Rattle.disk_layers.proofs.write_behind.WriteBehind.flush_all.Goals as goal

pub returns-in-Err-clause-answer : goal.returns-in-Err-clause-answer
returns-in-Err-clause-answer g c =
    let wrote = c.in_ok-write_all.ensures in
    inr (record {
      middle = g.D.Disk.state c.write_all.new.self.under;
      logs = wrote.ok;
      fails = c.in-Err.ensures.err;
      unasked = c.in-Err.ensures.unasked ∙ wrote.unasked;
      none = wrote.none;
      room = wrote.room;
      clean = refl;
    })

pub returns-in_err-write_all-clause-err : goal.returns-in_err-write_all-clause-err
returns-in_err-write_all-clause-err g c =
    let old = c.args.self.now in
    let new = c.write_all.new.self in
    let rose = stops-rose old.past.events (g.D.Disk.state old.under) (g.D.Disk.state new.under) old.waiting.items new.waiting.items c.in_err-write_all.ensures.err in
    let fails = quiet-fails (Flush ∷ []) (behind_disk_of old) (behind_disk_of new) c.write_all.ensures.quiet rose in
    search (rules, fails)

pub invariant_of-self-clause-fits : goal.invariant_of-self-clause-fits
invariant_of-self-clause-fits g c =
    let before = c.write_all.new.self in
    flush-fits before.past.events c.flushed-self.result.events (g.D.Disk.state before.under) (g.D.Disk.state c.flush.new.self) c.in-Ok.ensures.ok c.flushed-self.ensures before.fits

pub invariant_of-self-clause-covered : goal.invariant_of-self-clause-covered
invariant_of-self-clause-covered g c =
    let before = c.write_all.new.self in
    let new = g.D.Disk.state c.flush.new.self in
    let none = c.in_ok-write_all.ensures.none in
    subst (λ (l : List Event). CoversTold (logged (writes_of before.waiting.items) new.content) (with_history l new.content)) (sym c.flushed-self.ensures)
    (flush-covers before.past.events (g.D.Disk.state before.under) new before.waiting.items before.waiting.items c.in-Ok.ensures.ok none none before.covered)

pub invariant_of-self-in-Err-clause-fits : goal.invariant_of-self-in-Err-clause-fits
invariant_of-self-in-Err-clause-fits g c =
    let before = c.write_all.new.self in
    let fails = c.in-Err.ensures.err in
    history-fits before.past.events (g.D.Disk.state before.under) (g.D.Disk.state c.flush.new.self) fails.logs.size (same_history before.past.events (g.D.Disk.state before.under) (g.D.Disk.state c.flush.new.self) _ fails.logs) before.fits

pub invariant_of-self-in-Err-clause-covered : goal.invariant_of-self-in-Err-clause-covered
invariant_of-self-in-Err-clause-covered g c =
    let before = c.write_all.new.self in
    let old = g.D.Disk.state before.under in
    let new = g.D.Disk.state c.flush.new.self in
    let fails = c.in-Err.ensures.err in
    let none = c.in_ok-write_all.ensures.none in
    history-covers before.past.events old new before.waiting.items before.waiting.items (same_history before.past.events old new _ fails.logs)
    (flush-refused old new before.waiting.items before.waiting.items fails none none) before.covered

pub returns-in-Ok-clause-ok : goal.returns-in-Ok-clause-ok
returns-in-Ok-clause-ok g c =
    let before = c.write_all.new.self in
    let quiet = c.write_all.ensures.quiet in
    let logs = c.in-Ok.ensures.ok in
    let told = with_history c.args.self.now.past.events (g.D.Disk.state c.args.self.now.under).content in
    record {
      content = flush-reported before.past.events c.flushed-self.result.events (g.D.Disk.state before.under) (g.D.Disk.state c.flush.new.self) logs c.flushed-self.ensures ∙ ap (logged (Flush ∷ [])) (quiet.content ∙ logged-none told);
      size = logs.size ∙ quiet.size;
      shows = refl;
      faults = omega (arith, logs.faults, quiet.faults);
    }

pub returns-in-Err-clause-err : goal.returns-in-Err-clause-err
returns-in-Err-clause-err g c =
    let before = c.write_all.new.self in
    let quiet = c.write_all.ensures.quiet in
    let fails = c.in-Err.ensures.err in
    record {
      count = 0;
      within = omega arith;
      logs = record {
        content = same_history before.past.events (g.D.Disk.state before.under) (g.D.Disk.state c.flush.new.self) _ fails.logs ∙ quiet.content;
        size = fails.logs.size ∙ quiet.size;
        shows = refl;
        faults = omega (arith, fails.logs.faults, quiet.faults);
      };
      rose = omega (arith, fails.rose, quiet.faults);
    }
