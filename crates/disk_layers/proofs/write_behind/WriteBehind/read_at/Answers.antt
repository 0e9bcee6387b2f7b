-- What stands after the writes that wait, and what is reported.
use Rattle.std.proofs.Common.{◌∙◌, [], refl, sym, arith}
use Rattle.std.proofs.lemmas.Grind.{common_steps}
use Rattle.block_traits.proofs.Logs.{logged-none}
use Rattle.disk_layers.specs.History.{with_history}
use Rattle.disk_layers.specs.Waiting.{writes_of}
use Rattle.disk_layers.proofs.BehindLemmas.{gives-covered, same_history}
use Rattle.disk_layers.proofs.WaitingLemmas.{gives_waiting, gives_below}
use Rattle.disk_layers.proofs.write_behind.WriteBehind.read_at.Goals as goal

pub returns-in-Some-clause-gives : goal.returns-in-Some-clause-gives
returns-in-Some-clause-gives g c = gives_waiting (g.D.Disk.state c.args.self.now.under).content c.args.self.now.waiting.items c.args.n c.in-Some.bytes c.in-Some.bytes (sym c.in-Some.ensures) refl

pub returns-in-Ok-clause-gives : goal.returns-in-Ok-clause-gives
returns-in-Ok-clause-gives g c = gives_below (g.D.Disk.state c.args.self.now.under).content c.args.self.now.waiting.items c.args.n c.read.new.into (sym c.in_default.ensures) c.in-Ok.ensures.bytes

pub returns-in-Some-clause-bytes : goal.returns-in-Some-clause-bytes
returns-in-Some-clause-bytes g c =
    let here = c.args.self.now in
    let told = (g.D.Disk.state here.under).content in
    gives-covered here.past.events (writes_of here.waiting.items) told c.args.n c.in-Some.bytes here.covered
    (gives_waiting told here.waiting.items c.args.n c.in-Some.bytes c.in-Some.bytes (sym c.in-Some.ensures) refl)

pub returns-in-Ok-clause-bytes : goal.returns-in-Ok-clause-bytes
returns-in-Ok-clause-bytes g c =
    let here = c.args.self.now in
    let told = (g.D.Disk.state here.under).content in
    gives-covered here.past.events (writes_of here.waiting.items) told c.args.n c.read.new.into here.covered
    (gives_below told here.waiting.items c.args.n c.read.new.into (sym c.in_default.ensures) c.in-Ok.ensures.bytes)

pub returns-in-Some-clause-ok : goal.returns-in-Some-clause-ok
returns-in-Some-clause-ok g c =
    let here = c.args.self.now in
    record { content = sym (logged-none (with_history here.past.events (g.D.Disk.state here.under).content)); size = refl; shows = refl; faults = omega arith }

pub returns-in-Ok-clause-ok : goal.returns-in-Ok-clause-ok
returns-in-Ok-clause-ok g c =
    let here = c.args.self.now in
    let old = g.D.Disk.state here.under in
    let logs = c.in-Ok.ensures.ok in
    record {
      content = same_history here.past.events old _ [] logs ∙ sym (logged-none (with_history here.past.events old.content));
      size = logs.size;
      shows = refl;
      faults = logs.faults;
    }

pub returns-in-Err-clause-err : goal.returns-in-Err-clause-err
returns-in-Err-clause-err g c =
    let here = c.args.self.now in
    let old = g.D.Disk.state here.under in
    let fails = c.in-Err.ensures.err in
    record {
      count = 0;
      within = omega arith;
      logs = record {
        content = same_history here.past.events old _ _ fails.logs ∙ sym (logged-none (with_history here.past.events old.content));
        size = fails.logs.size;
        shows = refl;
        faults = fails.logs.faults;
      };
      rose = fails.rose;
    }

pub returns-in-Some-clause-answer : goal.returns-in-Some-clause-answer
returns-in-Some-clause-answer g c = grind (arith, common_steps) steps 400000

pub returns-in-Some-clause-order : goal.returns-in-Some-clause-order
returns-in-Some-clause-order g c = grind (arith, common_steps) steps 400000

pub returns-in-Some-clause-rose : goal.returns-in-Some-clause-rose
returns-in-Some-clause-rose g c = grind (arith, common_steps) steps 400000

pub returns-in-Some-clause-asked : goal.returns-in-Some-clause-asked
returns-in-Some-clause-asked g c = grind (arith, common_steps) steps 400000

pub returns-in-Ok-clause-answer : goal.returns-in-Ok-clause-answer
returns-in-Ok-clause-answer g c = grind (arith, common_steps) steps 400000

pub returns-in-Ok-clause-order : goal.returns-in-Ok-clause-order
returns-in-Ok-clause-order g c = grind (arith, common_steps) steps 400000

pub returns-in-Ok-clause-rose : goal.returns-in-Ok-clause-rose
returns-in-Ok-clause-rose g c = grind (arith, common_steps) steps 400000

pub returns-in-Ok-clause-asked : goal.returns-in-Ok-clause-asked
returns-in-Ok-clause-asked g c = grind (arith, common_steps) steps 400000

pub returns-in-Err-clause-answer : goal.returns-in-Err-clause-answer
returns-in-Err-clause-answer g c = grind (arith, common_steps) steps 400000

pub returns-in-Err-clause-gives : goal.returns-in-Err-clause-gives
returns-in-Err-clause-gives g c = grind (arith, common_steps) steps 400000

pub returns-in-Err-clause-order : goal.returns-in-Err-clause-order
returns-in-Err-clause-order g c = grind (arith, common_steps) steps 400000

pub returns-in-Err-clause-rose : goal.returns-in-Err-clause-rose
returns-in-Err-clause-rose g c = grind (arith, common_steps) steps 400000

pub returns-in-Err-clause-asked : goal.returns-in-Err-clause-asked
returns-in-Err-clause-asked g c = grind (arith, common_steps) steps 400000
