-- What the disk of the named drawer may hold at each moment of a line.
use Rattle.command_rows.specs.Rows.{Answer, Reach, World}
use Rattle.command_rows.specs.Stops.{ChangesMetadata, ChangesOrStays, LeavesOldOrNew, LeavesPlace, LeavesUnless}
use Rattle.command_rows.specs.Vocabulary.{Command, DiskState, Refusal}
use Rattle.command_rows.proofs.Untouched.{get-set}
use Rattle.command_rows.proofs.Gate.{by_gate}
use Rattle.command_rows.proofs.Turns.{by_turn}
use Rattle.std.proofs.Common.{Bool, Err, List, ap, inl, subst, sym, ℕ, MatchOption}
use Rattle.command_rows.specs.Turn.{ChangesAt, IsRefused, Serves, Turn, reach, takes_out}
use Rattle.command_rows.proofs.Lawful.{done_left}
use Rattle.command_rows.proofs.verbs.{lawful}

-- a line that is refused before its row
refused_left : (Changes : DiskState → Bool → DiskState → Type 0) (old : Reach) (said : Answer) (new : Reach) (refusal : Refusal) → IsRefused old said new refusal → ChangesOrStays Changes said old.disk new.disk
refused_left Changes old said new refusal h = done_left Changes old.disk (Err refusal) said new.disk h.refused (inl (ap (λ (r : Reach). r.disk.content) h.unchanged))

line_left : (line : List ℕ) (command : Command) (old : Reach) (said : Answer) (new : Reach) → Serves line command old said new → ChangesOrStays (ChangesMetadata line command old.cabinet.files old.holding) said old.disk new.disk
line_left line command old said new h =
    let Changes = ChangesMetadata line command old.cabinet.files old.holding in
    by_gate line command old said new (ChangesOrStays Changes said old.disk new.disk) (λ row. (lawful command).left line old said new row) (λ refusal is h. refused_left Changes old said new refusal h) h

changed_left : (line : List ℕ) (command : Command) (answer : Answer) (old new : World) (place : ℕ) → ChangesAt (Serves line command) old answer new place → LeavesPlace line command answer old new place
changed_left line command answer old new place h = record {
  before = h.before;
  found = h.found;
  after = h.after;
  there = rw h.others (get-set old.drawers place h.before h.after h.found);
  leaves = line_left line command (reach h.before old) answer (reach h.after new) h.step;
}

pub turn_leaves : (line : List ℕ) (command : Command) (old : World) (answer : Answer) (new : World) → Turn line command old answer new → LeavesOldOrNew line command answer old new
turn_leaves line command old answer new h =
    by_turn line command old answer new (Unit {0}) (λ place. MatchOption place (Unit {0}) (LeavesUnless (takes_out command) line command answer old new)) (λ lists. tt) (λ unknown. tt)
    (λ place is left. subst (λ (out : Bool). LeavesUnless out line command answer old new place) (sym is) tt)
    (λ place is changed. subst (λ (out : Bool). LeavesUnless out line command answer old new place) (sym is) (changed_left line command answer old new place changed)) h
