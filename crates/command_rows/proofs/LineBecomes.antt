-- What each line makes of what its drawer does with its disk.
use Rattle.std.proofs.Common.{Bool, List, subst, sym, ℕ, MatchOption}
use Rattle.command_rows.specs.Becoming.{Becomes, BecomesAt, BecomesSo, BecomesUnless}
use Rattle.command_rows.specs.Rows.{Answer, Reach, World}
use Rattle.command_rows.specs.Turn.{ChangesAt, IsRefused, Serves, Turn, reach, takes_out}
use Rattle.command_rows.specs.Vocabulary.{Command, Refusal}
use Rattle.command_rows.proofs.Becoming.{same_reach, stays_quiet}
use Rattle.command_rows.proofs.Events.{same_quiet}
use Rattle.command_rows.proofs.Gate.{by_passed_gate}
use Rattle.command_rows.proofs.Turns.{by_turn}
use Rattle.command_rows.proofs.Untouched.{get-set}
use Rattle.command_rows.proofs.verbs.{lawful}

refused_stays : (line : List ℕ) (command : Command) (old : Reach) (said : Answer) (new : Reach) (refusal : Refusal) → IsRefused old said new refusal → Becomes line command old said new
refused_stays line command old said new refusal h = stays_quiet line command old said new (same_reach old new h.unchanged) (same_quiet old new h.unchanged)

pub serves_becomes : (line : List ℕ) (command : Command) (old : Reach) (said : Answer) (new : Reach) → Serves line command old said new → Becomes line command old said new
serves_becomes line command old said new h =
    by_passed_gate line command old said new (Becomes line command old said new) (λ gate row. (lawful command).becomes line old said new gate row)
    (λ refusal is refused. refused_stays line command old said new refusal refused) h

changed_becomes : (line : List ℕ) (command : Command) (answer : Answer) (old new : World) (place : ℕ) → ChangesAt (Serves line command) old answer new place → BecomesAt line command answer old new place
changed_becomes line command answer old new place h = record {
  before = h.before;
  found = h.found;
  after = h.after;
  there = rw h.others (get-set old.drawers place h.before h.after h.found);
  becomes = serves_becomes line command (reach h.before old) answer (reach h.after new) h.step;
}

pub turn_becomes : (line : List ℕ) (command : Command) (old : World) (answer : Answer) (new : World) → Turn line command old answer new → BecomesSo line command answer old new
turn_becomes line command old answer new h =
    by_turn line command old answer new (Unit {0}) (λ place. MatchOption place (Unit {0}) (BecomesUnless (takes_out command) line command answer old new)) (λ lists. tt) (λ unknown. tt)
    (λ place is left. subst (λ (out : Bool). BecomesUnless out line command answer old new place) (sym is) tt)
    (λ place is changed. subst (λ (out : Bool). BecomesUnless out line command answer old new place) (sym is) (changed_becomes line command answer old new place changed)) h
