-- Why each line is refused.
use Rattle.eli_base.specs.declared.refusals.Refusal.TheVariants as refusals
use Rattle.reply_text.specs.Answer as answers
use Rattle.command_rows.specs.Causes.{Caused, CausedAt, LineHasCause}
use Rattle.command_rows.specs.Rows.{DrawerState, Reach, World}
use Rattle.command_rows.specs.Vocabulary.{Command, Refusal}
use Rattle.command_rows.proofs.Untouched.{get-set}
use Rattle.command_rows.proofs.Turns.{by_turn}
use Rattle.std.proofs.Common.{List, refl, subst, ℕ, ◌≡◌, MatchOption}
use Rattle.command_rows.specs.Turn.{ChangesAt, ListsAs, Serves, Turn, reach}
use Rattle.command_rows.proofs.Causing.{gate_why}
use Rattle.command_rows.proofs.Gate.{by_gate}
use Rattle.command_rows.proofs.verbs.{lawful}

same_refusal : (refusal found : Refusal) → answers.Refused refusal ≡ answers.Refused found → found ≡ refusal
same_refusal refusal found is = cc is

serves_why : (line : List ℕ) (command : Command) (old : Reach) (refusal : Refusal) (new : Reach) → Serves line command old (answers.Refused refusal) new → LineHasCause line command old refusal new
serves_why line command old refusal new h =
    by_gate line command old (answers.Refused refusal) new (LineHasCause line command old refusal new) (λ row. (lawful command).why line old refusal new row)
    (λ found is said. subst (λ (r : Refusal). LineHasCause line command old r new) (same_refusal refusal found said.refused) (gate_why line command old found new is)) h

refused_at : (line : List ℕ) (command : Command) (refusal : Refusal) (old new : World) (place : ℕ) → ChangesAt (Serves line command) old (answers.Refused refusal) new place → CausedAt line command refusal old new place
refused_at line command refusal old new place h = record {
  before = h.before;
  found = h.found;
  after = h.after;
  there = rw h.others (get-set old.drawers place h.before h.after h.found);
  cause = serves_why line command (reach h.before old) refusal (reach h.after new) h.step;
}

unknown_refused : (refusal : Refusal) → answers.Refused refusal ≡ answers.Refused refusals.UnknownProvider → refusal ≡ refusals.UnknownProvider
unknown_refused refusal h = cc h

lists_refused : (drawers : List DrawerState) (refusal : Refusal) → ListsAs drawers (answers.Refused refusal) → refusal ≡ refusals.NoMemory
lists_refused drawers refusals.NoMemory h = refl
lists_refused drawers refusal h = absurd h

no_refusal : (refusal : Refusal) → answers.Refused refusal ≡ answers.Done → ⊥
no_refusal refusal is = let none : ⊥ = cc is in none

pub refusal_caused : (line : List ℕ) (command : Command) (old : World) (refusal : Refusal) (new : World) → Turn line command old (answers.Refused refusal) new → Caused line command refusal old new
refusal_caused line command old refusal new h =
    by_turn line command old (answers.Refused refusal) new (refusal ≡ refusals.NoMemory) (λ place. MatchOption place (refusal ≡ refusals.UnknownProvider) (CausedAt line command refusal old new))
    (λ lists. lists_refused old.drawers refusal lists.rows) (λ unknown. unknown_refused refusal unknown.refused)
    (λ place is left. absurd (no_refusal refusal left.done)) (λ place is changed. refused_at line command refusal old new place changed) h
