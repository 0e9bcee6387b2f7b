-- What each line counts, and that what is attached keeps its keying.
use Rattle.std.proofs.Common.{Err, List, Some, ap, arith, ℕ, ◌≡◌}
use Rattle.eli_base.specs.declared.refusals.Refusal.TheVariants as refusals
use Rattle.reply_text.specs.Answer as answers
use Rattle.command_rows.specs.Counts.{CountsAnswer, CountsFailures}
use Rattle.command_rows.specs.Gate.{Needs, needs, refused_by}
use Rattle.command_rows.specs.Rows.{Answer, DrawerState, Holding, Reach, World, done_or}
use Rattle.command_rows.specs.Turn.{ChangesAt, IsRefused, ListsAs, Serves, Turn, reach}
use Rattle.command_rows.specs.Vocabulary.{CabinetState, Command, EntropyState, Refusal}
use Rattle.command_rows.proofs.Counting.{Uncounted, uncounted_step}
use Rattle.command_rows.proofs.Gate.{by_gate, by_gate_refusal}
use Rattle.command_rows.proofs.Replies.{done_replying}
use Rattle.command_rows.proofs.Sound.{SoundReply, by_reply, stays}
use Rattle.command_rows.proofs.Turns.{by_each_turn}
use Rattle.command_rows.proofs.verbs.{lawful}

gate_uncounted : (wanted : Needs) (holding : Holding) (refusal : Refusal) → refused_by wanted holding ≡ Some refusal → Uncounted refusal
gate_uncounted wanted holding refusal is = by_gate_refusal wanted holding refusal Uncounted is (λ not. tt) (λ still. tt) (λ suspended. tt) (λ awake. tt)

gate_sound : (command : Command) (old : Reach) (reply : Answer) (new : Reach) (refusal : Refusal) → refused_by (needs command) old.holding ≡ Some refusal → IsRefused old reply new refusal → SoundReply old reply new
gate_sound command old reply new refusal is h =
    let counts = uncounted_step {A = Unit {0}} old (Err refusal) new (gate_uncounted (needs command) old.holding refusal is) (ap (λ (r : Reach). r.cabinet) h.unchanged) (ap (λ (r : Reach). r.entropy) h.unchanged) in
    record { counts = by_reply done_or (Err refusal) old reply new done_replying h.refused counts; keeps = λ had. stays old.holding new.holding (ap (λ (r : Reach). r.holding) h.unchanged) had }

pub serves_sound : (line : List ℕ) (command : Command) (old : Reach) (reply : Answer) (new : Reach) → Serves line command old reply new → SoundReply old reply new
serves_sound line command old reply new h =
    by_gate line command old reply new (SoundReply old reply new) (λ row. (lawful command).sound line old reply new row) (λ refusal is said. gate_sound command old reply new refusal is said) h

-- nothing changed
same_counts : (old : World) (answer : Answer) (new : World) → new.cabinet ≡ old.cabinet → new.entropy ≡ old.entropy → CountsAnswer old.cabinet old.entropy answer new.cabinet new.entropy → CountsFailures old answer new
same_counts old answer new cabinet entropy counts =
    let faults : new.cabinet.faults ≡ old.cabinet.faults = ap (λ (c : CabinetState). c.faults) cabinet in
    let misses : new.cabinet.misses ≡ old.cabinet.misses = ap (λ (c : CabinetState). c.misses) cabinet in
    let drawn : new.entropy.faults ≡ old.entropy.faults = ap (λ (e : EntropyState). e.faults) entropy in
    record { faults = omega (arith, faults); misses = omega (arith, misses); entropy = omega (arith, drawn); counts = counts }

changed_counts : (line : List ℕ) (command : Command) (old : World) (answer : Answer) (new : World) (place : ℕ) → ChangesAt (Serves line command) old answer new place → CountsFailures old answer new
changed_counts line command old answer new place h =
    let c = (serves_sound line command (reach h.before old) answer (reach h.after new) h.step).counts in
    record { faults = c.1.faults; misses = c.1.misses; entropy = c.1.entropy; counts = c.0 }

listed_counts : (drawers : List DrawerState) (old : World) (answer : Answer) (new : World) → ListsAs drawers answer → CountsAnswer old.cabinet old.entropy answer new.cabinet new.entropy
listed_counts drawers old (answers.Rows rows) new h = tt
listed_counts drawers old (answers.Refused refusals.NoMemory) new h = tt
listed_counts drawers old answer new h = absurd h

pub turn_counts : (line : List ℕ) (command : Command) (old : World) (answer : Answer) (new : World) → Turn line command old answer new → CountsFailures old answer new
turn_counts line command old answer new h =
    by_each_turn line command old answer new (CountsFailures old answer new)
    (λ lists. same_counts old answer new (ap (λ (w : World). w.cabinet) lists.unchanged) (ap (λ (w : World). w.entropy) lists.unchanged) (listed_counts old.drawers old answer new lists.rows))
    (λ unknown. same_counts old answer new (ap (λ (w : World). w.cabinet) unknown.unchanged) (ap (λ (w : World). w.entropy) unknown.unchanged) (rw unknown.refused tt))
    (λ place left. same_counts old answer new (ap (λ (w : World). w.cabinet) left.left) (ap (λ (w : World). w.entropy) left.left) (rw left.done tt)) (λ place changed. changed_counts line command old answer new place changed) h
