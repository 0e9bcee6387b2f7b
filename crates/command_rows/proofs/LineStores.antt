-- That each line stores the file that it names, or none.
use Rattle.std.proofs.Common.{List, ap, ℕ, ◌≡◌}
use Rattle.command_rows.specs.Rows.{Answer, Reach, World}
use Rattle.command_rows.specs.Storing.{StoresAt, StoresItsFile, stored_file}
use Rattle.command_rows.specs.Turn.{Serves, Turn, reach}
use Rattle.command_rows.specs.Vocabulary.{Command}
use Rattle.command_rows.proofs.Gate.{by_gate}
use Rattle.command_rows.proofs.Storing.{none_at, same_files}
use Rattle.command_rows.proofs.Turns.{by_each_turn}
use Rattle.command_rows.proofs.verbs.{lawful}

serves_stores : (line : List ℕ) (command : Command) (old : Reach) (reply : Answer) (new : Reach) → Serves line command old reply new → StoresAt line (stored_file command) old.cabinet new.cabinet
serves_stores line command old reply new h =
    by_gate line command old reply new (StoresAt line (stored_file command) old.cabinet new.cabinet) (λ row. (lawful command).stores line old reply new row)
    (λ refusal is said. none_at line (stored_file command) old.cabinet new.cabinet (same_files old.cabinet new.cabinet (ap (λ (r : Reach). r.cabinet) said.unchanged))) h

-- nothing changes outside the drawers
same_world : (line : List ℕ) (command : Command) (old new : World) → new.cabinet ≡ old.cabinet → StoresItsFile line command old new
same_world line command old new is = none_at line (stored_file command) old.cabinet new.cabinet (same_files old.cabinet new.cabinet is)

pub turn_stores : (line : List ℕ) (command : Command) (old : World) (answer : Answer) (new : World) → Turn line command old answer new → StoresItsFile line command old new
turn_stores line command old answer new h =
    by_each_turn line command old answer new (StoresItsFile line command old new)
    (λ lists. same_world line command old new (ap (λ (w : World). w.cabinet) lists.unchanged))
    (λ unknown. same_world line command old new (ap (λ (w : World). w.cabinet) unknown.unchanged))
    (λ place left. same_world line command old new (ap (λ (w : World). w.cabinet) left.left))
    (λ place changed. serves_stores line command (reach changed.before old) answer (reach changed.after new) changed.step) h
