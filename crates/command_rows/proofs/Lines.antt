-- The events of each line.
use Rattle.std.proofs.Common.{Bool, Err, List, ℕ}
use Rattle.command_rows.specs.Histories.{AreRowEvents, stores_last}
use Rattle.command_rows.specs.Rows.{Answer, Reach, done_or}
use Rattle.command_rows.specs.Turn.{IsRefused, Serves}
use Rattle.command_rows.specs.Vocabulary.{Command, Event, Refusal}
use Rattle.command_rows.proofs.Events.{nothing_done, same_quiet}
use Rattle.command_rows.proofs.Gate.{by_gate}
use Rattle.command_rows.proofs.Lawful.{LineDid, reply_line}
use Rattle.command_rows.proofs.Replies.{done_replying}
use Rattle.command_rows.proofs.verbs.{lawful}

-- a line that is refused before its row
refused_did : (Row : List Event → Type 0) (stores : Bool) (old : Reach) (said : Answer) (new : Reach) (refusal : Refusal) → IsRefused old said new refusal → LineDid Row stores said old.disk new.disk
refused_did Row stores old said new refusal h =
    let d = nothing_done {A = Unit {0}} Row stores refusal old.disk new.disk (same_quiet old new h.unchanged) in
    reply_line done_or Row stores (Err refusal) said old.disk new.disk done_replying h.refused d

pub line_did : (line : List ℕ) (command : Command) (old : Reach) (said : Answer) (new : Reach) → Serves line command old said new
    → LineDid (AreRowEvents line command old.disk old.holding) (stores_last command) said old.disk new.disk
line_did line command old said new h =
    let Row : List Event → Type 0 = AreRowEvents line command old.disk old.holding in
    by_gate line command old said new (LineDid Row (stores_last command) said old.disk new.disk) (λ row. (lawful command).did line old said new row)
    (λ refusal is h. refused_did Row (stores_last command) old said new refusal h) h
