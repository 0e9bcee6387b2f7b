-- What a line leaves attached: only `submit`, `step` and `reap` change the open requests of a drawer that stays
-- attached, and none is open if it wasn't attached before.
use Rattle.std.proofs.Common.{List, ap, false, inl, ℕ, ◌≡◌}
use Rattle.command_rows.specs.Rows.{Answer, Reach, bytes_spelled}
use Rattle.command_rows.specs.Vocabulary.{Command, Span, bytes_at}
use Rattle.command_words.specs.declared.commands.Command.TheVariants as commands
use Rattle.command_rows.proofs.Gate.{by_gate, by_passed_gate, with_attached}
use Rattle.command_rows.proofs.Keeping.{KeepsRequests}
use Rattle.command_rows.proofs.verbs.{lawful}
use Rattle.command_rows.proofs.verbs.Fill.{fill_still}
use Rattle.command_rows.proofs.verbs.Write.{write_still}
use Rattle.geli_core.specs.Vocabulary.{Serves, changes_requests}

pub serves_keeps : (line : List ℕ) (command : Command) (old : Reach) (reply : Answer) (new : Reach) → changes_requests command ≡ false → Serves line command old reply new → KeepsRequests old.holding new.holding
serves_keeps line command old reply new other h =
    by_passed_gate line command old reply new (KeepsRequests old.holding new.holding) (λ gate row. (lawful command).keeps line old reply new gate other row)
    (λ refusal is said. inl (ap (λ (r : Reach). r.holding) said.unchanged)) h

-- a `write` or a `fill` leaves what the drawer does
pub write_keeps : (line : List ℕ) (prov : Span) (sector : ℕ) (hex : Span) (old : Reach) (reply : Answer) (new : Reach) → Serves line (commands.Write prov sector hex) old reply new → new.holding ≡ old.holding
write_keeps line prov sector hex old reply new h =
    by_gate line (commands.Write prov sector hex) old reply new (new.holding ≡ old.holding)
    (λ row. with_attached old.holding _ (new.holding ≡ old.holding) (λ a is through. (write_still sector (bytes_spelled (bytes_at line hex)) a).stays old through.answer new through.row) row) (λ refusal is said. ap (λ (r : Reach). r.holding) said.unchanged) h

pub fill_keeps : (line : List ℕ) (prov : Span) (seed start count : ℕ) (old : Reach) (reply : Answer) (new : Reach) → Serves line (commands.Fill prov seed start count) old reply new → new.holding ≡ old.holding
fill_keeps line prov seed start count old reply new h =
    by_gate line (commands.Fill prov seed start count) old reply new (new.holding ≡ old.holding)
    (λ row. with_attached old.holding _ (new.holding ≡ old.holding) (λ a is through. (fill_still seed start count a).stays old through.answer new through.row) row) (λ refusal is said. ap (λ (r : Reach). r.holding) said.unchanged) h
