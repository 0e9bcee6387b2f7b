-- From what a line does to the world to the row of the drawer that it names.
use Rattle.std.proofs.Common.{◌≡◌, ℕ, List, refl, Bool, true, false, Option, None, Some, MatchOption}
use Rattle.command_rows.specs.Rows.{Answer, World, place_of}
use Rattle.command_rows.specs.Turn.{ChangesAt, IsUnknown, ListsDrawers, Serves, ServesAt, TakesOutDrawer, Turn, TurnOf, takes_out}
use Rattle.command_rows.specs.Vocabulary.{Command, Span, bytes_at, provider_of}

by_out : (out taken : Bool) (line : List ℕ) (command : Command) (old : World) (answer : Answer) (new : World) (place : ℕ) (Claim : Type 0) → out ≡ taken → (out ≡ true → TakesOutDrawer old answer new place → Claim)
    → (out ≡ false → ChangesAt (Serves line command) old answer new place → Claim) → ServesAt taken line command old answer new place → Claim
by_out out true line command old answer new place Claim is left changed h = left is h
by_out out false line command old answer new place Claim is left changed h = changed is h

by_place : (line : List ℕ) (command : Command) (old : World) (answer : Answer) (new : World) (place : Option ℕ) (Placed : Option ℕ → Type 0) → (IsUnknown old answer new → Placed None)
    → ((n : ℕ) → takes_out command ≡ true → TakesOutDrawer old answer new n → Placed (Some n)) → ((n : ℕ) → takes_out command ≡ false → ChangesAt (Serves line command) old answer new n → Placed (Some n))
    → MatchOption place (IsUnknown old answer new) (ServesAt (takes_out command) line command old answer new) → Placed place
by_place line command old answer new None Placed unknown left changed h = unknown h
by_place line command old answer new (Some n) Placed unknown left changed h = by_out (takes_out command) (takes_out command) line command old answer new n (Placed (Some n)) refl (left n) (changed n) h

by_provider : (line : List ℕ) (command : Command) (old : World) (answer : Answer) (new : World) (named : Option Span) (Unnamed : Type 0) (Placed : Option ℕ → Type 0) → (ListsDrawers old answer new → Unnamed) → (IsUnknown old answer new → Placed None)
    → ((n : ℕ) → takes_out command ≡ true → TakesOutDrawer old answer new n → Placed (Some n)) → ((n : ℕ) → takes_out command ≡ false → ChangesAt (Serves line command) old answer new n → Placed (Some n))
    → MatchOption named (ListsDrawers old answer new) (λ prov. TurnOf (ServesAt (takes_out command) line command) (bytes_at line prov) old answer new)
    → MatchOption named Unnamed (λ prov. Placed (place_of (bytes_at line prov) old.drawers))
by_provider line command old answer new None Unnamed Placed listed unknown left changed h = listed h
by_provider line command old answer new (Some prov) Unnamed Placed listed unknown left changed h = by_place line command old answer new (place_of (bytes_at line prov) old.drawers) Placed unknown left changed h

-- what holds of a line that names no drawer, and of one that names one, by the place of that: the drawers were listed,
-- none has the name, the drawer was taken out, or it went through its row
pub by_turn : (line : List ℕ) (command : Command) (old : World) (answer : Answer) (new : World) (Unnamed : Type 0) (Placed : Option ℕ → Type 0) → (ListsDrawers old answer new → Unnamed) → (IsUnknown old answer new → Placed None)
    → ((n : ℕ) → takes_out command ≡ true → TakesOutDrawer old answer new n → Placed (Some n)) → ((n : ℕ) → takes_out command ≡ false → ChangesAt (Serves line command) old answer new n → Placed (Some n))
    → Turn line command old answer new → MatchOption (provider_of command) Unnamed (λ prov. Placed (place_of (bytes_at line prov) old.drawers))
by_turn line command old answer new Unnamed Placed listed unknown left changed h = by_provider line command old answer new (provider_of command) Unnamed Placed listed unknown left changed h

always : {X : Type 0} (o : Option X) (Claim : Type 0) → MatchOption o Claim (λ x. Claim) → Claim
always None Claim h = h
always (Some x) Claim h = h

-- one claim that follows from every way in which a line may go
pub by_each_turn : (line : List ℕ) (command : Command) (old : World) (answer : Answer) (new : World) (Claim : Type 0) → (ListsDrawers old answer new → Claim) → (IsUnknown old answer new → Claim) → ((n : ℕ) → TakesOutDrawer old answer new n → Claim)
    → ((n : ℕ) → ChangesAt (Serves line command) old answer new n → Claim) → Turn line command old answer new → Claim
by_each_turn line command old answer new Claim listed unknown left changed h =
    always (provider_of command) Claim (by_turn line command old answer new Claim (λ place. Claim) listed unknown (λ n is. left n) (λ n is. changed n) h)
