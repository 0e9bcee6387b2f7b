-- A request for sectors needs an attached drawer, and takes none out.
use Rattle.std.proofs.Common.{◌≡◌, List, ℕ, refl, subst, sym, false, true, None, Option, MatchOption}
use Rattle.command_rows.specs.Rows.{Answer, Attachment, IsAttached, Reach}
use Rattle.command_rows.specs.Vocabulary.{Command, Refusal}
use Rattle.command_words.specs.declared.commands.Command.TheVariants as commands
use Rattle.command_words.specs.Traits.{needs, traits_of}
use Rattle.command_words.specs.declared.verbs.Needs.TheVariants.{AnAttached}
use Rattle.command_rows.specs.Gate.{refused_by}
use Rattle.command_rows.specs.Turn.{GoesThrough, IsRefused, Serves, takes_out}

request_needs : (command : Command) → (traits_of command).is_request ≡ true → needs command ≡ AnAttached
request_needs commands.List request = cc request
request_needs _ request = cc request

pub request_stays : (command : Command) → (traits_of command).is_request ≡ true → takes_out command ≡ false
request_stays (commands.Eject prov) request = absurd (let no : ⊥ = cc request in no)
request_stays _ request = refl

pub request_serves : (line : List ℕ) (command : Command) (a : Attachment) (old : Reach) (reply : Answer) (new : Reach) → (traits_of command).is_request ≡ true → old.holding ≡ IsAttached a → GoesThrough line command old reply new
    → Serves line command old reply new
request_serves line command a old reply new request attached goes =
    let none : refused_by (needs command) old.holding ≡ None = (λ i. refused_by (request_needs command request i) (attached i)) in
    subst (λ (o : Option Refusal). MatchOption o (GoesThrough line command old reply new) (IsRefused old reply new)) (sym none) goes
