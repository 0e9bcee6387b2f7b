-- That the spans of a command lie within the line.
pub use Rattle.command_words.specs.Spans.{IsWithin, JobIsWithin, KeyIsWithin, bytes_at}
use Rattle.std.specs.Prelude.{IfSome, List, Option, ℕ}
use Rattle.std.specs.Str.{IsUtf8}
use Rattle.command_words.specs.declared.commands.Command.{Command}
use Rattle.command_words.specs.declared.spans.Span.{Span}
use Rattle.command_words.specs.Traits.{profile_of}

-- the provider that a command names, if it names one
abbrev pub provider_of : Command → Option Span
provider_of command = (profile_of command).prov

-- the spans of a command lie in the line
abbrev pub CommandIsWithin : ℕ → Command → Type 0
CommandIsWithin len command = IfSome (provider_of command) (IsWithin len) × (profile_of command).places len

-- the names of providers in a line are text
abbrev pub ProviderIsText : List ℕ → Command → Type 0
ProviderIsText line command = IfSome (provider_of command) (λ prov. IsUtf8 (bytes_at line prov))
