-- What words say, once they are read.
use Rattle.std.specs.Prelude.{◌≡◌, ℕ, List, [], length, map, string_bytes, None, Some}
use Rattle.command_words.specs.Bounds.{IsBounded}
use Rattle.command_words.specs.Images.{line_of, name_at, script_images}
use Rattle.command_words.specs.Places.{CommandIsWithin, ProviderIsText, provider_of}
use Rattle.command_words.specs.Reading.{command_in}
use Rattle.command_words.specs.declared.words.Words.{Words}
use Rattle.command_words.specs.declared.words.Words.TheVariants.{Script, One, Usage}

-- what these words say: a script, one command that stands in their line, or neither
abbrev pub Says : List (List ℕ) → Words → Type 0
Says words (Script names) = script_images words ≡ Some (map string_bytes names.now)
Says words (One line command) = (script_images words ≡ None) × (line.items ≡ line_of words) × (command_in (line_of words) ≡ Some command)
Says words Usage = (script_images words ≡ None) × (command_in (line_of words) ≡ None)

-- the places of the command lie in its line, the name of its provider is text, and its numbers are within their bounds
abbrev pub FitsItsLine : Words → Type 0
FitsItsLine (Script names) = Unit {0}
FitsItsLine (One line command) = CommandIsWithin (length line.items) command × ProviderIsText line.items command × IsBounded line.items command
FitsItsLine Usage = Unit {0}

-- the names of the images
abbrev pub image_names_of : Words → List (List ℕ)
image_names_of (Script names) = map string_bytes names.now
image_names_of (One line command) = name_at line.items (provider_of command)
image_names_of Usage = []
