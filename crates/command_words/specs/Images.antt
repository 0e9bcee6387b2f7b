-- The images that the words of a run name.
use Rattle.std.specs.Prelude.{ℕ, List, [], ◌∷◌, length, Bool, true, not, ◌&&◌, nat_le, if◌then◌else◌, Option, None, Some, option_and_then, codes}
use Rattle.std.specs.List.{join_with_byte, list_any}
use Rattle.std.specs.Str.{bytes_eq}
use Rattle.command_words.specs.declared.spans.Span.{Span}
use Rattle.command_words.specs.Reading.{command_in}
use Rattle.command_words.specs.Places.{provider_of, bytes_at}

-- the line of some words, joined by zero bytes
abbrev pub line_of : List (List ℕ) → List ℕ
line_of words = join_with_byte 0 words

-- the name that a span of the line covers, if there is a span
abbrev pub name_at : List ℕ → Option Span → List (List ℕ)
name_at line None = []
name_at line (Some span) = bytes_at line span ∷ []

-- whether no name occurs twice
abbrev pub all_differ : List (List ℕ) → Bool
all_differ [] = true
all_differ (name ∷ names) = not (list_any (bytes_eq name) names) && all_differ names

-- whether these can be the names of a script's images: 1 to 16 different names
abbrev pub are_images : List (List ℕ) → Bool
are_images names = nat_le 1 (length names) && nat_le (length names) 16 && all_differ names

-- the names after `script`, if the words are that and names that a script's images can have
abbrev pub script_images : List (List ℕ) → Option (List (List ℕ))
script_images [] = None
script_images (word ∷ names) = if bytes_eq word (codes "script") && are_images names then Some names else None

abbrev pub names_or : Option (List (List ℕ)) → List (List ℕ) → List (List ℕ)
names_or (Some names) others = names
names_or None others = others

-- the images that words name: those of a script, or else, if the words are one command, its provider, if it has one
abbrev pub image_names : List (List ℕ) → List (List ℕ)
image_names words =
    names_or (script_images words) (name_at (line_of words) (option_and_then provider_of (command_in (line_of words))))
