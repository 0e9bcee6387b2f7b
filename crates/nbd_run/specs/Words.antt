-- What the words of the command line ask for.
use Rattle.std.specs.Prelude.{◌≡◌, ℕ, List, [], ◌∷◌, Bool, true, false, not, if◌then◌else◌, Some, codes}
use Rattle.std.specs.Str.{bytes_eq}
use Rattle.command_words.specs.Images.{line_of, name_at}
use Rattle.command_words.specs.Places.{provider_of}
use Rattle.command_words.specs.Reading.{command_in}
use Rattle.command_words.specs.declared.commands.Command.{Command}
use Rattle.command_words.specs.declared.commands.Command.TheVariants as commands
use Rattle.nbd_run.specs.declared.words.Wish.{Wish}
use Rattle.nbd_run.specs.declared.words.Wish.TheVariants.{Help, Version, Other}

-- ---- texts

abbrev pub usage_line : List ℕ
usage_line = codes "usage: geli-nbd [-pr] [-n keyno] [-j passfile] [-k keyfile] image\n"

abbrev pub help_text : List ℕ
help_text = codes "usage: geli-nbd [-pr] [-n keyno] [-j passfile] [-k keyfile] image\n       geli-nbd --help | --version\nAttaches the provider in an image, and serves it as a network block device on standard input and output: geli-nbd(8).\n"

abbrev pub version_text : List ℕ
version_text = codes "geli-nbd 20261130\n"

-- ---- wishes

abbrev pub wish_word : List ℕ → Wish
wish_word word = if bytes_eq word (codes "--help") then Help else (if bytes_eq word (codes "--version") then Version else Other)

-- one of these words alone asks for help, or for the version
abbrev pub wish_of : List (List ℕ) → Wish
wish_of (word ∷ []) = wish_word word
wish_of words = Other

-- ---- a provider to attach

-- the words of `geli attach` with these after it
abbrev pub attach_words : List (List ℕ) → List (List ℕ)
attach_words words = codes "attach" ∷ words

-- a command that attaches, and doesn't only try a key
abbrev pub attaches : Command → Bool
attaches (commands.Attach prov only_check readonly slot old) = not only_check
attaches command = false

-- a command that attaches the provider read-only
abbrev pub attaches_readonly : Command → Bool
attaches_readonly (commands.Attach prov only_check readonly slot old) = readonly
attaches_readonly command = false

-- after `attach` the words are a command that attaches, in this line, and this is the name of its image
pub record AsksToAttach (words : List (List ℕ)) (name line : List ℕ) (command : Command) : Type 0 where
  pub spelled : line ≡ line_of (attach_words words)
  pub reads : command_in line ≡ Some command
  pub verb : attaches command ≡ true
  pub named : name_at line (provider_of command) ≡ name ∷ []

-- after `attach` the words aren't a command that attaches
abbrev pub AsksForNothing : List (List ℕ) → Type 0
AsksForNothing words = (command : Command) → command_in (line_of (attach_words words)) ≡ Some command → attaches command ≡ false
