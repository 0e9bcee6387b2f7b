-- The options of a line, by the utility syntax of POSIX (XBD, 12.2).
use Rattle.std.specs.Prelude.{ℕ, ◌+◌, List, [], ◌∷◌, ◌++◌, length, ◌==◌, if◌then◌else◌, Option, None, Some, codes, option_map}
use Rattle.std.specs.List.{flat_map}
use Rattle.std.specs.Str.{bytes_eq}
use Rattle.eli_base.specs.declared.Reason.TheVariants.{UnknownOption, MissingValue}
use Rattle.command_words.specs.declared.commands.Usage.{Usage}
use Rattle.command_words.specs.declared.table.Verb.{Verb}
use Rattle.command_words.specs.declared.table.Switch.{Switch}
use Rattle.command_words.specs.declared.table.Valued.{Valued}
use Rattle.command_words.specs.declared.table.Valued.TheVariants.{AuthName, CipherName, Iterations, KeyLength, SectorSize, OldSize, Slot, BackupFile, OldFile, OldPass, FreshFile, FreshPass}
use Rattle.command_words.specs.declared.table.Letter.{Letter}
use Rattle.command_words.specs.declared.table.Letter.TheVariants.{Alone, WithValue}
use Rattle.command_words.specs.Table.{letter_of}
use Rattle.command_words.specs.Values.{value_fault}
use Rattle.command_words.specs.Words.{Word}

-- what the options of a line say, one by one: an option without a value; an option with its value; a letter that the
-- verb doesn't have, with the number of its word; or an option for whose value no word is left, with the number of
-- words
pub data Item : Type 0 where
  Set : Switch → Item
  Given : Valued → Word → Item
  Unknown : ℕ → Item
  Missing : ℕ → Item

-- what a group of letters says, and the option at its end that waits for its value
pub record Group : Type 0 where
  pub items : List Item
  pub waiting : Option Valued

-- A letter before the rest of its group, which starts at this place. An option with a value takes the rest of the
-- group, or else the next word.
abbrev pub with_letter : Option Letter → ℕ → ℕ → List ℕ → Group → Group
with_letter None number start rest group = record { items = Unknown number ∷ []; waiting = None }
with_letter (Some (Alone switch)) number start rest group = record { items = Set switch ∷ group.items; waiting = group.waiting }
with_letter (Some (WithValue option)) number start [] group = record { items = []; waiting = Some option }
with_letter (Some (WithValue option)) number start (b ∷ bs) group =
    record { items = Given option (record { number = number; start = start; bytes = b ∷ bs }) ∷ []; waiting = None }

-- the letters of a group, which start at this place
abbrev pub letters : Verb → ℕ → ℕ → List ℕ → Group
letters verb number start [] = record { items = []; waiting = None }
letters verb number start (b ∷ bs) = with_letter (letter_of verb b) number (start + 1) bs (letters verb number (start + 1) bs)

-- what a word at the place of an option is: `--`, a group, which begins with `-` and has more bytes, or the first
-- operand
pub data Kind : Type 0 where
  Ends : Kind
  Letters : (rest : List ℕ) → Kind
  Other : Kind

abbrev pub kind_of : List ℕ → Kind
kind_of [] = Other
kind_of (b ∷ []) = Other
kind_of (b ∷ c ∷ bs) =
    if b == 45 then (if bytes_eq (c ∷ bs) (codes "-") then Ends else Letters (c ∷ bs)) else Other

-- the options at the front of some words, and the operands after them
pub record Options : Type 0 where
  pub items : List Item
  pub operands : List Word

abbrev pub onto : List Item → Options → Options
onto items options = record { items = items ++ options.items; operands = options.operands }

abbrev pub with_word : Kind → Verb → Word → List Word → (Option Valued → Options) → Options
with_word Ends verb word behind rest = record { items = []; operands = behind }
with_word (Letters bytes) verb word behind rest =
    let group = letters verb word.number (word.start + 1) bytes in onto group.items (rest group.waiting)
with_word Other verb word behind rest = record { items = []; operands = word ∷ behind }

-- The options of a verb among its words, if an option before these words may wait for its value. The line has so many
-- words.
abbrev pub options : Verb → ℕ → List Word → Option Valued → Options
options verb total [] None = record { items = []; operands = [] }
options verb total [] (Some option) = record { items = Missing total ∷ []; operands = [] }
options verb total (word ∷ behind) (Some option) = onto (Given option word ∷ []) (options verb total behind None)
options verb total (word ∷ behind) None = with_word (kind_of word.bytes) verb word behind (λ waiting. options verb total behind waiting)

-- the number of an option, which distinguishes options
abbrev pub place : Valued → ℕ
place AuthName = 0
place CipherName = 1
place Iterations = 2
place KeyLength = 3
place SectorSize = 4
place OldSize = 5
place Slot = 6
place BackupFile = 7
place OldFile = 8
place OldPass = 9
place FreshFile = 10
place FreshPass = 11

-- the values that an option was given, in order
abbrev pub value_in : Valued → Item → List Word
value_in option (Set switch) = []
value_in option (Given given word) = if place option == place given then word ∷ [] else []
value_in option (Unknown number) = []
value_in option (Missing number) = []

abbrev pub values : Valued → List Item → List Word
values option items = flat_map (value_in option) items

-- the fault of an option after others
abbrev pub option_fault : List Item → Item → Option Usage
option_fault before (Set switch) = None
option_fault before (Given option word) =
    option_map (λ reason. record { word = word.number; reason = reason }) (value_fault option (length (values option before)) word.bytes)
option_fault before (Unknown number) = Some (record { word = number; reason = UnknownOption })
option_fault before (Missing number) = Some (record { word = number; reason = MissingValue })

abbrev pub or_else : {A : Type 0} → Option A → Option A → Option A
or_else None other = other
or_else (Some a) other = Some a

-- the first fault among options that stand after others
abbrev pub first_option_fault : List Item → List Item → Option Usage
first_option_fault before [] = None
first_option_fault before (item ∷ items) = or_else (option_fault before item) (first_option_fault (before ++ item ∷ []) items)
