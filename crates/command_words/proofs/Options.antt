-- One pass over the words gives what the options say.
use Rattle.std.proofs.Common.{◌≡◌, ℕ, ◌+◌, List, [], ◌∷◌, ◌++◌, length, refl, sym, ◌∙◌, Bool, true, false, ◌||◌, Option, None, Some, Result, Ok, Err, append_assoc}
use Rattle.std.proofs.lemmas.List.{append-nil, length-map, map-append}
use Rattle.std.specs.Prelude.{option_map}
use Rattle.eli_base.specs.declared.Reason.{Reason}
use Rattle.command_words.specs.declared.commands.Usage.{Usage}
use Rattle.command_words.specs.declared.settings.Settings.{Settings}
use Rattle.command_words.specs.declared.table.Verb.{Verb}
use Rattle.command_words.specs.declared.table.Switch.{Switch}
use Rattle.command_words.specs.declared.table.Switch.TheVariants.{WithoutOld, WithoutFresh, FixedSize, OnlyCheck, ReadOnly, AllSlots, Force, Restart, Verbose}
use Rattle.command_words.specs.declared.table.Valued.{Valued}
use Rattle.command_words.specs.declared.table.Valued.TheVariants.{AuthName, CipherName, Iterations, KeyLength, SectorSize, OldSize, Slot, BackupFile, OldFile, OldPass, FreshFile, FreshPass}
use Rattle.command_words.specs.declared.table.Letter.{Letter}
use Rattle.command_words.specs.declared.table.Letter.TheVariants.{Alone, WithValue}
use Rattle.command_words.specs.Words.{Word}
use Rattle.command_words.specs.Table.{letter_of}
use Rattle.command_words.specs.Values.{value_fault}
use Rattle.command_words.specs.Options.{Item, Set, Given, Group, letters, with_letter, Kind, Ends, Letters, Other, kind_of, Options, options, values, value_in, option_fault, first_option_fault, or_else, with_word}
use Rattle.command_words.specs.Settings.{settings_given, last, has_switch, sets}
use Rattle.command_words.specs.Reading.{settled, by_options, unless_usage}
use Rattle.command_words.specs.Pass.{value_given, and_then, checked, files_so_far, with_value, with_switch, taken_letter, taken_letters, taken_word, taken_options}

-- the last of the values after one more
last-push : (words : List Word) (word : Word) → last (words ++ word ∷ []) ≡ Some word
last-push [] word = refl
last-push (x ∷ []) word = refl
last-push (x ∷ y ∷ words) word = last-push (y ∷ words) word

-- the values of an option, after one more
values-push : (option : Valued) (items : List Item) (item : Item) → values option (items ++ item ∷ []) ≡ values option items ++ value_in option item
values-push option [] item = append-nil (value_in option item)
values-push option (x ∷ xs) item = rw (values-push option xs item) (sym (append_assoc (value_in option x) (values option xs) (value_in option item)))

or_swap : (a b c : Bool) → (a || (b || c)) ≡ (b || (a || c))
or_swap true true c = refl
or_swap true false c = refl
or_swap false b c = refl

-- whether an option is set, after one more
has_switch-push : (switch : Switch) (items : List Item) (item : Item) → has_switch switch (items ++ item ∷ []) ≡ (sets switch item || has_switch switch items)
has_switch-push switch [] item = refl
has_switch-push switch (x ∷ xs) item = rw (has_switch-push switch xs item) (or_swap (sets switch x) (sets switch item) (has_switch switch xs))

-- one more option with a value, in the whole list of options and in what the pass keeps
settings-push_value : (items : List Item) (option : Valued) (word : Word) → settings_given (items ++ Given option word ∷ []) ≡ with_value (settings_given items) option word
settings-push_value items AuthName word = simp (values-push, has_switch-push, append-nil, last-push)
settings-push_value items CipherName word = simp (values-push, has_switch-push, append-nil, last-push)
settings-push_value items Iterations word = simp (values-push, has_switch-push, append-nil, last-push)
settings-push_value items KeyLength word = simp (values-push, has_switch-push, append-nil, last-push)
settings-push_value items SectorSize word = simp (values-push, has_switch-push, append-nil, last-push)
settings-push_value items OldSize word = simp (values-push, has_switch-push, append-nil, last-push)
settings-push_value items Slot word = simp (values-push, has_switch-push, append-nil, last-push)
settings-push_value items BackupFile word = simp (values-push, has_switch-push, append-nil, last-push)
settings-push_value items OldFile word = simp (values-push, has_switch-push, append-nil, map-append)
settings-push_value items OldPass word = simp (values-push, has_switch-push, append-nil, map-append)
settings-push_value items FreshFile word = simp (values-push, has_switch-push, append-nil, map-append)
settings-push_value items FreshPass word = simp (values-push, has_switch-push, append-nil, map-append)

-- one more option without a value
settings-push_switch : (items : List Item) (switch : Switch) → settings_given (items ++ Set switch ∷ []) ≡ with_switch (settings_given items) switch
settings-push_switch items WithoutOld = simp (values-push, has_switch-push, append-nil)
settings-push_switch items WithoutFresh = simp (values-push, has_switch-push, append-nil)
settings-push_switch items FixedSize = simp (values-push, has_switch-push, append-nil)
settings-push_switch items OnlyCheck = simp (values-push, has_switch-push, append-nil)
settings-push_switch items ReadOnly = simp (values-push, has_switch-push, append-nil)
settings-push_switch items AllSlots = simp (values-push, has_switch-push, append-nil)
settings-push_switch items Force = simp (values-push, has_switch-push, append-nil)
settings-push_switch items Restart = simp (values-push, has_switch-push, append-nil)
settings-push_switch items Verbose = simp (values-push, has_switch-push, append-nil)

-- the fault of a value depends only on how many files came before, apart from the value
fault_by_count : (items : List Item) (option : Valued) (bytes : List ℕ) → value_fault option (length (files_so_far (settings_given items) option)) bytes ≡ value_fault option (length (values option items)) bytes
fault_by_count items AuthName bytes = refl
fault_by_count items CipherName bytes = refl
fault_by_count items Iterations bytes = refl
fault_by_count items KeyLength bytes = refl
fault_by_count items SectorSize bytes = refl
fault_by_count items OldSize bytes = refl
fault_by_count items Slot bytes = refl
fault_by_count items BackupFile bytes = refl
fault_by_count items OldFile bytes = rw length-map
fault_by_count items OldPass bytes = rw length-map
fault_by_count items FreshFile bytes = rw length-map
fault_by_count items FreshPass bytes = rw length-map

-- the fault, or the value if there is none
abbrev pub outcome : {A : Type 0} → Option Usage → A → Result A Usage
outcome (Some usage) value = Err usage
outcome None value = Ok value

checked_is : (fault : Option Reason) (number : ℕ) (s : Settings) → checked fault number s ≡ outcome (option_map (λ reason. record { word = number; reason = reason }) fault) s
checked_is None number s = refl
checked_is (Some reason) number s = refl

-- one more option with a value: its fault after the options before it, or what all of them amount to
given_is : (items : List Item) (option : Valued) (word : Word) → value_given (settings_given items) option word ≡ outcome (option_fault items (Given option word)) (settings_given (items ++ Given option word ∷ []))
given_is items option word = rw (fault_by_count items option word.bytes, ← settings-push_value items option word) (checked_is (value_fault option (length (values option items)) word.bytes) word.number (settings_given (items ++ Given option word ∷ [])))

or_else_assoc : {A : Type 0} (a b c : Option A) → or_else a (or_else b c) ≡ or_else (or_else a b) c
or_else_assoc None b c = refl
or_else_assoc (Some a) b c = refl

-- an item after others, and then the rest
append_one : (before : List Item) (item : Item) (items : List Item) → before ++ item ∷ [] ++ items ≡ before ++ item ∷ items
append_one before item items = append_assoc before (item ∷ []) items

first_option_fault-append : (before items more : List Item) → first_option_fault before (items ++ more) ≡ or_else (first_option_fault before items) (first_option_fault (before ++ items) more)
first_option_fault-append before [] more = rw append-nil
first_option_fault-append before (item ∷ items) more =
    rw (first_option_fault-append (before ++ item ∷ []) items more, append_one before item items)
    (or_else_assoc (option_fault before item) (first_option_fault (before ++ item ∷ []) items) (first_option_fault (before ++ item ∷ items) more))

-- what the letters of a group amount to after some options
abbrev group_outcome : List Item → Group → Result (Settings × Option Valued) Usage
group_outcome before group = outcome (first_option_fault before group.items) (settings_given (before ++ group.items), group.waiting)

abbrev no_option : Option Valued
no_option = None

-- a step after which nothing can be wrong
closes : {A B : Type 0} (fault : Option Usage) (value : A) (view : A → B) → and_then {A = A} {B = B} (outcome fault value) (λ next. Ok (view next)) ≡ outcome (or_else fault None) (view value)
closes None value view = refl
closes (Some usage) value view = refl

-- a step after which other things can be wrong
goes_on : {A B : Type 0} (fault more : Option Usage) (value : A) (last : B) (next : A → Result B Usage) → next value ≡ outcome more last → and_then {A = A} {B = B} (outcome fault value) next ≡ outcome (or_else fault more) last
goes_on None more value last next then = then
goes_on (Some usage) more value last next then = refl

letter_is : (letter : Option Letter) (number start : ℕ) (rest : List ℕ) (before : List Item) (group : Group) (next : Settings → Result (Settings × Option Valued) Usage)
    → ((more : List Item) → next (settings_given more) ≡ group_outcome more group)
    → taken_letter letter number start rest (settings_given before) next ≡ group_outcome before (with_letter letter number start rest group)
letter_is None number start rest before group next then = refl
letter_is (Some (Alone switch)) number start rest before group next then =
    rw (← settings-push_switch before switch) (then (before ++ Set switch ∷ []) ∙ rw append_one)
letter_is (Some (WithValue option)) number start [] before group next then = rw append-nil
letter_is (Some (WithValue option)) number start (b ∷ bs) before group next then =
    rw given_is (closes _ _ (λ (s : Settings). (s, no_option)))

letters_are : (verb : Verb) (number start : ℕ) (bytes : List ℕ) (before : List Item) → taken_letters verb number start bytes (settings_given before) ≡ group_outcome before (letters verb number start bytes)
letters_are verb number start [] before = rw append-nil
letters_are verb number start (b ∷ bs) before =
    letter_is (letter_of verb b) number (start + 1) bs before (letters verb number (start + 1) bs) (λ next. taken_letters verb number (start + 1) bs next)
    (λ more. letters_are verb number (start + 1) bs more)

-- what options and operands amount to after some options
abbrev options_outcome : List Item → Options → Result (Settings × List Word) Usage
options_outcome before read = outcome (first_option_fault before read.items) (settings_given (before ++ read.items), read.operands)

-- a word at the place of an option
word_is : (kind : Kind) (verb : Verb) (word : Word) (behind : List Word) (before : List Item) (next : Settings → Option Valued → Result (Settings × List Word) Usage) (rest : Option Valued → Options)
    → ((waiting : Option Valued) (more : List Item) → next (settings_given more) waiting ≡ options_outcome more (rest waiting))
    → taken_word kind verb word behind (settings_given before) next ≡ options_outcome before (with_word kind verb word behind rest)
word_is Ends verb word behind before next rest then = rw append-nil
word_is (Letters bytes) verb word behind before next rest then =
    let group : Group = letters verb word.number (word.start + 1) bytes in
    rw (letters_are, first_option_fault-append, ← append_assoc before group.items (rest group.waiting).items)
    (goes_on (first_option_fault before group.items) _ _ _ _ (then group.waiting (before ++ group.items)))
word_is Other verb word behind before next rest then = rw append-nil

options_are : (verb : Verb) (total : ℕ) (words : List Word) (waiting : Option Valued) (before : List Item) → taken_options verb total words (settings_given before) waiting ≡ options_outcome before (options verb total words waiting)
options_are verb total [] None before = rw append-nil
options_are verb total [] (Some option) before = refl
options_are verb total (word ∷ behind) (Some option) before =
    rw (given_is, ← append_one before (Given option word) (options verb total behind None).items)
    (goes_on (option_fault before (Given option word)) _ _ _ _ (options_are verb total behind None (before ++ Given option word ∷ [])))
options_are verb total (word ∷ behind) None before =
    word_is (kind_of word.bytes) verb word behind before (λ next waiting. taken_options verb total behind next waiting) (λ waiting. options verb total behind waiting)
    (λ waiting more. options_are verb total behind waiting more)

settle_is : (verb : Verb) (total : ℕ) (fault : Option Usage) (s : Settings) (operands : List Word)
    → unless_usage fault (settled verb total s operands) ≡ and_then {A = Settings × List Word} (outcome fault (s, operands)) (λ read. settled verb total read.0 read.1)
settle_is verb total None s operands = refl
settle_is verb total (Some usage) s operands = refl

-- What the options say is what one pass over the words gives.
pub options_taken : (verb : Verb) (total : ℕ) (words : List Word) → by_options verb total (options verb total words None) ≡ and_then (taken_options verb total words (settings_given []) None) (λ read. settled verb total read.0 read.1)
options_taken verb total words =
    let read : Options = options verb total words None in
    rw options_are (settle_is verb total (first_option_fault [] read.items) (settings_given read.items) read.operands)
