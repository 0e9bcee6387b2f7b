-- What the options of a line say.
use Rattle.std.specs.Prelude.{ℕ, ◌+◌, pos, List, [], ◌∷◌, length, map, Bool, false, not, ◌==◌, if◌then◌else◌, Option, None, Some, unwrap_or, option_and_then, option_map, codes}
use Rattle.std.specs.Option.{option_map_or}
use Rattle.std.specs.List.{list_any}
use Rattle.std.specs.Str.{bytes_eq}
use Rattle.eli_base.specs.declared.algorithms.Auth.TheVariants.{Off}
use Rattle.eli_base.specs.declared.algorithms.Cipher.TheVariants.{AesXts}
use Rattle.command_words.specs.declared.spans.Span.{Span}
use Rattle.command_words.specs.declared.settings.Settings.{Settings}
use Rattle.command_words.specs.declared.table.Switch.{Switch}
use Rattle.command_words.specs.declared.table.Switch.TheVariants.{WithoutOld, WithoutFresh, FixedSize, OnlyCheck, ReadOnly, AllSlots, Force, Restart, Verbose}
use Rattle.command_words.specs.declared.table.Valued.{Valued}
use Rattle.command_words.specs.declared.table.Valued.TheVariants.{AuthName, CipherName, Iterations, KeyLength, SectorSize, OldSize, Slot, BackupFile, OldFile, OldPass, FreshFile, FreshPass}
use Rattle.command_words.specs.Words.{Word}
use Rattle.word_values.specs.Values.{decimal, auth_named, cipher_named}
use Rattle.command_words.specs.Options.{Item, Set, Given, Unknown, Missing, values}

-- the bytes of a value in the line
abbrev pub span_of : Word → Span
span_of word = record { start = word.start; end = word.start + length word.bytes; word = word.number }

-- for an option that has one value the last one given counts
abbrev pub last : List Word → Option Word
last [] = None
last (word ∷ []) = Some word
last (word ∷ next ∷ words) = last (next ∷ words)

abbrev pub last_value : Valued → List Item → Option Word
last_value option items = last (values option items)

-- the number of an option without a value, which distinguishes these options
abbrev pub switch_place : Switch → ℕ
switch_place WithoutOld = 0
switch_place WithoutFresh = 1
switch_place FixedSize = 2
switch_place OnlyCheck = 3
switch_place ReadOnly = 4
switch_place AllSlots = 5
switch_place Force = 6
switch_place Verbose = 7
switch_place Restart = 8

abbrev pub sets : Switch → Item → Bool
sets switch (Set given) = switch_place switch == switch_place given
sets switch (Given option word) = false
sets switch (Unknown number) = false
sets switch (Missing number) = false

-- whether an option without a value was given
abbrev pub has_switch : Switch → List Item → Bool
has_switch switch items = list_any (sets switch) items

-- the file of a backup; `none` names no file
abbrev pub backup_of : Word → Option Span
backup_of word = if bytes_eq word.bytes (codes "none") then None else Some (span_of word)

-- the files of an option
abbrev pub option_files : Valued → List Item → List Span
option_files option items = map span_of (values option items)

-- what options without a fault amount to
abbrev pub settings_given : List Item → Settings
settings_given items = record {
  auth = unwrap_or (option_and_then (λ word. auth_named word.bytes) (last_value AuthName items)) Off;
  cipher = unwrap_or (option_and_then (λ word. cipher_named word.bytes) (last_value CipherName items)) AesXts;
  iterations = option_map (λ word. pos (decimal word.bytes)) (last_value Iterations items);
  keylen = option_map_or (λ word. decimal word.bytes) (last_value KeyLength items) 128;
  sectorsize = option_map_or (λ word. decimal word.bytes) (last_value SectorSize items) 512;
  oldsize = option_map (λ word. decimal word.bytes) (last_value OldSize items);
  slot = option_map (λ word. decimal word.bytes) (last_value Slot items);
  backup = option_and_then backup_of (last_value BackupFile items);
  autoresize = not (has_switch FixedSize items);
  only_check = has_switch OnlyCheck items;
  readonly = has_switch ReadOnly items;
  all = has_switch AllSlots items;
  force = has_switch Force items;
  restart = has_switch Restart items;
  old_key = record { files = option_files OldFile items; pass = option_files OldPass items; without = has_switch WithoutOld items };
  fresh_key = record { files = option_files FreshFile items; pass = option_files FreshPass items; without = has_switch WithoutFresh items };
}
