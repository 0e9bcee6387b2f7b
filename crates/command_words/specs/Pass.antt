-- The options of a line, read in one pass.
use Rattle.std.specs.Prelude.{ℕ, ◌+◌, pos, List, [], ◌∷◌, ◌++◌, length, true, false, Option, None, Some, unwrap_or, Result, Ok, Err}
use Rattle.eli_base.specs.declared.algorithms.Auth.TheVariants.{Off}
use Rattle.eli_base.specs.declared.algorithms.Cipher.TheVariants.{AesXts}
use Rattle.eli_base.specs.declared.Reason.{Reason}
use Rattle.eli_base.specs.declared.Reason.TheVariants.{UnknownOption, MissingValue}
use Rattle.command_words.specs.declared.commands.Usage.{Usage}
use Rattle.command_words.specs.declared.settings.Settings.{Settings}
use Rattle.command_words.specs.declared.operands.Operands.{Operands}
use Rattle.command_words.specs.declared.spans.Span.{Span}
use Rattle.command_words.specs.declared.spans.KeyWords.{KeyWords}
use Rattle.command_words.specs.declared.table.Verb.{Verb}
use Rattle.command_words.specs.declared.table.Switch.{Switch}
use Rattle.command_words.specs.declared.table.Switch.TheVariants.{WithoutOld, WithoutFresh, FixedSize, OnlyCheck, ReadOnly, AllSlots, Force, Restart, Verbose}
use Rattle.command_words.specs.declared.table.Valued.{Valued}
use Rattle.command_words.specs.declared.table.Valued.TheVariants.{AuthName, CipherName, Iterations, KeyLength, SectorSize, OldSize, Slot, BackupFile, OldFile, OldPass, FreshFile, FreshPass}
use Rattle.command_words.specs.declared.table.JobName.TheVariants as jobs
use Rattle.command_words.specs.declared.table.Operand.{Operand}
use Rattle.command_words.specs.declared.table.Operand.TheVariants.{Provider, File, Sector, FewSectors, ManySectors, Seed, Digits, Job, Tag}
use Rattle.command_words.specs.declared.table.Letter.{Letter}
use Rattle.command_words.specs.declared.table.Letter.TheVariants.{Alone, WithValue}
use Rattle.command_words.specs.declared.kinds.WordKind.{WordKind}
use Rattle.command_words.specs.declared.kinds.WordKind.TheVariants as Here
use Rattle.command_words.specs.Words.{Word}
use Rattle.command_words.specs.Table.{letter_of}
use Rattle.command_words.specs.Values.{value_fault, operand_fault}
use Rattle.word_values.specs.Values.{decimal, auth_named, cipher_named}
use Rattle.command_words.specs.Options.{Kind, Ends, Letters, Other, kind_of}
use Rattle.command_words.specs.Settings.{span_of, backup_of}
use Rattle.command_words.specs.Operands.{no_span}

-- What one pass over the words keeps. These definitions are about the private functions alone; what a line says is
-- defined by `reading`.

-- the files that an option was given so far
abbrev pub files_so_far : Settings → Valued → List Span
files_so_far s AuthName = []
files_so_far s CipherName = []
files_so_far s Iterations = []
files_so_far s KeyLength = []
files_so_far s SectorSize = []
files_so_far s OldSize = []
files_so_far s Slot = []
files_so_far s BackupFile = []
files_so_far s OldFile = s.old_key.files
files_so_far s OldPass = s.old_key.pass
files_so_far s FreshFile = s.fresh_key.files
files_so_far s FreshPass = s.fresh_key.pass

abbrev pub with_file_word : KeyWords → Word → KeyWords
with_file_word key word = record { files = key.files ++ span_of word ∷ []; pass = key.pass; without = key.without }

abbrev pub with_pass : KeyWords → Word → KeyWords
with_pass key word = record { files = key.files; pass = key.pass ++ span_of word ∷ []; without = key.without }

abbrev pub without_pass : KeyWords → KeyWords
without_pass key = record { files = key.files; pass = key.pass; without = true }

-- one more option with a value
abbrev pub with_value : Settings → Valued → Word → Settings
with_value s AuthName word = record s { auth = unwrap_or (auth_named word.bytes) Off }
with_value s CipherName word = record s { cipher = unwrap_or (cipher_named word.bytes) AesXts }
with_value s Iterations word = record s { iterations = Some (pos (decimal word.bytes)) }
with_value s KeyLength word = record s { keylen = decimal word.bytes }
with_value s SectorSize word = record s { sectorsize = decimal word.bytes }
with_value s OldSize word = record s { oldsize = Some (decimal word.bytes) }
with_value s Slot word = record s { slot = Some (decimal word.bytes) }
with_value s BackupFile word = record s { backup = backup_of word }
with_value s OldFile word = record s { old_key = with_file_word s.old_key word }
with_value s OldPass word = record s { old_key = with_pass s.old_key word }
with_value s FreshFile word = record s { fresh_key = with_file_word s.fresh_key word }
with_value s FreshPass word = record s { fresh_key = with_pass s.fresh_key word }

-- one more option without a value
abbrev pub with_switch : Settings → Switch → Settings
with_switch s WithoutOld = record s { old_key = without_pass s.old_key }
with_switch s WithoutFresh = record s { fresh_key = without_pass s.fresh_key }
with_switch s FixedSize = record s { autoresize = false }
with_switch s OnlyCheck = record s { only_check = true }
with_switch s ReadOnly = record s { readonly = true }
with_switch s AllSlots = record s { all = true }
with_switch s Force = record s { force = true }
with_switch s Restart = record s { restart = true }
with_switch s Verbose = s

-- what a step leaves, or why the line is no command
abbrev pub checked : {A : Type 0} → Option Reason → ℕ → A → Result A Usage
checked None number value = Ok value
checked (Some reason) number value = Err (record { word = number; reason = reason })

abbrev pub value_given : Settings → Valued → Word → Result Settings Usage
value_given s option word =
    checked (value_fault option (length (files_so_far s option)) word.bytes) word.number (with_value s option word)

abbrev pub and_then : {A B : Type 0} → Result A Usage → (A → Result B Usage) → Result B Usage
and_then (Ok value) next = next value
and_then (Err usage) next = Err usage

-- a group of letters, from this place on
abbrev pub with_rest : Settings → Valued → ℕ → ℕ → List ℕ → Result (Settings × Option Valued) Usage
with_rest s option number start [] = Ok (s, Some option)
with_rest s option number start (b ∷ bs) =
    and_then (value_given s option (record { number = number; start = start; bytes = b ∷ bs })) (λ next. Ok (next, None))

abbrev pub taken_letter : Option Letter → ℕ → ℕ → List ℕ → Settings → (Settings → Result (Settings × Option Valued) Usage) → Result (Settings × Option Valued) Usage
taken_letter None number start rest s next = Err (record { word = number; reason = UnknownOption })
taken_letter (Some (Alone switch)) number start rest s next = next (with_switch s switch)
taken_letter (Some (WithValue option)) number start rest s next = with_rest s option number start rest

abbrev pub taken_letters : Verb → ℕ → ℕ → List ℕ → Settings → Result (Settings × Option Valued) Usage
taken_letters verb number start [] s = Ok (s, None)
taken_letters verb number start (b ∷ bs) s = taken_letter (letter_of verb b) number (start + 1) bs s (λ next. taken_letters verb number (start + 1) bs next)

-- a word at the place of an option, and the words after it
abbrev pub taken_word : Kind → Verb → Word → List Word → Settings → (Settings → Option Valued → Result (Settings × List Word) Usage) → Result (Settings × List Word) Usage
taken_word Ends verb word behind s next = Ok (s, behind)
taken_word (Letters bytes) verb word behind s next = and_then (taken_letters verb word.number (word.start + 1) bytes s) (λ read. next read.0 read.1)
taken_word Other verb word behind s next = Ok (s, word ∷ behind)

-- the options of a verb among its words; the line has so many
abbrev pub taken_options : Verb → ℕ → List Word → Settings → Option Valued → Result (Settings × List Word) Usage
taken_options verb total [] s None = Ok (s, [])
taken_options verb total [] s (Some option) = Err (record { word = total; reason = MissingValue })
taken_options verb total (word ∷ behind) s (Some option) = and_then (value_given s option word) (λ next. taken_options verb total behind next None)
taken_options verb total (word ∷ behind) s None = taken_word (kind_of word.bytes) verb word behind s (λ next waiting. taken_options verb total behind next waiting)

-- what a word is, from what the code returns
abbrev pub kind_seen : WordKind → Kind
kind_seen Here.Ends = Ends
kind_seen (Here.Letters bytes) = Letters bytes.now
kind_seen Here.Other = Other

-- one more operand
abbrev pub with_operand : Operands → Operand → Word → Operands
with_operand o Provider word = record o { prov = span_of word }
with_operand o File word = record o { file = span_of word }
with_operand o Sector word = record o { sector = decimal word.bytes }
with_operand o FewSectors word = record o { few = decimal word.bytes }
with_operand o ManySectors word = record o { many = decimal word.bytes }
with_operand o Seed word = record o { seed = decimal word.bytes }
with_operand o Digits word = record o { digits = span_of word }
with_operand o (Job job) word = record o { job = job }
with_operand o Tag word = record o { tag = decimal word.bytes }

-- the operands of a form among the words
abbrev pub taken_operands : List Operand → List Word → Operands → Result Operands Usage
taken_operands [] words o = Ok o
taken_operands (operand ∷ form) [] o = Ok o
taken_operands (operand ∷ form) (word ∷ words) o =
    and_then (checked (operand_fault operand word.bytes) word.number (with_operand o operand word)) (λ next. taken_operands form words next)

-- the operands of a line whose only operand is a provider
abbrev pub provider_alone : Span → Operands
provider_alone prov = record { prov = prov; file = no_span; digits = no_span; seed = 0; sector = 0; few = 0; many = 0; job = jobs.Flush; tag = 0 }
