-- The verbs, their options and their operands.
use denote.Enum.Declared.{tag_of}
use Rattle.std.specs.Prelude.{ℕ, List, [], ◌∷◌, length, Bool, true, ◌&&◌, ◌==◌, if◌then◌else◌, Option, None, Some, codes, get_or, map, option_map, unwrap_or}
use Rattle.std.specs.Str.{byte, bytes_eq}
use Rattle.command_words.specs.declared.commands.Command.{Command}
use Rattle.command_words.specs.declared.commands.Command.TheVariants as commands
use Rattle.command_words.specs.declared.commands.JobWords.{JobWords}
use Rattle.command_words.specs.declared.commands.JobWords.TheVariants as job_words
use Rattle.command_words.specs.declared.operands.Operands.{Operands}
use Rattle.command_words.specs.declared.settings.Settings.{Settings}
use Rattle.command_words.specs.declared.table.JobName.{JobName}
use Rattle.command_words.specs.declared.table.Verb.{Verb}
use Rattle.command_words.specs.declared.table.Verb.TheVariants as verbs
use Rattle.command_words.specs.declared.table.Switch.{Switch}
use Rattle.command_words.specs.declared.table.Switch.TheVariants.{WithoutOld, WithoutFresh, FixedSize, OnlyCheck, ReadOnly, AllSlots, Force, Restart, Verbose}
use Rattle.command_words.specs.declared.table.Valued.{Valued}
use Rattle.command_words.specs.declared.table.Valued.TheVariants.{AuthName, CipherName, Iterations, KeyLength, SectorSize, OldSize, Slot, BackupFile, OldFile, OldPass, FreshFile, FreshPass}
use Rattle.command_words.specs.declared.table.Letter.{Letter}
use Rattle.command_words.specs.declared.table.Letter.TheVariants.{Alone, WithValue}
use Rattle.command_words.specs.declared.table.Operand.{Operand}
use Rattle.command_words.specs.declared.table.Operand.TheVariants.{Provider, File, Sector, FewSectors, ManySectors, Seed, Digits, Job, Tag}
use Rattle.command_words.specs.declared.table.JobName.TheVariants as jobs
use Rattle.command_words.specs.declared.table.Row as Code
use Rattle.command_words.specs.declared.table.Rule.{Rule}
use Rattle.command_words.specs.declared.table.Rule.TheVariants.{Free, NeedsOldSize, PassWithIterations, SlotOrAll}
use Rattle.command_words.specs.contracts.table.Verb.{the_type}
use Rattle.command_words.specs.Words.{Word}
use Rattle.command_words.specs.Values.{job_name}

-- a line of the table of verbs: the verb, its name, the letters without a value, the letters with a value, what the
-- options have to fulfil together, the operands in order, in each form that the verb has, and the command, by what
-- options and operands amount to; forms differ by how many operands they have, or by the name of a job
pub record Row : Type 0 where
  pub verb : Verb
  pub name : List ℕ
  pub alone : List (ℕ × Switch)
  pub valued : List (ℕ × Valued)
  pub rule : Rule
  pub forms : List (List Operand)
  pub command : Settings → Operands → Command

abbrev pub row : Verb → List ℕ → List (ℕ × Switch) → List (ℕ × Valued) → Rule → List (List Operand) → (Settings → Operands → Command) → Row
row verb name alone valued rule forms command = record { verb = verb; name = name; alone = alone; valued = valued; rule = rule; forms = forms; command = command }

-- a job of this name, by what the operands amount to
abbrev pub job_at : JobName → Operands → JobWords
job_at jobs.Read o = job_words.Read o.sector o.few
job_at jobs.Write o = job_words.Write o.sector o.digits
job_at jobs.Flush o = job_words.Flush

-- the table of verbs: geli(8), SYNOPSIS; `verify` and those from `read` to `reap` are this program's own
abbrev pub table : List Row
table =
    row verbs.Init (codes "init")
    ((byte "P", WithoutFresh) ∷ (byte "R", FixedSize) ∷ (byte "v", Verbose) ∷ [])
    ((byte "a", AuthName) ∷ (byte "B", BackupFile) ∷ (byte "e", CipherName) ∷ (byte "i", Iterations) ∷ (byte "J", FreshPass) ∷ (byte "K", FreshFile) ∷ (byte "l", KeyLength) ∷ (byte "s", SectorSize) ∷ [])
    PassWithIterations ((Provider ∷ []) ∷ [])
    (λ s o. commands.Init o.prov s.cipher s.auth s.keylen s.sectorsize s.iterations s.autoresize s.fresh_key s.backup) ∷
    row verbs.Attach (codes "attach")
    ((byte "C", OnlyCheck) ∷ (byte "p", WithoutOld) ∷ (byte "r", ReadOnly) ∷ (byte "v", Verbose) ∷ [])
    ((byte "j", OldPass) ∷ (byte "k", OldFile) ∷ (byte "n", Slot) ∷ [])
    Free ((Provider ∷ []) ∷ []) (λ s o. commands.Attach o.prov s.only_check s.readonly s.slot s.old_key) ∷
    row verbs.Detach (codes "detach") ((byte "f", Force) ∷ (byte "v", Verbose) ∷ []) [] Free ((Provider ∷ []) ∷ [])
    (λ s o. commands.Detach o.prov) ∷
    row verbs.Setkey (codes "setkey")
    ((byte "p", WithoutOld) ∷ (byte "P", WithoutFresh) ∷ (byte "v", Verbose) ∷ [])
    ((byte "i", Iterations) ∷ (byte "j", OldPass) ∷ (byte "J", FreshPass) ∷ (byte "k", OldFile) ∷ (byte "K", FreshFile) ∷ (byte "n", Slot) ∷ [])
    Free ((Provider ∷ []) ∷ []) (λ s o. commands.Setkey o.prov s.iterations s.slot s.old_key s.fresh_key) ∷
    row verbs.Delkey (codes "delkey") ((byte "a", AllSlots) ∷ (byte "f", Force) ∷ (byte "v", Verbose) ∷ []) ((byte "n", Slot) ∷ []) SlotOrAll ((Provider ∷ []) ∷ [])
    (λ s o. commands.Delkey o.prov s.all s.force s.slot) ∷
    row verbs.Kill (codes "kill") ((byte "v", Verbose) ∷ []) [] Free ((Provider ∷ []) ∷ []) (λ s o. commands.Kill o.prov) ∷
    row verbs.Backup (codes "backup") ((byte "v", Verbose) ∷ []) [] Free ((Provider ∷ File ∷ []) ∷ []) (λ s o. commands.Backup o.prov o.file) ∷
    row verbs.Restore (codes "restore") ((byte "f", Force) ∷ (byte "v", Verbose) ∷ []) [] Free ((File ∷ Provider ∷ []) ∷ [])
    (λ s o. commands.Restore o.file o.prov s.force) ∷
    row verbs.Resize (codes "resize") ((byte "v", Verbose) ∷ []) ((byte "s", OldSize) ∷ []) NeedsOldSize ((Provider ∷ []) ∷ [])
    (λ s o. commands.Resize o.prov (unwrap_or s.oldsize 0)) ∷
    row verbs.Dump (codes "dump") ((byte "v", Verbose) ∷ []) [] Free ((Provider ∷ []) ∷ []) (λ s o. commands.Dump o.prov) ∷
    row verbs.Read (codes "read") [] [] Free ((Provider ∷ Sector ∷ FewSectors ∷ []) ∷ []) (λ s o. commands.Read o.prov o.sector o.few) ∷
    row verbs.Write (codes "write") [] [] Free ((Provider ∷ Sector ∷ Digits ∷ []) ∷ []) (λ s o. commands.Write o.prov o.sector o.digits) ∷
    row verbs.Flush (codes "flush") [] [] Free ((Provider ∷ []) ∷ []) (λ s o. commands.Flush o.prov) ∷
    row verbs.List (codes "list") [] [] Free ([] ∷ []) (λ s o. commands.List) ∷
    row verbs.Fill (codes "fill") [] [] Free ((Provider ∷ Seed ∷ Sector ∷ ManySectors ∷ []) ∷ [])
    (λ s o. commands.Fill o.prov o.seed o.sector o.many) ∷
    row verbs.Sum (codes "sum") [] [] Free ((Provider ∷ Sector ∷ ManySectors ∷ []) ∷ []) (λ s o. commands.Sum o.prov o.sector o.many) ∷
    row verbs.Eject (codes "eject") [] [] Free ((Provider ∷ []) ∷ []) (λ s o. commands.Eject o.prov) ∷
    row verbs.Submit (codes "submit") [] [] Free
    ((Provider ∷ Job jobs.Flush ∷ []) ∷ (Provider ∷ Job jobs.Read ∷ Sector ∷ FewSectors ∷ []) ∷ (Provider ∷ Job jobs.Write ∷ Sector ∷ Digits ∷ []) ∷ [])
    (λ s o. commands.Submit o.prov (job_at o.job o)) ∷
    row verbs.Step (codes "step") [] [] Free ((Provider ∷ Tag ∷ []) ∷ []) (λ s o. commands.Step o.prov o.tag) ∷
    row verbs.Reap (codes "reap") [] [] Free ((Provider ∷ Tag ∷ []) ∷ []) (λ s o. commands.Reap o.prov o.tag) ∷
    row verbs.Suspend (codes "suspend") ((byte "v", Verbose) ∷ []) [] Free ((Provider ∷ []) ∷ []) (λ s o. commands.Suspend o.prov) ∷
    row verbs.Resume (codes "resume") ((byte "p", WithoutOld) ∷ (byte "v", Verbose) ∷ []) ((byte "j", OldPass) ∷ (byte "k", OldFile) ∷ []) Free ((Provider ∷ []) ∷ [])
    (λ s o. commands.Resume o.prov s.old_key) ∷
    row verbs.Verify (codes "verify") ((byte "r", Restart) ∷ (byte "v", Verbose) ∷ []) [] Free ((Provider ∷ File ∷ ManySectors ∷ []) ∷ [])
    (λ s o. commands.Verify o.prov o.file o.many s.restart) ∷ []

-- the row of a verb that isn't in the table; there is none, since `Verb::row` ensures that each verb has its own row
abbrev pub row_of_none : Row
row_of_none = row verbs.List [] [] [] Free [] (λ s o. commands.List)

-- the row of a verb: the table has the rows in the order in which the code declares the verbs
abbrev pub row_of : Verb → Row
row_of verb = get_or table (tag_of the_type verb) row_of_none

-- the verb of a name, in a list of verbs with their names
abbrev pub named_among : List ℕ → List (Verb × List ℕ) → Option Verb
named_among name [] = None
named_among name (e ∷ es) = if bytes_eq name e.1 then Some e.0 else named_among name es

-- the verb of a name
abbrev pub verb_named : List ℕ → Option Verb
verb_named name = named_among name (map (λ row. (row.verb, row.name)) table)

-- what a letter means in a list of letters
abbrev pub entry : {V : Type 0} → ℕ → List (ℕ × V) → Option V
entry letter [] = None
entry letter (e ∷ es) = if letter == e.0 then Some e.1 else entry letter es

abbrev pub letter_or : Option Switch → Option Valued → Option Letter
letter_or (Some switch) valued = Some (Alone switch)
letter_or None valued = option_map WithValue valued

-- what a letter means for a verb
abbrev pub letter_of : Verb → ℕ → Option Letter
letter_of verb letter = letter_or (entry letter (row_of verb).alone) (entry letter (row_of verb).valued)

-- the first form of so many operands
abbrev pub of_length : ℕ → List (List Operand) → Option (List Operand)
of_length count [] = None
of_length count (form ∷ forms) = if length form == count then Some form else of_length count forms

-- whether the operand allows this word: a job has to be named, any other operand allows each word
abbrev pub is_named : Operand → List ℕ → Bool
is_named (Job job) bytes = bytes_eq bytes (job_name job)
is_named _ bytes = true

-- whether the words name the jobs of a form
abbrev pub are_named : List Operand → List Word → Bool
are_named [] words = true
are_named (operand ∷ form) [] = true
are_named (operand ∷ form) (word ∷ words) = is_named operand word.bytes && are_named form words

-- the first form that has as many operands as there are words, and whose jobs the words name
abbrev pub of_words : List Word → List (List Operand) → Option (List Operand)
of_words words [] = None
of_words words (form ∷ forms) = if length form == length words && are_named form words then Some form else of_words words forms

abbrev pub form_or : Option (List Operand) → Option (List Operand) → Option (List Operand)
form_or (Some form) other = Some form
form_or None other = other

-- the form by which these words are read: the first with so many operands whose jobs they name; if there is none, the
-- first with so many operands, whose job they then don't name
abbrev pub form_among : List Word → List (List Operand) → Option (List Operand)
form_among words forms = form_or (of_words words forms) (of_length (length words) forms)

-- the operands as which these words of a verb are read
abbrev pub form_of : Verb → List Word → Option (List Operand)
form_of verb words = form_among words (row_of verb).forms

-- the verb and the name of a line of the code's table
abbrev pub name_seen : Code.Row → Verb × List ℕ
name_seen r = (r.verb, r.name.now)

abbrev pub row_seen : Code.Row → (Settings → Operands → Command) → Row
row_seen r command = row r.verb r.name.now r.alone.now r.valued.now r.rule (map (λ form. form.now) r.forms.now) command
