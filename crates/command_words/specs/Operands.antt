-- The operands of a line.
use Rattle.std.specs.Prelude.{ℕ, List, [], ◌∷◌, ◌==◌, if◌then◌else◌, Option, None, Some, option_map}
use Rattle.std.specs.Option.{option_map_or}
use Rattle.command_words.specs.declared.commands.Usage.{Usage}
use Rattle.command_words.specs.declared.operands.Operands.{Operands}
use Rattle.command_words.specs.declared.spans.Span.{Span}
use Rattle.command_words.specs.declared.table.JobName.{JobName}
use Rattle.command_words.specs.declared.table.JobName.TheVariants as jobs
use Rattle.command_words.specs.declared.table.Operand.{Operand}
use Rattle.command_words.specs.declared.table.Operand.TheVariants.{Provider, File, Sector, FewSectors, ManySectors, Seed, Digits, Job, Tag}
use Rattle.command_words.specs.Words.{Word}
use Rattle.command_words.specs.Values.{operand_fault}
use Rattle.word_values.specs.Values.{decimal}
use Rattle.command_words.specs.Options.{or_else}
use Rattle.command_words.specs.Settings.{span_of}

-- the first fault among the words that stand as the operands of a form
abbrev pub operands_fault : List Operand → List Word → Option Usage
operands_fault [] words = None
operands_fault (operand ∷ form) [] = None
operands_fault (operand ∷ form) (word ∷ words) =
    or_else (option_map (λ reason. record { word = word.number; reason = reason }) (operand_fault operand word.bytes)) (operands_fault form words)

-- the number of an operand, which distinguishes operands
abbrev pub operand_place : Operand → ℕ
operand_place Provider = 0
operand_place File = 1
operand_place Sector = 2
operand_place FewSectors = 3
operand_place ManySectors = 4
operand_place Seed = 5
operand_place Digits = 6
operand_place (Job job) = 7
operand_place Tag = 8

-- the word that stands as an operand of a form
abbrev pub word_as : Operand → List Operand → List Word → Option Word
word_as wanted [] words = None
word_as wanted (operand ∷ form) [] = None
word_as wanted (operand ∷ form) (word ∷ words) =
    if operand_place wanted == operand_place operand then Some word else word_as wanted form words

abbrev pub no_span : Span
no_span = record { start = 0; end = 0; word = 0 }

-- the place of an operand
abbrev pub span_as : Operand → List Operand → List Word → Span
span_as wanted form words = option_map_or span_of (word_as wanted form words) no_span

-- the number that an operand is
abbrev pub number_as : Operand → List Operand → List Word → ℕ
number_as wanted form words = option_map_or (λ word. decimal word.bytes) (word_as wanted form words) 0

abbrev pub job_or : Operand → JobName → JobName
job_or (Job job) other = job
job_or _ other = other

-- the job that a form names
abbrev pub job_as : List Operand → List Word → JobName
job_as [] words = jobs.Flush
job_as (operand ∷ form) [] = jobs.Flush
job_as (operand ∷ form) (word ∷ words) = job_or operand (job_as form words)

-- what the operands of a form amount to
abbrev pub operands_of : List Operand → List Word → Operands
operands_of form words = record {
  prov = span_as Provider form words;
  file = span_as File form words;
  digits = span_as Digits form words;
  seed = number_as Seed form words;
  sector = number_as Sector form words;
  few = number_as FewSectors form words;
  many = number_as ManySectors form words;
  job = job_as form words;
  tag = number_as Tag form words;
}
