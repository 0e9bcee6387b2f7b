-- What is wrong with the values of options and operands.
use Rattle.std.specs.Prelude.{ℕ, List, Bool, nat_le, if◌then◌else◌, Option, None, Some, is_some, codes}
use Rattle.std.specs.Str.{bytes_eq}
use Rattle.eli_base.specs.declared.Reason.{Reason}
use Rattle.eli_base.specs.declared.Reason.TheVariants.{BadNumber, BadName, BadHex, DashFile, TooManyFiles}
use Rattle.word_values.specs.Values.{auth_named, cipher_named, is_hexadecimal, number_within, old_size_named}
use Rattle.command_words.specs.declared.table.Valued.{Valued}
use Rattle.command_words.specs.declared.table.Valued.TheVariants.{AuthName, CipherName, Iterations, KeyLength, SectorSize, OldSize, Slot, BackupFile, OldFile, OldPass, FreshFile, FreshPass}
use Rattle.command_words.specs.declared.table.JobName.{JobName}
use Rattle.command_words.specs.declared.table.JobName.TheVariants as jobs
use Rattle.command_words.specs.declared.table.Operand.{Operand}
use Rattle.command_words.specs.declared.table.Operand.TheVariants.{Provider, File, Sector, FewSectors, ManySectors, Seed, Digits, Job, Tag}

-- the fault of a value that must be there
abbrev pub reason_unless : Bool → Reason → Option Reason
reason_unless good reason = if good then None else Some reason

-- the fault of a file that is named once
abbrev pub file_fault : List ℕ → Option Reason
file_fault bytes = if bytes_eq bytes (codes "-") then Some DashFile else None

-- the fault of one more file, after so many files of its option
abbrev pub files_fault : ℕ → List ℕ → Option Reason
files_fault before bytes =
    if bytes_eq bytes (codes "-") then Some DashFile else (if nat_le 16 before then Some TooManyFiles else None)

-- what is wrong with the value of an option, of which so many came before
abbrev pub value_fault : Valued → ℕ → List ℕ → Option Reason
value_fault AuthName before bytes = reason_unless (is_some (auth_named bytes)) BadName
value_fault CipherName before bytes = reason_unless (is_some (cipher_named bytes)) BadName
value_fault Iterations before bytes = reason_unless (is_some (number_within 0 2147483647 bytes)) BadNumber
value_fault KeyLength before bytes = reason_unless (is_some (number_within 0 65535 bytes)) BadNumber
value_fault SectorSize before bytes = reason_unless (is_some (number_within 0 4294967295 bytes)) BadNumber
value_fault OldSize before bytes = reason_unless (is_some (old_size_named bytes)) BadNumber
value_fault Slot before bytes = reason_unless (is_some (number_within 0 255 bytes)) BadNumber
value_fault BackupFile before bytes = file_fault bytes
value_fault OldFile before bytes = files_fault before bytes
value_fault OldPass before bytes = files_fault before bytes
value_fault FreshFile before bytes = files_fault before bytes
value_fault FreshPass before bytes = files_fault before bytes

-- the word that names a job
abbrev pub job_name : JobName → List ℕ
job_name jobs.Read = codes "read"
job_name jobs.Write = codes "write"
job_name jobs.Flush = codes "flush"

-- what is wrong with an operand
abbrev pub operand_fault : Operand → List ℕ → Option Reason
operand_fault Provider bytes = None
operand_fault File bytes = file_fault bytes
operand_fault Sector bytes = reason_unless (is_some (number_within 0 9223372036854775807 bytes)) BadNumber
operand_fault FewSectors bytes = reason_unless (is_some (number_within 1 256 bytes)) BadNumber
operand_fault ManySectors bytes = reason_unless (is_some (number_within 1 9223372036854775807 bytes)) BadNumber
operand_fault Seed bytes = reason_unless (is_some (number_within 0 18446744073709551615 bytes)) BadNumber
operand_fault Digits bytes = reason_unless (is_hexadecimal bytes) BadHex
operand_fault (Job job) bytes = reason_unless (bytes_eq bytes (job_name job)) BadName
operand_fault Tag bytes = reason_unless (is_some (number_within 0 31 bytes)) BadNumber
