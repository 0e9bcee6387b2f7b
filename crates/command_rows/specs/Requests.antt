-- What the calls of a provider come to as refusals, and the bytes that were read.
use Rattle.std.specs.Prelude.{ℕ, List, take, Option, Some, None, Result, Ok, Err}
use Rattle.eli_base.specs.declared.refusals.Refusal.TheVariants as refusals
use Rattle.sector_runs.specs.declared.faults.ReadFault.{ReadFault}
use Rattle.sector_runs.specs.declared.faults.ReadFault.TheVariants as read
use Rattle.provider.specs.declared.faults.WriteFault.{WriteFault}
use Rattle.provider.specs.declared.faults.WriteFault.TheVariants as write
use Rattle.command_rows.specs.Vocabulary.{Refusal}

abbrev pub read_refusal : ReadFault → Refusal
read_refusal (read.OutOfRange sector count media) = refusals.OutOfRange sector count media
read_refusal read.DeviceFault = refusals.DeviceFault
read_refusal (read.Integrity offset) = refusals.Integrity offset

abbrev pub write_refusal : WriteFault → Refusal
write_refusal write.ReadOnly = refusals.ReadOnly
write_refusal (write.OutOfRange sector count media) = refusals.OutOfRange sector count media
write_refusal write.DeviceFault = refusals.DeviceFault

-- these bytes, or the refusal
abbrev pub handed_out : List ℕ → Result (Unit {0}) Refusal → Result (List ℕ) Refusal
handed_out bytes (Ok done) = Ok bytes
handed_out bytes (Err refusal) = Err refusal

-- so many bytes at the front were read, or it was refused
abbrev pub bytes_read : List ℕ → Result ℕ Refusal → Result (List ℕ) Refusal
bytes_read buffer (Ok count) = Ok (take count buffer)
bytes_read buffer (Err refusal) = Err refusal

-- so many bytes at the front were read, or nothing was to be read, or it was refused
abbrev pub bytes_given : List ℕ → Result (Option ℕ) Refusal → Result (Option (List ℕ)) Refusal
bytes_given buffer (Ok (Some count)) = Ok (Some (take count buffer))
bytes_given buffer (Ok None) = Ok None
bytes_given buffer (Err refusal) = Err refusal

abbrev pub read_answer : ℕ → Result (Unit {0}) ReadFault → Result ℕ Refusal
read_answer count (Ok done) = Ok count
read_answer count (Err fault) = Err (read_refusal fault)
