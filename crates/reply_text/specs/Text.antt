-- The text of each reply.
use Rattle.std.specs.Prelude.{ℕ, zero, suc, ◌*◌, ◌≤◌, List, [], ◌∷◌, ◌++◌, length, take, drop, map, if◌then◌else◌, codes}
use Rattle.std.specs.Int.{from_le_bytes, w64}
use Rattle.std.specs.List.{concat}
use Rattle.std.specs.Fmt.{decimal, signed_decimal, digits}
use Rattle.std.specs.Prelude.{false}
use Rattle.hex.specs.Hex.{encode_lower}
use Rattle.eli_base.specs.declared.Reason.{Reason}
use Rattle.eli_base.specs.declared.Reason.TheVariants as reasons
use Rattle.eli_base.specs.declared.refusals.Refusal.{Refusal}
use Rattle.eli_base.specs.declared.refusals.Refusal.TheVariants as refusals
use Rattle.eli_base.specs.Refusals.{number_of}
use Rattle.eli_metadata.specs.declared.metadata.Metadata.{Metadata}
use Rattle.reply_text.specs.declared.reply.Reply.{Reply}
use Rattle.reply_text.specs.declared.reply.Reply.TheVariants.{Done, Payload, Digest, Rows, Dump, Tag, Left, Verified, Refused}
use Rattle.reply_text.specs.declared.reply.Fields.{Fields}
use Rattle.reply_text.specs.declared.reply.Fields.TheVariants as fields
use Rattle.reply_text.specs.declared.rows.Row.{Row}

-- a label, a value and a newline
unfoldable pub line : List ℕ → List ℕ → List ℕ
line label value = label ++ (value ++ 10 ∷ [])

-- the name of a reason
abbrev pub reason_name : Reason → List ℕ
reason_name reasons.UnknownVerb = codes "UnknownVerb"
reason_name reasons.UnknownOption = codes "UnknownOption"
reason_name reasons.MissingValue = codes "MissingValue"
reason_name reasons.BadNumber = codes "BadNumber"
reason_name reasons.BadName = codes "BadName"
reason_name reasons.DashFile = codes "DashFile"
reason_name reasons.TooManyFiles = codes "TooManyFiles"
reason_name reasons.OperandCount = codes "OperandCount"
reason_name reasons.MissingOption = codes "MissingOption"
reason_name reasons.Exclusive = codes "Exclusive"
reason_name reasons.BadHex = codes "BadHex"
reason_name reasons.NotText = codes "NotText"

-- the name of a refusal
abbrev pub refusal_name : Refusal → List ℕ
refusal_name (refusals.Usage word reason) = codes "Usage"
refusal_name refusals.UnknownProvider = codes "UnknownProvider"
refusal_name refusals.NotAttached = codes "NotAttached"
refusal_name refusals.StillAttached = codes "StillAttached"
refusal_name refusals.BadMagic = codes "BadMagic"
refusal_name (refusals.BadVersion found) = codes "BadVersion"
refusal_name refusals.BadHash = codes "BadHash"
refusal_name (refusals.BadSize kept found) = codes "BadSize"
refusal_name (refusals.UnsupportedCipher found) = codes "UnsupportedCipher"
refusal_name (refusals.UnsupportedAuth found) = codes "UnsupportedAuth"
refusal_name (refusals.BadKeyLength found) = codes "BadKeyLength"
refusal_name (refusals.BadSectorSize found) = codes "BadSectorSize"
refusal_name (refusals.UnsupportedFlags mask) = codes "UnsupportedFlags"
refusal_name refusals.NoValidKeys = codes "NoValidKeys"
refusal_name refusals.WrongKey = codes "WrongKey"
refusal_name refusals.NoKeyComponents = codes "NoKeyComponents"
refusal_name refusals.PassphraseNotSet = codes "PassphraseNotSet"
refusal_name (refusals.KeyNumberOutOfRange given) = codes "KeyNumberOutOfRange"
refusal_name (refusals.KeyNotSet slot) = codes "KeyNotSet"
refusal_name (refusals.LastKey slot) = codes "LastKey"
refusal_name refusals.IterationsNeedOneKey = codes "IterationsNeedOneKey"
refusal_name refusals.PassphraseNeeded = codes "PassphraseNeeded"
refusal_name (refusals.OutOfRange sector count media) = codes "OutOfRange"
refusal_name refusals.ReadOnly = codes "ReadOnly"
refusal_name (refusals.Integrity offset) = codes "Integrity"
refusal_name refusals.DeviceFault = codes "DeviceFault"
refusal_name (refusals.FileAbsent word) = codes "FileAbsent"
refusal_name (refusals.CabinetFault word) = codes "CabinetFault"
refusal_name refusals.EntropyFault = codes "EntropyFault"
refusal_name (refusals.FileTooLong word limit) = codes "FileTooLong"
refusal_name (refusals.BackupTooShort length) = codes "BackupTooShort"
refusal_name (refusals.OldSizeMismatch kept given) = codes "OldSizeMismatch"
refusal_name refusals.NoMemory = codes "NoMemory"
refusal_name (refusals.NotGrown size given) = codes "NotGrown"
refusal_name (refusals.TooSmall size) = codes "TooSmall"
refusal_name (refusals.BadLength given sectorsize) = codes "BadLength"
refusal_name refusals.KeyNumberNeeded = codes "KeyNumberNeeded"
refusal_name refusals.QueueFull = codes "QueueFull"
refusal_name (refusals.NoRequest tag) = codes "NoRequest"
refusal_name (refusals.RequestNotDone tag left) = codes "RequestNotDone"
refusal_name (refusals.RequestDone tag) = codes "RequestDone"
refusal_name (refusals.RequestsOpen count) = codes "RequestsOpen"
refusal_name refusals.Suspended = codes "Suspended"
refusal_name refusals.NotSuspended = codes "NotSuspended"
refusal_name refusals.DifferentKey = codes "DifferentKey"
refusal_name (refusals.BadPlace place media) = codes "BadPlace"
refusal_name refusals.NotAuthenticated = codes "NotAuthenticated"
refusal_name (refusals.BadPlaceFile word length) = codes "BadPlaceFile"

-- a field after a space
unfoldable pub field : List ℕ → List ℕ
field text = 32 ∷ text

unfoldable pub decimal_fields : List ℕ → List ℕ
decimal_fields numbers = concat (map (λ number. field (decimal number)) numbers)

-- the fields of a refusal in order: the numbers that it carries, and for `Usage` the reason after its number
abbrev pub refusal_fields : Refusal → List ℕ
refusal_fields (refusals.Usage word reason) = decimal_fields (word ∷ []) ++ field (reason_name reason)
refusal_fields refusals.UnknownProvider = []
refusal_fields refusals.NotAttached = []
refusal_fields refusals.StillAttached = []
refusal_fields refusals.BadMagic = []
refusal_fields (refusals.BadVersion found) = decimal_fields (found ∷ [])
refusal_fields refusals.BadHash = []
refusal_fields (refusals.BadSize kept found) = decimal_fields (kept ∷ found ∷ [])
refusal_fields (refusals.UnsupportedCipher found) = decimal_fields (found ∷ [])
refusal_fields (refusals.UnsupportedAuth found) = decimal_fields (found ∷ [])
refusal_fields (refusals.BadKeyLength found) = decimal_fields (found ∷ [])
refusal_fields (refusals.BadSectorSize found) = decimal_fields (found ∷ [])
refusal_fields (refusals.UnsupportedFlags mask) = decimal_fields (mask ∷ [])
refusal_fields refusals.NoValidKeys = []
refusal_fields refusals.WrongKey = []
refusal_fields refusals.NoKeyComponents = []
refusal_fields refusals.PassphraseNotSet = []
refusal_fields (refusals.KeyNumberOutOfRange given) = decimal_fields (given ∷ [])
refusal_fields (refusals.KeyNotSet slot) = decimal_fields (slot ∷ [])
refusal_fields (refusals.LastKey slot) = decimal_fields (slot ∷ [])
refusal_fields refusals.IterationsNeedOneKey = []
refusal_fields refusals.PassphraseNeeded = []
refusal_fields (refusals.OutOfRange sector count media) = decimal_fields (sector ∷ count ∷ media ∷ [])
refusal_fields refusals.ReadOnly = []
refusal_fields (refusals.Integrity offset) = decimal_fields (offset ∷ [])
refusal_fields refusals.DeviceFault = []
refusal_fields (refusals.FileAbsent word) = decimal_fields (word ∷ [])
refusal_fields (refusals.CabinetFault word) = decimal_fields (word ∷ [])
refusal_fields refusals.EntropyFault = []
refusal_fields (refusals.FileTooLong word limit) = decimal_fields (word ∷ limit ∷ [])
refusal_fields (refusals.BackupTooShort length) = decimal_fields (length ∷ [])
refusal_fields (refusals.OldSizeMismatch kept given) = decimal_fields (kept ∷ given ∷ [])
refusal_fields refusals.NoMemory = []
refusal_fields (refusals.NotGrown size given) = decimal_fields (size ∷ given ∷ [])
refusal_fields (refusals.TooSmall size) = decimal_fields (size ∷ [])
refusal_fields (refusals.BadLength given sectorsize) = decimal_fields (given ∷ sectorsize ∷ [])
refusal_fields refusals.KeyNumberNeeded = []
refusal_fields refusals.QueueFull = []
refusal_fields (refusals.NoRequest tag) = decimal_fields (tag ∷ [])
refusal_fields (refusals.RequestNotDone tag left) = decimal_fields (tag ∷ left ∷ [])
refusal_fields (refusals.RequestDone tag) = decimal_fields (tag ∷ [])
refusal_fields (refusals.RequestsOpen count) = decimal_fields (count ∷ [])
refusal_fields refusals.Suspended = []
refusal_fields refusals.NotSuspended = []
refusal_fields refusals.DifferentKey = []
refusal_fields (refusals.BadPlace place media) = decimal_fields (place ∷ media ∷ [])
refusal_fields refusals.NotAuthenticated = []
refusal_fields (refusals.BadPlaceFile word length) = decimal_fields (word ∷ length ∷ [])

-- the text of the fields that the code takes from a refusal
abbrev pub fields_text : Fields → List ℕ
fields_text fields.Nothing = []
fields_text (fields.One a) = decimal_fields (a ∷ [])
fields_text (fields.Two a b) = decimal_fields (a ∷ b ∷ [])
fields_text (fields.Three a b c) = decimal_fields (a ∷ b ∷ c ∷ [])
fields_text (fields.Usage word reason) = decimal_fields (word ∷ []) ++ field (reason_name reason)

-- `error `, the number and the name
abbrev pub refusal_head : Refusal → List ℕ
refusal_head r = codes "error " ++ decimal (number_of r) ++ field (refusal_name r)

-- the head, the fields and a newline
abbrev pub refusal_text : Refusal → List ℕ
refusal_text r = refusal_head r ++ refusal_fields r ++ (10 ∷ [])

-- the version, the flags, and the algorithms
abbrev pub format_lines : Metadata → List ℕ
format_lines m =
    line (codes "version: ") (decimal m.version)
    ++ line (codes "flags: 0x") (digits 16 false m.flags)
    ++ line (codes "ealgo: ") (decimal m.ealgo)
    ++ line (codes "keylen: ") (decimal m.keylen)
    ++ line (codes "aalgo: ") (decimal m.aalgo)

-- the sizes, and which slots are set
abbrev pub size_lines : Metadata → List ℕ
size_lines m =
    line (codes "provsize: ") (decimal m.provsize)
    ++ line (codes "sectorsize: ") (decimal m.sectorsize)
    ++ line (codes "keys: 0x") (digits 16 false m.keys)

-- the iterations, the salt and the slots
abbrev pub key_lines : Metadata → List ℕ
key_lines m =
    line (codes "iterations: ") (signed_decimal m.iterations)
    ++ line (codes "salt: ") (encode_lower m.salt)
    ++ line (codes "mkeys: ") (encode_lower m.mkeys)

-- eleven lines, one for each field of the metadata in front of its MD5, and `ok`
abbrev pub dump_text : Metadata → List ℕ
dump_text m = format_lines m ++ size_lines m ++ key_lines m ++ codes "ok\n"

-- `ok `, bytes in lower-case hexadecimal, and a newline
abbrev pub bytes_text : List ℕ → List ℕ
bytes_text bytes = codes "ok " ++ encode_lower bytes ++ (10 ∷ [])

-- the bytes of a logical sector, and how many logical sectors there are
abbrev pub sizes_of : Row → List ℕ
sizes_of row = decimal_fields (row.sectorsize ∷ row.sectors ∷ [])

-- what a drawer is: suspended or attached, with its sizes, or idle
abbrev pub row_state : Row → List ℕ
row_state row =
    if row.suspended then codes " suspended" ++ sizes_of row else (if row.attached then codes " attached" ++ sizes_of row else codes " idle")

-- the name, the state and a newline
abbrev pub row_text : Row → List ℕ
row_text row = row.name ++ row_state row ++ (10 ∷ [])

unfoldable pub row_lines : List Row → List ℕ
row_lines rows = concat (map row_text rows)

-- a line for each drawer, and `ok`
abbrev pub list_text : List Row → List ℕ
list_text rows = row_lines rows ++ codes "ok\n"

-- so many numbers at the front of some bytes, each of eight bytes, the least significant byte first
unfoldable pub numbers_in : ℕ → List ℕ → List ℕ
numbers_in zero bytes = []
numbers_in (suc count) bytes = from_le_bytes w64 (take 8 bytes) ∷ numbers_in count (drop 8 bytes)

-- a word, numbers and a newline
abbrev pub numbers_line : List ℕ → List ℕ → List ℕ
numbers_line word numbers = word ++ decimal_fields numbers ++ (10 ∷ [])

-- a line for a unit that fails, at this byte offset
abbrev pub bad_line : ℕ → List ℕ
bad_line offset = numbers_line (codes "bad") (offset ∷ [])

unfoldable pub bad_lines : List ℕ → List ℕ
bad_lines offsets = concat (map bad_line offsets)

-- a line for each unit that fails, and `ok` with the place where the next sweep begins and how many units fail
abbrev pub verified_text : List ℕ → ℕ → ℕ → List ℕ
verified_text offsets next bad = bad_lines offsets ++ numbers_line (codes "ok") (next ∷ bad ∷ [])

-- the bytes of a reply, or the numbers that a sweep lists, fit into a payload of so many bytes
abbrev pub FitsPayload : ℕ → Reply → Type 0
FitsPayload len (Payload count) = count ≤ len
FitsPayload len (Verified bad next) = 8 * bad ≤ len
FitsPayload len _ = Unit {0}

-- the text of a reply, whose bytes are the first bytes of the payload
abbrev pub reply_text : Reply → List ℕ → List ℕ
reply_text Done payload = codes "ok\n"
reply_text (Payload count) payload = bytes_text (take count payload)
reply_text (Digest digest) payload = bytes_text digest
reply_text (Rows rows) payload = list_text rows
reply_text (Dump meta) payload = dump_text meta
reply_text (Tag tag) payload = numbers_line (codes "ok") (tag ∷ [])
reply_text (Left left) payload = numbers_line (codes "ok") (left ∷ [])
reply_text (Verified bad next) payload = verified_text (numbers_in bad payload) next bad
reply_text (Refused refusal) payload = refusal_text refusal
