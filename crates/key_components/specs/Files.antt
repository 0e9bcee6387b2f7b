-- The files that the options of a key name, and what is wrong with them (geli(8), the options -J, -j, -K and -k).
use Rattle.std.specs.Prelude.{ℕ, ◌+◌, nat_lt, List, [], ◌∷◌, length, map, flat_map, Option, None, Some, unwrap_or, if◌then◌else◌}
use Rattle.std.specs.Option.{option_or}
use Rattle.block_traits.specs.Cabinet.{Files}
use Rattle.command_words.specs.Places.{bytes_at}
use Rattle.command_words.specs.declared.spans.Span.{Span}
use Rattle.eli_base.specs.declared.refusals.Refusal.{Refusal}
use Rattle.eli_base.specs.declared.refusals.Refusal.TheVariants.{FileAbsent, FileTooLong}
use Rattle.user_key.specs.Passphrase.{first_line}

-- the most bytes of a file, and of all key files of one option together
abbrev pub file_limit : ℕ
file_limit = 1048576

-- the most bytes of a passphrase
abbrev pub passphrase_limit : ℕ
passphrase_limit = 1024

-- how the files of an option are taken: what counts of a file, and what is wrong with the file that a word names, after
-- so many bytes of the files before it
pub record Taking : Type 0 where
  pub piece : List ℕ → List ℕ
  pub fault : ℕ → ℕ → Option (List ℕ) → Option Refusal

-- what is wrong with a key file: key files together may be no longer than one file may be
abbrev pub key_file_fault : ℕ → ℕ → Option (List ℕ) → Option Refusal
key_file_fault word used None = Some (FileAbsent word)
key_file_fault word used (Some file) = if nat_lt file_limit (used + length file) then Some (FileTooLong word file_limit) else None

-- what is wrong with a passphrase file: it may be no longer than a file may be, and the first lines together may be no
-- longer than a passphrase
abbrev pub passphrase_fault : ℕ → ℕ → Option (List ℕ) → Option Refusal
passphrase_fault word used None = Some (FileAbsent word)
passphrase_fault word used (Some file) =
    if nat_lt file_limit (length file) then Some (FileTooLong word file_limit)
    else (if nat_lt passphrase_limit (used + length (first_line file)) then Some (FileTooLong word passphrase_limit) else None)

-- a key file counts whole
abbrev pub key_files : Taking
key_files = record { piece = λ file. file; fault = key_file_fault }

-- of a passphrase file only the first line counts
abbrev pub passphrase_files : Taking
passphrase_files = record { piece = first_line; fault = passphrase_fault }

-- the bytes of the file that a span of the line names, if there is one
abbrev pub named_bytes : Files → List ℕ → Span → List ℕ
named_bytes files line span = unwrap_or (files (bytes_at line span)) []

-- what counts of all files, joined in order
abbrev pub joined_files : Taking → Files → List ℕ → List Span → List ℕ
joined_files taking files line spans = flat_map taking.piece (map (named_bytes files line) spans)

-- the first refusal of some files in order, after so many bytes of the files before them
abbrev pub first_fault : Taking → Files → List ℕ → ℕ → List Span → Option Refusal
first_fault taking files line used [] = None
first_fault taking files line used (span ∷ spans) =
    option_or (taking.fault span.word used (files (bytes_at line span)))
    (first_fault taking files line (used + length (taking.piece (named_bytes files line span))) spans)
