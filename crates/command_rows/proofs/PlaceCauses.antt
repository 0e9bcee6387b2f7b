-- Why `backup`, `restore`, `resize` and `kill` are refused.
use Rattle.command_rows.specs.Rows.{LoadsFile, Reach, RefusesFile}
use Rattle.command_rows.specs.Vocabulary.{Refusal, Span, bytes_at, file_answer}
use Rattle.std.proofs.Common.{Err, List, ℕ, ◌≡◌, IfSome}
use Rattle.command_rows.proofs.Grounding.{told_sym}

-- ---- `restore`

-- the one file that a step finds wrong
pub wrong_file : (limit : ℕ) (line : List ℕ) (file : Span) (old : Reach) (refusal : Refusal) (new : Reach) → IfSome old.cabinet.files (λ files. Err refusal ≡ file_answer file.word limit (files (bytes_at line file))) → LoadsFile limit line file old (Err refusal) new
    → RefusesFile limit line file old.cabinet refusal new.cabinet
wrong_file limit line file old refusal new told h =
    record { first = told_sym old.cabinet.files (λ files. file_answer file.word limit (files (bytes_at line file))) (Err refusal) told; named = h.word; cause = h.cause }
