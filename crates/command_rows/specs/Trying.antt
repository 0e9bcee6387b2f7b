-- A key is tried on the provider of a disk (geli(8), "attach").
use Rattle.std.specs.Prelude.{ℕ, Bool, List, Option, Result}
use Rattle.command_rows.specs.Steps.{Admits, LoadsComponents, ReadsLastSector, Then, TriesKey}
use Rattle.command_rows.specs.Vocabulary.{KeyWords, Refusal}
use Rattle.command_rows.specs.World.{Attachment, Reach}

-- the metadata are read and admitted, the files are loaded, and the key is tried
abbrev pub TryRow : List ℕ → Option ℕ → Bool → KeyWords → Reach → Result Attachment Refusal → Reach → Type 0
TryRow line slot readonly words old answer new =
    Then ReadsLastSector
    (λ m. Then (Admits m slot)
    (λ settings. Then (LoadsComponents line words)
    (λ parts. TriesKey m settings slot readonly parts))) old answer new
