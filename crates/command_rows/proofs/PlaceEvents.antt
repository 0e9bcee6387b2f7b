-- The events of `backup`, `restore`, `resize` and `kill`.
use Rattle.block_traits.specs.declared.disk.Event.TheVariants.{Flush, Write}
use Rattle.std.proofs.Common.{List, [], ap, ℕ, ◌-◌, ◌∷◌, ◌≡◌}
use Rattle.command_rows.specs.Rows.{StoresBytes}
use Rattle.command_rows.specs.Vocabulary.{DiskState, Metadata, Span, encoded, replace_events}
use Rattle.command_rows.proofs.Events.{Quiet, same_disk}

-- ---- `backup`

pub quiet_storing : (line : List ℕ) (file : Span) (bytes : List ℕ) → Quiet (StoresBytes line file bytes)
quiet_storing line file bytes old answer new h = same_disk old.disk new.disk h.disk

-- ---- `restore`

pub same_replacing : (disk start : DiskState) (m : Metadata) → disk.size ≡ start.size → replace_events disk m ≡ replace_events start m
same_replacing disk start m size = ap (λ (n : ℕ). Flush ∷ Write (n - 1) (encoded m) ∷ Flush ∷ []) size
