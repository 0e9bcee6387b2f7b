-- That the last sector holds what it held or the new metadata, whenever power fails.
use Rattle.std.proofs.Common.{[], ◌∷◌, refl, arith, All}
use Rattle.std.proofs.lemmas.List.Elements.{All-nil, All-cons}
use Rattle.block_traits.specs.Disk.{DiskState, FailsIn, Logs, last_sector, store_events}
use Rattle.block_traits.specs.Moments.{HoldsOldOr, KeepsAlone, KeepsOldOr}
use Rattle.block_traits.specs.declared.disk.Event.{Event}
use Rattle.block_traits.specs.declared.disk.Event.TheVariants.{Write, Flush}
use Rattle.block_traits.proofs.Keeping.{AtEachMoment-Logs, AtEachMoment-FailsIn, HoldsOldOr-more, WritesHere}
use Rattle.block_traits.proofs.Overwritten.{KeepsAlone-overwrite, KeepsOldOr-overwrite, KeepsOldOr-overwrite_part}
use Rattle.eli_metadata.specs.Format.{encoded}
use Rattle.eli_metadata.specs.Place.{IsSectorOf, replace_events}
use Rattle.eli_metadata.specs.declared.metadata.Metadata.{Metadata}

only_new : (disk : DiskState) (m : Metadata) → All (WritesHere (IsSectorOf m) (last_sector disk)) (replace_events disk m)
only_new disk m =
    let P = WritesHere (IsSectorOf m) (last_sector disk) in
    let write : Event = Write (last_sector disk) (encoded m) in
    All-cons P Flush (write ∷ Flush ∷ []) tt (All-cons P write (Flush ∷ []) (λ here. refl) (All-cons P Flush [] tt (All-nil P)))

pub KeepsOldOr-replace : (disk disk' : DiskState) (m : Metadata) → Logs (replace_events disk m) disk disk' → KeepsOldOr (IsSectorOf m) (last_sector disk) disk.content disk'.content
KeepsOldOr-replace disk disk' m logs =
    AtEachMoment-Logs (HoldsOldOr (IsSectorOf m) (last_sector disk)) (replace_events disk m) disk disk'
    (λ c k told. HoldsOldOr-more (IsSectorOf m) (last_sector disk) (replace_events disk m) (only_new disk m) c k) logs

pub KeepsOldOr-replace_part : (disk disk' : DiskState) (m : Metadata) → FailsIn (replace_events disk m) disk disk' → KeepsOldOr (IsSectorOf m) (last_sector disk) disk.content disk'.content
KeepsOldOr-replace_part disk disk' m fails =
    AtEachMoment-FailsIn (HoldsOldOr (IsSectorOf m) (last_sector disk)) (replace_events disk m) disk disk'
    (λ c k told. HoldsOldOr-more (IsSectorOf m) (last_sector disk) (replace_events disk m) (only_new disk m) c k) fails

-- a store, which writes and flushes, keeps what was there or leaves the new metadata

All-one : (m : Metadata) → All (IsSectorOf m) (encoded m ∷ [])
All-one m = All-cons (IsSectorOf m) (encoded m) [] refl (All-nil (IsSectorOf m))

pub KeepsOldOr-store : (disk disk' : DiskState) (m : Metadata) → Logs (store_events disk (encoded m)) disk disk' → KeepsOldOr (IsSectorOf m) (last_sector disk) disk.content disk'.content
KeepsOldOr-store disk disk' m logs = KeepsOldOr-overwrite (IsSectorOf m) (last_sector disk) (encoded m ∷ []) disk disk' (All-one m) logs

pub KeepsOldOr-store_part : (disk disk' : DiskState) (m : Metadata) → FailsIn (store_events disk (encoded m)) disk disk' → KeepsOldOr (IsSectorOf m) (last_sector disk) disk.content disk'.content
KeepsOldOr-store_part disk disk' m fails = KeepsOldOr-overwrite_part (IsSectorOf m) (last_sector disk) (encoded m ∷ []) disk disk' (All-one m) fails

pub KeepsAlone-store : (disk disk' : DiskState) (m : Metadata) → Logs (store_events disk (encoded m)) disk disk' → KeepsAlone (encoded m) (last_sector disk) disk'.content
KeepsAlone-store disk disk' m logs = KeepsAlone-overwrite (last_sector disk) (encoded m ∷ []) disk.content disk'.content (omega arith) logs.content
