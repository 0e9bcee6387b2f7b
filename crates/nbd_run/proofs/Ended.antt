-- What a session leaves in the file of the image that was opened.
use Rattle.std.proofs.Common.{◌≡◌, ◌∙◌, Result, Ok, Err, Option, Some, None, List, []}
use Rattle.std.specs.Prelude.{IfSome}
use Rattle.block_traits.proofs.Logs.{logged-none}
use Rattle.block_traits.specs.Content.{Content}
use Rattle.block_traits.specs.Disk.{DiskState, Logs}
use Rattle.block_traits.specs.Streams.{SinkState, SourceState}
use Rattle.block_traits.specs.declared.disk.Disk.{Ghosts}
use Rattle.block_traits.specs.declared.disk.DiskFailed.{DiskFailed}
use Rattle.command_rows.specs.Vocabulary.{IsKeying}
use Rattle.file_edge.specs.FileDisk as file
use Rattle.file_edge.specs.Told.{Told}
use Rattle.file_edge.specs.declared.file_disk.FileDisk.{FileDisk}
use Rattle.image_layers.proofs.Covered.{tells_files}
use Rattle.image_layers.specs.Images.{IfFilesTell, TellsImage, image_disk_state}
use Rattle.image_layers.specs.declared.image_disks.ImageDisk.{ImageDisk}
use Rattle.nbd_session.proofs.Durable.{session-survives}
use Rattle.nbd_session.proofs.Lasting.{closed_survives}
use Rattle.nbd_session.specs.Requests.{Exchange, Side, ServesExchanges}
use Rattle.nbd_session.specs.Session.{FlushesLast}
use Rattle.nbd_run.specs.Program.{EndsWith, EnduresBy, EnduresSession}
use Rattle.nbd_run.specs.declared.status.Status.{Status}

by_flush : (flushed : Result (Unit {0}) DiskFailed) (side : Side) (xs : List Exchange) (old last new : DiskState) (c : Content) → IsKeying side.keying → old.content ≡ Some c
    → ServesExchanges side xs old last → FlushesLast flushed last new → EnduresBy flushed side.keying xs c last new
by_flush (Ok done) side xs old last new c is told served closed = closed_survives side xs old last new c is told served closed
by_flush (Err failed) side xs old last new c is told served closed = session-survives side xs old last c is told served

where_told : (told : Option Content) (side : Side) (source rest : SourceState) (sink after log logged : SinkState) (status : Status) (old new : DiskState) → IsKeying side.keying → old.content ≡ told
    → (e : EndsWith side source rest sink after log logged status old new) → IfSome told (EnduresSession side source rest sink after log logged status old new e)
where_told None side source rest sink after log logged status old new is told e = tt
where_told (Some c) side source rest sink after log logged status old new is told e =
    by_flush e.flushed side e.session.talks.talk.exchanges old e.session.last new c is told e.session.talks.served e.session.closed

-- what the files reported when they were opened is what the disk reported when it was attached
pub endures : {F : Type 0} {g : Ghosts (FileDisk F)} (told : F → Option Told) (same : (d : FileDisk F) → (g.state d).content ≡ (file.file_disk_state told d).content)
    (disk : ImageDisk F g) (side : Side) (source rest : SourceState) (sink after log logged : SinkState) (status : Status) (old new : DiskState) → IsKeying side.keying → TellsImage told disk → Logs [] (image_disk_state disk) old
    → (e : EndsWith side source rest sink after log logged status old new) → IfFilesTell told disk (EnduresSession side source rest sink after log logged status old new e)
endures told same disk side source rest sink after log logged status old new is tells quiet e =
    where_told _ side source rest sink after log logged status old new is (quiet.content ∙ logged-none (image_disk_state disk).content ∙ tells_files told same disk tells) e
