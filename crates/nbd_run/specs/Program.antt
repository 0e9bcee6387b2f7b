-- What becomes of the image that words name, and of a client.
use Rattle.std.specs.Prelude.{◌≡◌, ◌⊎◌, ℕ, List, [], ◌∷◌, Bool, length, not, replicate, Option, Result, Ok, Err, is_ok}
use Rattle.block_traits.specs.Cabinet.{CabinetState}
use Rattle.block_traits.specs.Content.{Content}
use Rattle.block_traits.specs.Disk.{DiskState}
use Rattle.block_traits.specs.Streams.{EntropyState, SinkState, SourceState, TookAll, TookPart}
use Rattle.block_traits.specs.declared.disk.Disk.{Ghosts}
use Rattle.block_traits.specs.declared.disk.DiskFailed.{DiskFailed}
use Rattle.reply_text.specs.Answer as answers
use Rattle.command_rows.specs.Turn.{Serves}
use Rattle.command_rows.specs.Vocabulary.{IsKeying}
use Rattle.command_rows.specs.World.{Attachment, Idle, IsAttached, Reach, reach_of}
use Rattle.command_words.specs.declared.commands.Command.{Command}
use Rattle.eli_base.specs.Keying.{Keying}
use Rattle.eli_base.specs.declared.refusals.Refusal.{Refusal}
use Rattle.file_edge.specs.Asked.{Asked}
use Rattle.file_edge.specs.FileCabinet.{new_cabinet}
use Rattle.file_edge.specs.Names.{IsRandom}
use Rattle.file_edge.specs.RandomFile.{left_in, new_entropy}
use Rattle.file_edge.specs.declared.file_disk.FileDisk.{FileDisk}
use Rattle.file_edge.specs.declared.found.FileId.{FileId}
use Rattle.file_edge.specs.declared.image_file.ImageFile as image_file
use Rattle.file_edge.specs.declared.opener.Opener as opener
use Rattle.file_edge.specs.declared.random_file.RandomFile.{RandomFile}
use Rattle.image_layers.specs.Images.{AsksPart, IfFilesTell, OpensNamed, TellsImage, image_disk_state}
use Rattle.image_layers.specs.InFiles.{AreCovered}
use Rattle.image_layers.specs.declared.image_disks.ImageDisk.{ImageDisk}
use Rattle.nbd_negotiation.specs.declared.streams.End.{End}
use Rattle.nbd_session.specs.Denials.{some_denied}
use Rattle.nbd_session.specs.Durable.{Survives}
use Rattle.nbd_session.specs.Lasting.{SurvivesClosed}
use Rattle.nbd_session.specs.Requests.{Exchange, Side}
use Rattle.nbd_session.specs.Session.{HasSession}
use Rattle.nbd_session.specs.declared.denials.Denials.{Denials}
use Rattle.reply_text.specs.Text.{refusal_text}
use Rattle.nbd_run.specs.Ending.{IsToldBy}
use Rattle.nbd_run.specs.Status.{session_status}
use Rattle.nbd_run.specs.Words.{AsksForNothing, AsksToAttach, attaches_readonly, help_text, usage_line, version_text, wish_of}
use Rattle.nbd_run.specs.declared.serving.Rooms.{Rooms}
use Rattle.nbd_run.specs.declared.status.Status.{Status}
use Rattle.nbd_run.specs.declared.status.Status.TheVariants.{Done, SomeRefused, BadWords, WriteFault, NoMemory}
use Rattle.nbd_run.specs.declared.words.Wish.{Wish}
use Rattle.nbd_run.specs.declared.words.Wish.TheVariants.{Help, Version, Other}

-- ---- streams

-- the streams of a run: of the client, and the log
pub record Streams : Type 0 where
  pub source : SourceState
  pub sink : SinkState
  pub log : SinkState

abbrev pub streams : SourceState → SinkState → SinkState → Streams
streams source sink log = record { source = source; sink = sink; log = log }

-- the log took a text, or its first bytes if it failed; the client's streams are as they were
pub record IsLogged (text : List ℕ) (old new : Streams) : Type 0 where
  pub log : TookAll text old.log new.log ⊎ TookPart text old.log new.log
  pub source : new.source ≡ old.source
  pub sink : new.sink ≡ old.sink

-- the client was given a text, or its first bytes if the sink failed, and the status is by that
abbrev pub PrintsText : List ℕ → SinkState → Status → SinkState → Type 0
PrintsText text old Done new = TookAll text old new
PrintsText text old WriteFault new = TookPart text old new
PrintsText text old status new = ⊥

-- a text was printed for the client, and nothing else was done with the streams
pub record IsPrinted (text : List ℕ) (old : Streams) (status : Status) (new : Streams) : Type 0 where
  pub prints : PrintsText text old.sink status new.sink
  pub source : new.source ≡ old.source
  pub log : new.log ≡ old.log

-- ---- if nothing was opened

module _ {O : Type 0} (log_of : O → Option (List Asked)) (words : List (List ℕ)) where
  -- the words aren't those of `geli attach`, and the usage line is printed to the log
  pub record RefusesWords (opener : O) (old : Streams) (status : Status) (left : O) (new : Streams) : Type 0 where
    pub nothing : AsksForNothing words
    pub status_is : status ≡ BadWords
    pub logged : IsLogged usage_line old new
    pub opener_is : left ≡ opener

  -- there was no memory: nothing was asked of the opener, or the first of the files of the image that the words name
  pub record AsksFirstOfImage (opener left : O) : Type 0 where
    pub name : List ℕ
    pub line : List ℕ
    pub command : Command
    pub asks : AsksToAttach words name line command
    pub asked : AsksPart log_of (not (attaches_readonly command)) name opener left

  pub record LacksMemory (opener : O) (old : Streams) (status : Status) (left : O) (new : Streams) : Type 0 where
    pub status_is : status ≡ NoMemory
    pub streams_are : new ≡ old
    pub asked : (left ≡ opener) ⊎ AsksFirstOfImage opener left

  -- what becomes of a run that opens nothing, by what the words ask for
  abbrev pub ServesNothing : Wish → O → Streams → Status → O → Streams → Type 0
  ServesNothing Help opener old status left new = IsPrinted help_text old status new × (left ≡ opener)
  ServesNothing Version opener old status left new = IsPrinted version_text old status new × (left ≡ opener)
  ServesNothing Other opener old status left new = RefusesWords opener old status left new ⊎ LacksMemory opener old status left new

-- ---- an attached provider

-- A session was had with a provider on a disk, and the status and the log say how it ended.
pub record EndsWith (side : Side) (source rest : SourceState) (sink after log logged : SinkState) (status : Status) (old new : DiskState) : Type 0 where
  pub end : End
  pub denied : Denials
  pub flushed : Result (Unit {0}) DiskFailed
  pub session : HasSession side end denied source rest sink after flushed old new
  pub told : IsToldBy (some_denied denied) (is_ok flushed) denied log logged
  pub status_is : status ≡ session_status end (some_denied denied) (is_ok flushed)

-- what the exchanges did endures crashes; if the last flush was made, all that was acknowledged lasts
abbrev pub EnduresBy : Result (Unit {0}) DiskFailed → Keying → List Exchange → Content → DiskState → DiskState → Type 0
EnduresBy (Ok done) k xs c last new = SurvivesClosed k xs c last new
EnduresBy (Err failed) k xs c last new = Survives k xs c last

abbrev pub EnduresSession : (side : Side) (source rest : SourceState) (sink after log logged : SinkState) (status : Status) (old new : DiskState)
    → EndsWith side source rest sink after log logged status old new → Content → Type 0
EnduresSession side source rest sink after log logged status old new e c =
    EnduresBy e.flushed side.keying e.session.talks.talk.exchanges c e.session.last new

-- an attached provider as a client sees it
abbrev pub side_in : Attachment → Side
side_in a = record { keying = a.keying; readonly = a.readonly }

-- what is left of a run: what the disk reports of itself, the cabinet, and the entropy
pub record Remains : Type 0 where
  pub disk : DiskState
  pub cabinet : CabinetState
  pub entropy : EntropyState

abbrev pub remains : DiskState → CabinetState → EntropyState → Remains
remains disk cabinet entropy = record { disk = disk; cabinet = cabinet; entropy = entropy }

module _ (line : List ℕ) (command : Command) (start : Reach) where
  -- geli's row of `attach` refused it: the refusal is in the log, nothing was taken of the client or given to it
  pub record RefusesToAttach (old : Streams) (status : Status) (left : Remains) (new : Streams) : Type 0 where
    pub refusal : Refusal
    pub row : Serves line command start (answers.Refused refusal) (reach_of left.disk Idle left.cabinet left.entropy)
    pub logged : IsLogged (refusal_text refusal) old new
    pub status_is : status ≡ SomeRefused

  -- the row attached it, and a client was served by what is attached
  pub record ServesAttached (old : Streams) (status : Status) (left : Remains) (new : Streams) : Type 0 where
    pub attachment : Attachment
    pub middle : DiskState
    pub row : Serves line command start answers.Done (reach_of middle (IsAttached attachment) left.cabinet left.entropy)
    pub keying : IsKeying attachment.keying
    pub ends : EndsWith (side_in attachment) old.source new.source old.sink new.sink old.log new.log status middle left.disk

  -- what became of an idle disk
  abbrev pub ServesDisk : Streams → Status → Remains → Streams → Type 0
  ServesDisk old status left new = RefusesToAttach old status left new ⊎ ServesAttached old status left new

-- ---- the rooms

-- all bytes of the rooms are zeros
abbrev pub AreWiped : Rooms → Type 0
AreWiped rooms =
    (rooms.buffer.items ≡ replicate (length rooms.buffer.items) 0) × (rooms.room.items ≡ replicate (length rooms.room.items) 0)
    × (rooms.edge.items ≡ replicate (length rooms.edge.items) 0)

-- ---- the run

module _ {O F : Type 0} (g : Ghosts (FileDisk F)) (o : opener.Ghosts O F) (f : image_file.Ghosts F) where
  -- The words are those of `geli attach` for one image. That was opened, to be changed unless it attaches read-only,
  -- and then the random bytes; nothing else was asked. The disk reports what its files report.
  pub record OpensAsked (words : List (List ℕ)) (opener : O) : Type 0 where
    pub name : List ℕ
    pub line : List ℕ
    pub command : Command
    pub asks : AsksToAttach words name line command
    pub disk : ImageDisk F g
    pub files : List FileId
    pub random : RandomFile F
    pub opened : O
    pub opens : OpensNamed o f (not (attaches_readonly command)) (name ∷ []) (disk ∷ []) files random opener opened
    pub telling : TellsImage f.told disk
    pub device : IsRandom (o.told opener) (left_in f.left random.device)

  -- what attaching begins with: the disk, idle, the files that were reported beside it, and the random bytes that were
  -- reported, before anything was asked of them
  abbrev pub begins : {words : List (List ℕ)} {opener : O} → OpensAsked words opener → Reach
  begins {words} {opener} h = reach_of (image_disk_state h.disk) Idle (new_cabinet h.files (o.told opener)) (new_entropy (left_in f.left h.random.device))

  -- A client was served. If the disk was opened on files that reported their content then, what it reports grew by just
  -- the events of what the client asked for, and endures crashes. `covered`: what a crash leaves of the files is what it
  -- may leave of that.
  pub record ServesInFile {words : List (List ℕ)} {opener : O} (h : OpensAsked words opener) (old : Streams) (status : Status) (left : Remains) (new : Streams) : Type 0 where
    pub served : ServesAttached h.line h.command (begins h) old status left new
    pub endures : IfFilesTell f.told h.disk (EnduresSession (side_in served.attachment) old.source new.source old.sink new.sink old.log new.log status served.middle left.disk served.ends)
    pub covered : AreCovered g f.told left.disk

  -- An image was opened, and its provider wasn't attached, or was and was served.
  pub record ServesImage (words : List (List ℕ)) (opener : O) (old : Streams) (status : Status) (left : Remains) (new : Streams) : Type 0 where
    pub wish : wish_of words ≡ Other
    pub opens : OpensAsked words opener
    pub outcome : RefusesToAttach opens.line opens.command (begins opens) old status left new ⊎ ServesInFile opens old status left new
