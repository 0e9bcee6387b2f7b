-- What rows and verbs are made of, passed on from one place.
pub use Rattle.reply_text.specs.Answer.{Answer, answer_of, answer_text}
pub use Rattle.command_rows.specs.Asks.{Asks, AsksBytesAtOnce, AsksForNone, AsksNothing, AsksSectorsFrom, AsksToOpen, AsksToRead, AsksToReap, AsksToStep, AsksToWrite, Counted, FaultOf, HasReadFault, QueueRefuses, Ranged, Sectors, Spelled}
pub use Rattle.command_rows.specs.Digits.{SpellsBytes, bytes_spelled, decoded}
pub use Rattle.command_rows.specs.Findings.{AreComponents, FindsMetadata, HasMetadata, HoldsNone, IsFile, IsReadAs, LacksMetadata, LacksRoom, NamesFile, NamesParts, RefusesFile, RefusesFiles, ShowsMetadata, ShowsMetadataAt, WritesMetadata}
pub use Rattle.command_rows.specs.Queueing.{HasRequest, NeedsRequest, with_queue}
pub use Rattle.command_rows.specs.Replies.{Replies, digest_or, done_or, dump_or, left_or, payload_or, reaped_or, tag_or}
pub use Rattle.command_rows.specs.Requests.{bytes_given, bytes_read, read_answer, read_refusal, write_refusal}
pub use Rattle.command_rows.specs.Steps.{Admits, Attaches, BacksUp, Decides, DecidesBySize, Detaches, DeviceSectorAnswer, Does, DoesEvents, GoesOn, KeepsOutside, LoadsComponents, LoadsFile, MakesProvider, NeedsSectors, NeedsWhole, NeedsWritable, Reads, ReadsDeviceSector, ReadsDisk, ReadsLastSector, ReadsSectors, SectorsAnswer, StoreAnswers, StoresBytes, StoresFile, Then, TriesKey, WritesSectors, admitted, attachment_by, if_writable, in_range, or_refusal, or_wrong_key, settings_for_size, store_refusal, tried, unless_faulty, whole_sectors, without_value}
pub use Rattle.command_rows.specs.Trying.{TryRow}
pub use Rattle.command_rows.specs.Verb.{NoBadFile, NoChanges, NoEvents, NoGround, OfOther, OfRead, OfReap, OfResume, OfSum, OfSweep, OneFlush, Places, PlacesBytes, PlacesGenerated, PlacesNoMore, PlacesNothing, PlacesRequest, PlacesUnit, RunKind, Verb, asks_nothing, no_row, places_nothing}
pub use Rattle.command_rows.specs.World.{AttachedWith, Attachment, DrawerState, HoldKeyings, Holding, HoldsKeying, Idle, IsAmong, IsAttached, IsSuspended, Kept, NamesDiffer, Reach, SuspendedWith, World, attachment_in, is_idle, kept_in, place_of, reach_of}
