-- `backup`: the metadata are stored in a file (geli(8)).
use Rattle.std.specs.Prelude.{Err, List, Ok, Result, Some, if◌then◌else◌, nat_le, ℕ, ◌*◌, ◌-◌}
use Rattle.eli_base.specs.declared.refusals.Refusal.TheVariants as refusals
use Rattle.command_rows.specs.Rows.{Decides, DecidesBySize, FindsMetadata, LacksMetadata, NoBadFile, NoChanges, NoEvents, OfOther, Reach, ReadsDeviceSector, Replies, StoresBytes, Then, Verb, asks_nothing, done_or, or_refusal, places_nothing}
use Rattle.command_rows.specs.Vocabulary.{Refusal, Span, metadata_in, refusal_of}

-- the number of the last device sector, where the metadata stand, of an image that has two
abbrev pub metadata_place : ℕ → Result ℕ Refusal
metadata_place size = if nat_le 2 size then Ok (size - 1) else Err (refusals.TooSmall (512 * size))

-- `backup`: the last device sector is read, and stored in a file as it is, if it has metadata
abbrev pub BackupRow : List ℕ → Span → Reach → Result (Unit {0}) Refusal → Reach → Type 0
BackupRow line file old answer new =
    Then (DecidesBySize metadata_place)
    (λ place. Then (ReadsDeviceSector place)
    (λ bytes. Then (Decides (or_refusal refusal_of (metadata_in bytes)))
    (λ _. StoresBytes line file bytes))) old answer new

-- the verb
abbrev pub backup_verb : Span → Span → Verb
backup_verb prov file = record {
  goes_through = λ line old reply new. Replies done_or (BackupRow line file) old reply new;
  fits = λ line old. FindsMetadata old;
  grounds = λ line old refusal. LacksMetadata old.disk refusal;
  bad_file = NoBadFile;
  events = NoEvents;
  changes = NoChanges;
  stored_file = Some file;
  asks = asks_nothing;
  places = places_nothing;
  kind = OfOther;
}
