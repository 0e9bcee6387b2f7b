-- `dump`: the metadata are read (geli(8)).
use Rattle.std.specs.Prelude.{None, Result}
use Rattle.command_rows.specs.Rows.{FindsMetadata, LacksMetadata, NoBadFile, NoChanges, NoEvents, OfOther, Reach, ReadsLastSector, Replies, Verb, asks_nothing, dump_or, places_nothing}
use Rattle.command_rows.specs.Vocabulary.{Metadata, Refusal, Span}

-- `dump`: the metadata are read
abbrev pub DumpRow : Reach → Result Metadata Refusal → Reach → Type 0
DumpRow old answer new = ReadsLastSector old answer new

-- the verb
abbrev pub dump_verb : Span → Verb
dump_verb prov = record {
  goes_through = λ line old reply new. Replies dump_or DumpRow old reply new;
  fits = λ line old. FindsMetadata old;
  grounds = λ line old refusal. LacksMetadata old.disk refusal;
  bad_file = NoBadFile;
  events = NoEvents;
  changes = NoChanges;
  stored_file = None;
  asks = asks_nothing;
  places = places_nothing;
  kind = OfOther;
}
