-- `flush`: what was written is made to last.
use Rattle.std.specs.Prelude.{None, Result, [], ◌∷◌}
use Rattle.block_traits.specs.declared.disk.Event.TheVariants.{Flush}
use Rattle.command_rows.specs.Rows.{Does, NoBadFile, NoChanges, NoGround, OfOther, OneFlush, Reach, Replies, Verb, asks_nothing, done_or, places_nothing}
use Rattle.command_rows.specs.Vocabulary.{Refusal, Span}

-- `flush`, of an attached drawer
abbrev pub FlushRow : Reach → Result (Unit {0}) Refusal → Reach → Type 0
FlushRow old answer new = Does (Flush ∷ []) old answer new

-- the verb
abbrev pub flush_verb : Span → Verb
flush_verb prov = record {
  goes_through = λ line old reply new. Replies done_or FlushRow old reply new;
  fits = λ line old. Unit {0};
  grounds = NoGround;
  bad_file = NoBadFile;
  events = OneFlush;
  changes = NoChanges;
  stored_file = None;
  asks = asks_nothing;
  places = places_nothing;
  kind = OfOther;
}
