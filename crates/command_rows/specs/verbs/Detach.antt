-- `detach`: the drawer becomes idle, even if it was suspended (geli(8)).
use Rattle.std.specs.Prelude.{None, Result}
use Rattle.command_rows.specs.Rows.{Detaches, NoBadFile, NoChanges, NoGround, OfOther, OneFlush, Reach, Replies, Verb, asks_nothing, done_or, places_nothing}
use Rattle.command_rows.specs.Vocabulary.{Refusal, Span}

-- `detach`, of an attached drawer
abbrev pub DetachRow : Reach → Result (Unit {0}) Refusal → Reach → Type 0
DetachRow old answer new = Detaches old answer new

-- the verb
abbrev pub detach_verb : Span → Verb
detach_verb prov = record {
  goes_through = λ line old reply new. Replies done_or DetachRow old reply new;
  fits = λ line old. Unit {0};
  grounds = NoGround;
  bad_file = NoBadFile;
  events = OneFlush;
  changes = NoChanges;
  stored_file = None;
  asks = asks_nothing;
  places = places_nothing;
  kind = OfOther;
}
