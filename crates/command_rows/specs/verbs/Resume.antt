-- `resume`: only a key that opens the master key that it had attaches a suspended provider again (geli(8)).
use Rattle.std.specs.Prelude.{Err, List, None, Ok, Result, if◌then◌else◌, ℕ, ◌≡◌, ◌⊎◌}
use Rattle.std.specs.Str.{bytes_eq}
use Rattle.eli_base.specs.declared.refusals.Refusal.TheVariants as refusals
use Rattle.command_rows.specs.Rows.{Attaches, Attachment, Decides, Kept, LacksMetadata, NoChanges, NoEvents, OfResume, Reach, RefusesFiles, Replies, SuspendedWith, Then, TryRow, Verb, asks_nothing, done_or, places_nothing}
use Rattle.command_rows.specs.Vocabulary.{KeyWords, Refusal, Span, sha256}
use Rattle.command_rows.specs.verbs.Attach.{FindsKey, OpensWith, RefusesAttach}

-- the master key that opened has the digest that was kept
abbrev pub same_key : Kept → Attachment → Result (Unit {0}) Refusal
same_key kept a = if bytes_eq (sha256 a.keying.master) kept.mark then Ok tt else Err refusals.DifferentKey

abbrev pub NeedsSameKey : Kept → Attachment → Reach → Result (Unit {0}) Refusal → Reach → Type 0
NeedsSameKey kept a old answer new = Decides (same_key kept a) old answer new

-- the provider is attached again, if the key is that of the one that was suspended
abbrev pub AttachesAgain : Kept → Attachment → Reach → Result (Unit {0}) Refusal → Reach → Type 0
AttachesAgain kept a old answer new = Then (NeedsSameKey kept a) (λ _. Attaches a) old answer new

-- `resume`, of a suspended drawer: slot 0 is tried, and then slot 1; the provider is read-only if it was so or the
-- metadata say so
abbrev pub ResumeRow : List ℕ → KeyWords → Kept → Reach → Result (Unit {0}) Refusal → Reach → Type 0
ResumeRow line words kept old answer new =
    Then (TryRow line None kept.readonly words)
    (λ a. AttachesAgain kept a) old answer new

-- what `resume` finds if nothing refuses it: a key that opens the suspended provider's metadata (`FindsKey`), to the
-- master key that the provider had
pub record FindsSameKey (line : List ℕ) (words : KeyWords) (old : Reach) (kept : Kept) : Type 0 where
  pub key : FindsKey line None kept.readonly words old
  pub same : same_key kept key.a ≡ Ok tt

-- the key opens another master key than the suspended provider had
pub record OpensOtherMaster (line : List ℕ) (words : KeyWords) (kept : Kept) (old : Reach) (refusal : Refusal) : Type 0 where
  pub a : Attachment
  pub opens : OpensWith line None kept.readonly words old a
  pub refused : same_key kept a ≡ Err refusal

-- the metadata aren't admitted, the key isn't, or it opens another master key
abbrev pub RefusesResume : List ℕ → KeyWords → Kept → Reach → Refusal → Type 0
RefusesResume line words kept old refusal = RefusesAttach line None kept.readonly words old refusal ⊎ OpensOtherMaster line words kept old refusal

-- the verb
abbrev pub resume_verb : Span → KeyWords → Verb
resume_verb prov words = record {
  goes_through = λ line old reply new. SuspendedWith old.holding (λ kept. Replies done_or (ResumeRow line words kept) old reply new);
  fits = λ line old. SuspendedWith old.holding (FindsSameKey line words old);
  grounds = λ line old refusal. LacksMetadata old.disk refusal ⊎ SuspendedWith old.holding (λ kept. RefusesResume line words kept old refusal);
  bad_file = λ line holding old refusal new. RefusesFiles line words old refusal new;
  events = NoEvents;
  changes = NoChanges;
  stored_file = None;
  asks = asks_nothing;
  places = places_nothing;
  kind = OfResume prov words;
}
