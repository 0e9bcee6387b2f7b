-- `attach`: a key is tried, and the provider is attached (geli(8)).
use Rattle.std.specs.Prelude.{Bool, Err, List, None, Ok, Option, Result, false, true, ℕ, ◌≡◌, ◌⊎◌}
use Rattle.command_rows.specs.Rows.{AreComponents, Attaches, Attachment, Decides, HasMetadata, LacksMetadata, NamesParts, NoChanges, NoEvents, OfOther, Reach, RefusesFiles, Replies, ShowsMetadata, Then, TryRow, Verb, admitted, asks_nothing, done_or, places_nothing, tried}
use Rattle.command_rows.specs.Vocabulary.{Components, KeyWords, Metadata, Refusal, Settings, Span, user_key}

-- what follows the trial of a key: nothing with `-C`, else the provider is attached
abbrev pub AttachesUnless : Bool → Attachment → Reach → Result (Unit {0}) Refusal → Reach → Type 0
AttachesUnless true a old answer new = Decides (Ok tt) old answer new
AttachesUnless false a old answer new = Attaches a old answer new

-- `attach`, of an idle drawer
abbrev pub AttachRow : List ℕ → Bool → Bool → Option ℕ → KeyWords → Reach → Result (Unit {0}) Refusal → Reach → Type 0
AttachRow line only_check readonly slot words old answer new =
    Then (TryRow line slot readonly words)
    (λ a. AttachesUnless only_check a) old answer new

-- `attach`: the metadata are admitted, and the key opens a slot that is asked for
pub record FindsKey (line : List ℕ) (slot : Option ℕ) (readonly : Bool) (words : KeyWords) (old : Reach) : Type 0 where
  pub m : Metadata
  pub shows : ShowsMetadata old.disk m
  pub settings : Settings
  pub admits : admitted m old.disk.size slot ≡ Ok settings
  pub parts : Components
  pub names : NamesParts line words old.cabinet parts
  pub a : Attachment
  pub opens : tried m settings slot readonly (user_key parts m.salt m.iterations) ≡ Ok a

-- the key makes no user key, the provider has no sector, or no slot that is asked for opens
pub record RefusesTrial (line : List ℕ) (slot : Option ℕ) (readonly : Bool) (words : KeyWords) (m : Metadata) (old : Reach) (refusal : Refusal) : Type 0 where
  pub settings : Settings
  pub admits : admitted m old.disk.size slot ≡ Ok settings
  pub parts : Components
  pub named : AreComponents old.cabinet.files line words parts
  pub refused : tried m settings slot readonly (user_key parts m.salt m.iterations) ≡ Err refusal

-- the metadata aren't admitted, or the key isn't
pub record RefusesAttach (line : List ℕ) (slot : Option ℕ) (readonly : Bool) (words : KeyWords) (old : Reach) (refusal : Refusal) : Type 0 where
  pub m : Metadata
  pub found : HasMetadata old.disk m
  pub refused : (admitted m old.disk.size slot ≡ Err refusal) ⊎ RefusesTrial line slot readonly words m old refusal

-- the metadata are admitted, and the key opens a slot that is asked for: this would be attached
pub record OpensWith (line : List ℕ) (slot : Option ℕ) (readonly : Bool) (words : KeyWords) (old : Reach) (a : Attachment) : Type 0 where
  pub m : Metadata
  pub found : HasMetadata old.disk m
  pub settings : Settings
  pub admits : admitted m old.disk.size slot ≡ Ok settings
  pub parts : Components
  pub named : AreComponents old.cabinet.files line words parts
  pub opens : tried m settings slot readonly (user_key parts m.salt m.iterations) ≡ Ok a

-- the verb
abbrev pub attach_verb : Span → Bool → Bool → Option ℕ → KeyWords → Verb
attach_verb prov only_check readonly slot words = record {
  goes_through = λ line old reply new. Replies done_or (AttachRow line only_check readonly slot words) old reply new;
  fits = λ line old. FindsKey line slot readonly words old;
  grounds = λ line old refusal. LacksMetadata old.disk refusal ⊎ RefusesAttach line slot readonly words old refusal;
  bad_file = λ line holding old refusal new. RefusesFiles line words old refusal new;
  events = NoEvents;
  changes = NoChanges;
  stored_file = None;
  asks = asks_nothing;
  places = places_nothing;
  kind = OfOther;
}
