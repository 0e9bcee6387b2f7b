-- `init`: a provider is made, and its metadata are backed up (geli(8)).
use Rattle.std.specs.Prelude.{Bool, IsTrue, List, None, Option, Result, Some, if◌then◌else◌, negsuc, pos, unwrap_or, ℕ, ℤ, ◌≡◌}
use Rattle.eli_base.specs.declared.algorithms.Cipher.{Cipher}
use Rattle.command_rows.specs.Rows.{AreComponents, BacksUp, LoadsComponents, MakesProvider, NamesParts, OfOther, Reach, RefusesFiles, Replies, Then, Verb, WritesMetadata, asks_nothing, done_or, places_nothing}
use Rattle.command_rows.specs.Vocabulary.{Auth, Components, DiskState, Files, InitOptions, IsSectorOf, IsUsable, KeepsAlone, KeepsOldOr, KeyWords, Metadata, Refusal, Span, UserKey, early_refusal, encoded, last_sector}

-- the iterations of a new key: none without a passphrase, else those that are given, or 100,000
abbrev pub iterations_of : KeyWords → Option ℤ → ℤ
iterations_of fresh given = if fresh.without then negsuc 0 else unwrap_or given (pos 100000)

-- `init`, of an idle drawer: the files are loaded, the provider is made, and then the backup is stored
abbrev pub InitRow : List ℕ → InitOptions → KeyWords → Option Span → Reach → Result (Unit {0}) Refusal → Reach → Type 0
InitRow line options fresh backup old answer new =
    Then (LoadsComponents line fresh)
    (λ parts. Then (MakesProvider options parts)
    (λ m. BacksUp line backup m)) old answer new

-- `init`: a provider can be made
pub record FindsNew (line : List ℕ) (options : InitOptions) (fresh : KeyWords) (old : Reach) : Type 0 where
  pub parts : Components
  pub names : NamesParts line fresh old.cabinet parts
  pub served : early_refusal options parts old.disk.size ≡ None

-- the options, the image or the components make no provider
pub record RefusesNew (line : List ℕ) (options : InitOptions) (fresh : KeyWords) (old : Reach) (refusal : Refusal) : Type 0 where
  pub parts : Components
  pub named : AreComponents old.cabinet.files line fresh parts
  pub refused : early_refusal options parts old.disk.size ≡ Some refusal

-- The last sector gets the metadata of a new provider, which the key of the components that its words name opens. At
-- each moment each value that it may hold is one from before or these metadata; once it's done they are the only one.
pub record PutsNew (told : Option Files) (line : List ℕ) (options : InitOptions) (fresh : KeyWords) (old : DiskState) (done : Bool) (new : DiskState) : Type 0 where
  pub parts : Components
  pub named : AreComponents told line fresh parts
  pub m : Metadata
  pub key : UserKey
  pub master : List ℕ
  pub usable : IsUsable options parts old.size m key master
  pub kept : KeepsOldOr (IsSectorOf m) (last_sector old) old.content new.content
  pub alone : IsTrue done → KeepsAlone (encoded m) (last_sector old) new.content

-- the verb
abbrev pub init_verb : Span → Cipher → Auth → ℕ → ℕ → Option ℤ → Bool → KeyWords → Option Span → Verb
init_verb prov cipher auth keylen sectorsize iterations autoresize fresh backup =
    let options : InitOptions = record { cipher = cipher; auth = auth; keylen = keylen; sectorsize = sectorsize; iterations = iterations_of fresh iterations; autoresize = autoresize } in
    record {
      goes_through = λ line old reply new. Replies done_or (InitRow line options fresh backup) old reply new;
      fits = λ line old. FindsNew line options fresh old;
      grounds = λ line old refusal. RefusesNew line options fresh old refusal;
      bad_file = λ line holding old refusal new. RefusesFiles line fresh old refusal new;
      events = λ line disk holding events. WritesMetadata disk events;
      changes = λ line told holding old done new. PutsNew told line options fresh old done new;
      stored_file = backup;
      asks = asks_nothing;
      places = places_nothing;
      kind = OfOther;
    }
