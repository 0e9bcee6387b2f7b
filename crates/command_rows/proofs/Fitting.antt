-- What a line that finds what its verb needs rules out.
use Rattle.command_rows.specs.Gate.{needs, refused_by}
use Rattle.command_rows.specs.Grounds.{FindsBadFile, HasGround}
use Rattle.command_rows.specs.Rows.{AreComponents, Asks, AsksBytesAtOnce, AsksNothing, AsksSectorsFrom, AttachedWith, Attachment, FaultOf, HasMetadata, Holding, IsReadAs, LacksMetadata, NamesParts, QueueRefuses, Reach, RefusesFiles, ShowsMetadata, ShowsMetadataAt, admitted, attachment_in, tried}
use Rattle.command_rows.specs.Vocabulary.{CabinetState, Command, Components, Content, DiskState, Files, GivesFrom, KeyWords, MetaFault, Metadata, ReadsAs, Refusal, components_of, has_tags, last_sector, metadata_in, present, user_key}
use Rattle.command_rows.specs.verbs.Attach.{FindsKey, RefusesAttach, RefusesTrial}
use Rattle.std.proofs.Common.{Bool, Err, List, None, Ok, Option, Result, Some, ap, arith, false, inl, inr, subst, sym, true, ℕ, ◌+◌, ◌<◌, ◌∙◌, ◌≡◌, ◌≤◌, ◌⊎◌, IfSome, IsTrue, MatchOption}
use Rattle.command_rows.specs.Causes.{FindsBadUnit, FindsInQueue, HasBadLength, LinePassesEnd, asks_of, needs_tags, writes_data}
use Rattle.command_rows.proofs.Gate.{with_attached}

-- ---- what is reported decides

pub reads_same : (disk : DiskState) (place : ℕ) (m : Metadata) (found : Result Metadata MetaFault) → ShowsMetadataAt disk place m → IsReadAs disk place found → found ≡ Ok m
reads_same disk place m found shows read =
    let bytes : read.bytes ≡ present shows.content place = subst (λ (o : Option Content). GivesFrom o place read.bytes) shows.told read.told in
    sym read.read ∙ (ap metadata_in bytes ∙ shows.read)

pub has_same : (disk : DiskState) (m found : Metadata) → ShowsMetadata disk m → HasMetadata disk found → found ≡ m
has_same disk m found shows has = let same : Ok found ≡ Ok m = reads_same disk (last_sector disk) m (Ok found) shows.shown has.found in cc same

pub has_metadata : (disk : DiskState) (m : Metadata) (refusal : Refusal) → ShowsMetadata disk m → LacksMetadata disk refusal → ⊥
has_metadata disk m refusal shows (inl h) = omega (arith, shows.enough, h.0)
has_metadata disk m refusal shows (inr h) = let is : Err h.fault ≡ Ok m = reads_same disk (last_sector disk) m (Err h.fault) shows.shown h.found in let none : ⊥ = cc is in none

pub parts_same : (line : List ℕ) (words : KeyWords) (cabinet : CabinetState) (parts named : Components) → NamesParts line words cabinet parts → AreComponents cabinet.files line words named → named ≡ parts
parts_same line words cabinet parts named names h =
    let other : components_of names.files line words ≡ Ok named = subst (λ (o : Option Files). IfSome o (λ f. components_of f line words ≡ Ok named)) names.told h.named in
    cc (names.named, other)

pub no_bad_file : (line : List ℕ) (words : KeyWords) (parts : Components) (old : CabinetState) (refusal : Refusal) (new : CabinetState) → NamesParts line words old parts → RefusesFiles line words old refusal new → ⊥
no_bad_file line words parts old refusal new names h =
    let bad : components_of names.files line words ≡ Err refusal = subst (λ (o : Option Files). IfSome o (λ files. components_of files line words ≡ Err refusal)) names.told h.first in
    let none : ⊥ = cc (bad, names.named) in
    none

-- what gives a value isn't refused
pub not_both : {A : Type 0} (answer : Result A Refusal) (value : A) (refusal : Refusal) → answer ≡ Ok value → answer ≡ Err refusal → ⊥
not_both answer value refusal ok err = let none : ⊥ = cc (ok, err) in none

pub not_some : (found : Option Refusal) (refusal : Refusal) → found ≡ None → found ≡ Some refusal → ⊥
not_some found refusal none some = let none : ⊥ = cc (none, some) in none

-- ---- the grounds

trial_fits : (line : List ℕ) (slot : Option ℕ) (readonly : Bool) (words : KeyWords) (old : Reach) (f : FindsKey line slot readonly words old) (refusal : Refusal) → RefusesTrial line slot readonly words f.m old refusal → ⊥
trial_fits line slot readonly words old f refusal h =
    let settings : h.settings ≡ f.settings = cc (h.admits, f.admits) in
    let parts : h.parts ≡ f.parts = parts_same line words old.cabinet f.parts h.parts f.names h.named in
    let refused : tried f.m f.settings slot readonly (user_key f.parts f.m.salt f.m.iterations) ≡ Err refusal = rw (← settings, ← parts) h.refused in
    not_both _ f.a refusal f.opens refused

attach_by : (line : List ℕ) (slot : Option ℕ) (readonly : Bool) (words : KeyWords) (old : Reach) (f : FindsKey line slot readonly words old) (refusal : Refusal)
    → (admitted f.m old.disk.size slot ≡ Err refusal) ⊎ RefusesTrial line slot readonly words f.m old refusal → ⊥
attach_by line slot readonly words old f refusal (inl h) = not_both _ f.settings refusal f.admits h
attach_by line slot readonly words old f refusal (inr h) = trial_fits line slot readonly words old f refusal h

pub attach_fits : (line : List ℕ) (slot : Option ℕ) (readonly : Bool) (words : KeyWords) (old : Reach) (f : FindsKey line slot readonly words old) (refusal : Refusal)
    → LacksMetadata old.disk refusal ⊎ RefusesAttach line slot readonly words old refusal → ⊥
attach_fits line slot readonly words old f refusal (inl h) = has_metadata old.disk f.m refusal f.shows h
attach_fits line slot readonly words old f refusal (inr h) =
    attach_by line slot readonly words old f refusal
    (subst (λ (m : Metadata). (admitted m old.disk.size slot ≡ Err refusal) ⊎ RefusesTrial line slot readonly words m old refusal) (has_same old.disk f.m h.m f.shows h.found) h.refused)

-- ---- the causes

-- a provider without authentication is ruled out
abbrev pub RulesOutTags : Command → Reach → Type 0
RulesOutTags command old = IsTrue (needs_tags command) → AttachedWith old.holding (λ a. has_tags a.keying.auth ≡ false) → ⊥

-- each cause but want of memory is ruled out
pub record RulesOut (line : List ℕ) (command : Command) (old : Reach) : Type 0 where
  pub gate : refused_by (needs command) old.holding ≡ None
  pub readonly : IsTrue (writes_data command) → AttachedWith old.holding (λ a. a.readonly ≡ true) → ⊥
  pub range : (sector count there : ℕ) → AttachedWith old.holding (LinePassesEnd line command old.disk sector count there) → ⊥
  pub bytes : (given size : ℕ) → AttachedWith old.holding (HasBadLength line command given size) → ⊥
  pub faults : (offset : ℕ) → AttachedWith old.holding (FindsBadUnit line command old.disk offset) → ⊥
  pub requests : (refusal : Refusal) → AttachedWith old.holding (FindsInQueue line command old.disk refusal) → ⊥
  pub files : (refusal : Refusal) (cabinet : CabinetState) → FindsBadFile line command old.holding old.cabinet refusal cabinet → ⊥
  pub ground : (refusal : Refusal) → HasGround line command old refusal → ⊥

pub false_is_true : false ≡ true → ⊥
false_is_true h = let none : ⊥ = cc h in none

pub never_holds : (Holds : Attachment → Type 0) (holding : Holding) → ((a : Attachment) → Holds a → ⊥) → AttachedWith holding Holds → ⊥
never_holds Holds holding never h = with_attached holding Holds ⊥ (λ a is. never a) h

both_held : (Fit Holds : Attachment → Type 0) (found : Option Attachment) → MatchOption found ⊥ Fit → ((a : Attachment) → Fit a → Holds a → ⊥) → MatchOption found ⊥ Holds → ⊥
both_held Fit Holds None f never h = h
both_held Fit Holds (Some a) f never h = never a f h

pub never_both : (Fit Holds : Attachment → Type 0) (holding : Holding) → AttachedWith holding Fit → ((a : Attachment) → Fit a → Holds a → ⊥) → AttachedWith holding Holds → ⊥
never_both Fit Holds holding f never h = both_held Fit Holds (attachment_in holding) f never h

-- ---- verbs that ask for no sectors

pub apart_out : (line : List ℕ) (command : Command) (old : Reach) → writes_data command ≡ false → asks_of line command ≡ AsksNothing → refused_by (needs command) old.holding ≡ None
    → ((refusal : Refusal) (cabinet : CabinetState) → FindsBadFile line command old.holding old.cabinet refusal cabinet → ⊥) → ((refusal : Refusal) → HasGround line command old refusal → ⊥) → RulesOut line command old
apart_out line command old unwritten nothing gate files ground = record {
  gate = gate;
  readonly = λ writes h. false_is_true (sym unwritten ∙ writes);
  range = λ sector count there h. never_holds _ old.holding (λ a over. subst (λ (asks : Asks). AsksSectorsFrom asks sector count a) nothing over.asked) h;
  bytes = λ given size h. never_holds _ old.holding (λ a bad. subst (λ (asks : Asks). AsksBytesAtOnce asks given a) nothing bad.asked) h;
  faults = λ offset h. never_holds _ old.holding (λ a fault. subst (λ (asks : Asks). FaultOf asks old.disk offset a) nothing fault) h;
  requests = λ refusal h. never_holds _ old.holding (λ a found. subst (λ (asks : Asks). QueueRefuses asks old.disk refusal a) nothing found) h;
  files = files;
  ground = ground;
}

-- ---- requests on an attached provider

pub passes : (first many there sector sectors end : ℕ) → first ≡ sector → many ≡ sectors → there ≡ end → there < first + many → sector + sectors ≤ end → ⊥
passes first many there sector sectors end first_is many_is there_is over within = omega arith

-- a fault of the sectors that are read is one of those that are asked for
pub read_at : (disk : DiskState) (a : Attachment) (first many sector count offset : ℕ) → first ≡ sector → many ≡ count → ReadsAs disk a.keying first many (Err offset) → ReadsAs disk a.keying sector count (Err offset)
read_at disk a first many sector count offset first_is many_is h =
    subst (λ (n : ℕ). ReadsAs disk a.keying n count (Err offset)) first_is (subst (λ (n : ℕ). ReadsAs disk a.keying first n (Err offset)) many_is h)
