-- What the disk may hold at each moment of a row.
use Rattle.block_traits.proofs.Logs.{logged-none}
use Rattle.std.proofs.Common.{Bool, Err, List, Ok, Option, Result, [], ap, false, inl, refl, subst, true, ℕ, ◌-◌, ◌∙◌, ◌≡◌, ◌⊎◌}
use Rattle.command_rows.specs.Rows.{Decides, GoesOn, LoadsComponents, Reach, ReadsLastSector, Then}
use Rattle.command_rows.specs.Vocabulary.{AtEachMoment, CabinetState, Content, DiskState, KeepsAlone, KeyWords, Logs, Refusal, last_sector}
use Rattle.command_rows.proofs.Events.{Step, quiet_loading, quiet_reading, same_quiet}

-- ---- steps before which the disk holds what it held

pub record Same (start disk : DiskState) : Type 0 where
  pub size : disk.size ≡ start.size
  pub content : disk.content ≡ start.content

same_self : (disk : DiskState) → Same disk disk
same_self disk = record { size = refl; content = refl }

pub same_content : (old new : DiskState) → Logs [] old new → new.content ≡ old.content
same_content old new h = h.content ∙ logged-none old.content

same_then : (start old new : DiskState) → Same start old → Logs [] old new → Same start new
same_then start old new same h = record { size = h.size ∙ same.size; content = same_content old new h ∙ same.content }

-- the disk holds what it held at the start of a row, and the cabinet has the files that it had
pub record Before (start now : Reach) : Type 0 where
  pub same : Same start.disk now.disk
  pub files : now.cabinet.files ≡ start.cabinet.files

pub before_all : (start : Reach) → Before start start
before_all start = record { same = same_self start.disk; files = refl }

-- a step without an event that leaves the files as they are
pub record Leads (old new : Reach) : Type 0 where
  pub quiet : Logs [] old.disk new.disk
  pub files : new.cabinet.files ≡ old.cabinet.files

abbrev pub Early : {A : Type 0} → Step A → Type 0
Early {A} R = (old : Reach) (answer : Result A Refusal) (new : Reach) → R old answer new → Leads old new

before_then : (start old new : Reach) → Before start old → Leads old new → Before start new
before_then start old new before h = record { same = same_then start.disk old.disk new.disk before.same h.quiet; files = h.files ∙ before.files }

pub early_decision : {A : Type 0} (old : Reach) (decided answer : Result A Refusal) (new : Reach) → Decides decided old answer new → Leads old new
early_decision old decided answer new h = record { quiet = same_quiet old new h.1; files = ap (λ (r : Reach). r.cabinet.files) h.1 }

pub early_reading : Early ReadsLastSector
early_reading old answer new h = record { quiet = quiet_reading old answer new h; files = ap (λ (c : CabinetState). c.files) h.outside.cabinet }

pub early_loading : (line : List ℕ) (words : KeyWords) → Early (LoadsComponents line words)
early_loading line words old answer new h = record { quiet = quiet_loading line words old answer new h; files = h.keeps.files }

abbrev pub Change : Type 1
Change = DiskState → Bool → DiskState → Type 0

abbrev pub Left : {A : Type 0} → (DiskState → Bool → DiskState → Type 0) → DiskState → Result A Refusal → DiskState → Type 0
Left Changes start (Ok value) new = Changes start true new
Left Changes start (Err refusal) new = (new.content ≡ start.content) ⊎ Changes start false new

left_next : {A B : Type 0} (Changes : Change) (start : DiskState) (First : Step A) (Next : A → Step B) (old : Reach) (given : Result A Refusal) (middle : Reach) (answer : Result B Refusal) (new : Reach) → Same start middle.disk
    → First old given middle → ((a : A) → First old (Ok a) middle → Next a middle answer new → Left Changes start answer new.disk) → GoesOn Next given middle answer new → Left Changes start answer new.disk
left_next Changes start First Next old (Ok a) middle answer new same first next h = next a first h
left_next Changes start First Next old (Err refusal) middle answer new same first next h = rw h.0 (inl (ap (λ (r : Reach). r.disk.content) h.1 ∙ same.content))

pub left_then : {A B : Type 0} {First : Step A} {Next : A → Step B} (Changes : Change) (start old : Reach) (answer : Result B Refusal) (new : Reach) → Then First Next old answer new → Before start old → Early First
    → ((a : A) (middle : Reach) → Before start middle → First old (Ok a) middle → Next a middle answer new → Left Changes start.disk answer new.disk) → Left Changes start.disk answer new.disk
left_then {A} {B} {First} {Next} Changes start old answer new h before early next =
    let there = before_then start old h.middle before (early old h.given h.middle h.first) in
    left_next Changes start.disk First Next old h.given h.middle answer new there.same h.first (λ a. next a h.middle there) h.next

-- ---- the same moments

pub moments_from : (Holds : ℕ → Content → Content → Type 0) (start disk : DiskState) (after : Option Content) → Same start disk → AtEachMoment (Holds (last_sector disk)) disk.content after
    → AtEachMoment (Holds (last_sector start)) start.content after
moments_from Holds start disk after same h =
    subst (λ (n : ℕ). AtEachMoment (Holds (n - 1)) start.content after) same.size (subst (λ (told : Option Content). AtEachMoment (Holds (last_sector disk)) told after) same.content h)

pub alone_from : (bytes : List ℕ) (start disk : DiskState) (after : Option Content) → Same start disk → KeepsAlone bytes (last_sector disk) after → KeepsAlone bytes (last_sector start) after
alone_from bytes start disk after same h = subst (λ (n : ℕ). KeepsAlone bytes (n - 1) after) same.size h

pub not_done : {P : Type 0} → false ≡ true → P
not_done h = absurd (let no : ⊥ = cc h in no)
