-- What the row of `verify` comes to: what was swept and stored, and that a refusal leaves the file.
use Rattle.std.proofs.Common.{◌≡◌, ◌∙◌, ℕ, ◌+◌, ◌*◌, ◌^◌, ◌<◌, ◌≤◌, List, refl, ap, sym, subst, arith, Bool, true, false, cond, Option, Some, Result, Ok, Err, IfSome, nat_le}
use Rattle.std.specs.Int.{from_le_bytes, w64}
use Rattle.std.proofs.lemmas.Nat.{from_le_bytes-to_le_bytes_8}
use Rattle.std.proofs.lemmas.Bool.Decides.{nat_tests}
use Rattle.eli_base.specs.declared.refusals.Refusal.TheVariants as refusals
use Rattle.command_rows.specs.Rows.{Attachment, Decides, GoesOn, LoadsFile, Reach, StoreAnswers, StoresBytes, Then}
use Rattle.command_rows.specs.Vocabulary.{CabinetState, DiskState, Files, IsAnswer, Refusal, Span, bytes_at, file_answer, le64, media, sectors_swept, stored, sweep_at, units}
use Rattle.command_rows.specs.verbs.Verify.{FindsPlace, ListsUnits, LoadsPlace, StoresPlace, Sweeps, SweepsFrom, SweptPart, VerifyRow, if_inside, if_tagged, place_in, place_size, unless_absent}
use Rattle.command_rows.proofs.SweepPlaces.{eight_loaded, eight_says, from_stays, place_stays}

-- ---- what was loaded

-- the cabinet reports its files, of which the named one is the eight bytes of this number
pub record HoldsPlace (line : List ℕ) (file : Span) (cabinet : CabinetState) (place : ℕ) : Type 0 where
  pub small : place < 2 ^ 64
  pub files : Files
  pub told : cabinet.files ≡ Some files
  pub holds : files (bytes_at line file) ≡ Some (le64 place)

-- what a load of it gives
told_load : (line : List ℕ) (file : Span) (place : ℕ) (old : Reach) (loaded : Result (List ℕ) Refusal) (new : Reach) → (h : HoldsPlace line file old.cabinet place) → LoadsFile place_size line file old loaded new
    → IsAnswer (Ok (le64 place)) loaded
told_load line file place old loaded new h loads =
    let there : file_answer file.word place_size (Some (le64 place)) ≡ Ok (le64 place) = eight_loaded file.word (le64 place) refl in
    let told : IsAnswer (file_answer file.word place_size (h.files (bytes_at line file))) loaded =
    subst (λ (o : Option Files). IfSome o (λ files. IsAnswer (file_answer file.word place_size (files (bytes_at line file))) loaded)) h.told loads.told in
    subst (λ (r : Result (List ℕ) Refusal). IsAnswer r loaded) (ap (file_answer file.word place_size) h.holds ∙ there) told

-- nothing but those bytes was found
found_told : (place : ℕ) (loaded : Result (List ℕ) Refusal) (found : Option (List ℕ)) → IsAnswer (Ok (le64 place)) loaded → Ok found ≡ unless_absent loaded → found ≡ Some (le64 place)
found_told place (Ok bytes) found told is = let same : bytes ≡ le64 place = cc told in let one : found ≡ Some bytes = cc is in one ∙ ap Some same
found_told place (Err (refusals.FileAbsent word)) found told is = absurd (let none : ⊥ = cc told in none)
found_told place (Err refusal) found told is = absurd (let none : ⊥ = cc is in none)

place_by : (line : List ℕ) (file : Span) (old : Reach) (n : ℕ) (given : Result (Option (List ℕ)) Refusal) (middle : Reach) (place : ℕ) (new : Reach) → HoldsPlace line file old.cabinet n → LoadsPlace line file old given middle
    → GoesOn (λ found. Decides (place_in file.word found)) given middle (Ok place) new → place ≡ n
place_by line file old n (Ok found) middle place new h first next =
    let is : found ≡ Some (le64 n) = found_told n first.loaded found (told_load line file n old first.loaded middle h first.loads) first.answered in
    let says : place_in file.word found ≡ Ok (from_le_bytes w64 (le64 n)) = ap (place_in file.word) is ∙ eight_says file.word (le64 n) refl in
    let number : from_le_bytes w64 (le64 n) ≡ n = from_le_bytes-to_le_bytes_8 n h.small in
    let same : place ≡ from_le_bytes w64 (le64 n) = cc (next.0, says) in
    same ∙ number
place_by line file old n (Err refusal) middle place new h first next = absurd (let none : ⊥ = cc next.0 in none)

-- the place at which a sweep begins that goes on
pub told_place : (line : List ℕ) (file : Span) (old : Reach) (n place : ℕ) (new : Reach) → HoldsPlace line file old.cabinet n → FindsPlace false line file old (Ok place) new → place ≡ n
told_place line file old n place new h f = place_by line file old n f.given f.middle place new h f.first f.next

-- ---- a sweep that was answered

-- the place that was found is there, the units from it on are listed, and where the next part begins is stored
pub record SweptFrom (line : List ℕ) (file : Span) (count : ℕ) (restart : Bool) (a : Attachment) (old : Reach) (part : SweptPart) (new : Reach) : Type 0 where
  pub place : ℕ
  pub found : Reach
  pub finds : FindsPlace restart line file old (Ok place) found
  pub within : place ≤ media a.keying old.disk
  pub next : part.next ≡ place + sectors_swept (sweep_at a.keying (media a.keying old.disk) place count)
  pub lists : ListsUnits a.keying (place * units a.keying) (sectors_swept (sweep_at a.keying (media a.keying old.disk) place count) * units a.keying) part.offsets old.disk new.disk
  pub files : new.cabinet.files ≡ stored (bytes_at line file) (le64 part.next) old.cabinet.files

-- a step that decides goes on only with what it decided
went_on : {A B : Type 0} (decided : Result A Refusal) (Next : A → Reach → Result B Refusal → Reach → Type 0) (old : Reach) (value : B) (new : Reach) (given : Result A Refusal) (middle : Reach) → Decides decided old given middle → GoesOn Next given middle (Ok value) new
    → (v : A) × (decided ≡ Ok v) × Next v old (Ok value) new
went_on {A} {B} decided Next old value new (Ok v) middle first next = (v, sym first.0, subst (λ (r : Reach). Next v r (Ok value) new) first.1 next)
went_on {A} {B} decided Next old value new (Err refusal) middle first next = absurd (let none : ⊥ = cc next.0 in none)

inside_is : (place there : ℕ) (test : Bool) (done : Unit {0}) → nat_le place there ≡ test → (let r : Result (Unit {0}) Refusal = cond test (Ok tt) (Err (refusals.BadPlace place there)) in r ≡ Ok done) → place ≤ there
inside_is place there true done is ok = grind (arith, nat_tests)
inside_is place there false done is ok = absurd (let none : ⊥ = cc ok in none)

-- any step goes on only with a value
went_with : {A B : Type 0} (First : Reach → Result A Refusal → Reach → Type 0) (Next : A → Reach → Result B Refusal → Reach → Type 0) (old : Reach) (value : B) (new : Reach) (given : Result A Refusal) (middle : Reach) → First old given middle → GoesOn Next given middle (Ok value) new
    → (v : A) × First old (Ok v) middle × Next v middle (Ok value) new
went_with {A} {B} First Next old value new (Ok v) middle first next = (v, first, next)
went_with {A} {B} First Next old value new (Err refusal) middle first next = absurd (let none : ⊥ = cc next.0 in none)

stored_files : (line : List ℕ) (file : Span) (part found : SweptPart) (old new : Reach) → StoresPlace line file found old (Ok part) new → (part ≡ found) × (new.cabinet.files ≡ stored (bytes_at line file) (le64 found.next) old.cabinet.files) × (new.disk ≡ old.disk)
stored_files line file part found old new h =
    let w = went_with (StoresBytes line file (le64 found.next)) (λ done. Decides (Ok found)) old part new h.given h.middle h.first h.next in
    let same : part ≡ found = cc w.2.0 in
    (same, ap (λ (r : Reach). r.cabinet.files) w.2.1 ∙ w.1.stores.files, ap (λ (r : Reach). r.disk) w.2.1 ∙ w.1.disk)

-- only the store changed the files
files_then : (name : List ℕ) (part found : SweptPart) (first second third last : CabinetState) → second.files ≡ first.files → third ≡ second → part ≡ found → last.files ≡ stored name (le64 found.next) third.files
    → last.files ≡ stored name (le64 part.next) first.files
files_then name part found first second third last loaded swept same kept = kept ∙ (λ i. stored name (le64 (sym same i).next) (swept i).files) ∙ ap (stored name (le64 part.next)) loaded

pub swept : (line : List ℕ) (file : Span) (count : ℕ) (restart : Bool) (a : Attachment) (old : Reach) (part : SweptPart) (new : Reach) → VerifyRow line file count restart a old (Ok part) new → SweptFrom line file count restart a old part new
swept line file count restart a old part new h =
    let tagged = went_on (if_tagged _) (λ _. Then (FindsPlace restart line file) (λ place. Then (SweepsFrom a place count) (λ part. StoresPlace line file part))) old part new h.given h.middle h.first h.next in
    let two = tagged.2 in
    let found = went_with (FindsPlace restart line file) (λ place. Then (SweepsFrom a place count) (λ part. StoresPlace line file part)) old part new two.given two.middle two.first two.next in
    let place : ℕ = found.0 in
    let three = found.2 in
    let stays = place_stays restart line file old (Ok place) two.middle found.1 in
    let sweeps = went_with (SweepsFrom a place count) (λ part. StoresPlace line file part) two.middle part new three.given three.middle three.first three.next in
    let kept = stored_files line file part sweeps.0 three.middle new sweeps.2 in
    let outside = (from_stays a place count two.middle (Ok sweeps.0) three.middle sweeps.1).outside in
    let four = sweeps.1 in
    let inside = went_on (if_inside place (media a.keying two.middle.disk)) (λ _. Sweeps a place count) two.middle sweeps.0 three.middle four.given four.middle four.first four.next in
    let disk : two.middle.disk ≡ old.disk = stays.disk in
    let there : ℕ = media a.keying old.disk in
    let P : DiskState → Type 0 = λ d. place ≤ media a.keying d in
    let Q : DiskState → Type 0 = λ d. (sweeps.0.next ≡ place + sectors_swept (sweep_at a.keying (media a.keying d) place count))
    × ListsUnits a.keying (place * units a.keying) (sectors_swept (sweep_at a.keying (media a.keying d) place count) * units a.keying) sweeps.0.offsets d three.middle.disk in
    let answer = subst Q disk inside.2.reads in
    let R : SweptPart → DiskState → Type 0 = λ (p : SweptPart) (d : DiskState). (p.next ≡ place + sectors_swept (sweep_at a.keying there place count))
    × ListsUnits a.keying (place * units a.keying) (sectors_swept (sweep_at a.keying there place count) * units a.keying) p.offsets old.disk d in
    let both : R part new.disk = subst (λ (d : DiskState). R part d) (sym kept.2) (subst (λ (p : SweptPart). R p three.middle.disk) (sym kept.0) answer) in
    record {
      place = place;
      found = two.middle;
      finds = found.1;
      within = subst P disk (inside_is place (media a.keying two.middle.disk) _ inside.0 refl inside.1);
      next = both.0;
      lists = both.1;
      files = files_then (bytes_at line file) part sweeps.0 old.cabinet two.middle.cabinet three.middle.cabinet new.cabinet stays.files.files outside.cabinet kept.0 kept.1;
    }

-- ---- a sweep that was refused

-- the files stay
abbrev pub Leaves : Reach → Reach → Type 0
Leaves old new = new.cabinet.files ≡ old.cabinet.files

refused_after : {A B : Type 0} (Next : A → Reach → Result B Refusal → Reach → Type 0) (old : Reach) (refusal : Refusal) (new : Reach) (given : Result A Refusal) (middle : Reach) → Leaves old middle → ((v : A) → Next v middle (Err refusal) new → Leaves middle new)
    → GoesOn Next given middle (Err refusal) new → Leaves old new
refused_after {A} {B} Next old refusal new (Ok v) middle first next h = next v h ∙ first
refused_after {A} {B} Next old refusal new (Err found) middle first next h = ap (λ (r : Reach). r.cabinet.files) h.1 ∙ first

unstored : (line : List ℕ) (file : Span) (bytes : List ℕ) (old : CabinetState) (refusal : Refusal) (new : CabinetState) → StoreAnswers line file bytes old (Err refusal) new → new.files ≡ old.files
unstored line file bytes old (refusals.CabinetFault word) new h = h.2.files
unstored line file bytes old refusals.NoMemory new h = h.files
unstored line file bytes old refusal new h = absurd h

-- the store was refused, and nothing follows
store_refused : (line : List ℕ) (file : Span) (part : SweptPart) (old : Reach) (refusal : Refusal) (new : Reach) (given : Result (Unit {0}) Refusal) (middle : Reach) → StoresBytes line file (le64 part.next) old given middle → GoesOn (λ _. Decides (Ok part)) given middle (Err refusal) new
    → Leaves old new
store_refused line file part old refusal new (Ok done) middle first next = absurd (let none : ⊥ = cc next.0 in none)
store_refused line file part old refusal new (Err found) middle first next = ap (λ (r : Reach). r.cabinet.files) next.1 ∙ unstored line file (le64 part.next) old.cabinet found middle.cabinet first.stores

pub refused_leaves : (line : List ℕ) (file : Span) (count : ℕ) (restart : Bool) (a : Attachment) (old : Reach) (refusal : Refusal) (new : Reach) → VerifyRow line file count restart a old (Err refusal) new → Leaves old new
refused_leaves line file count restart a old refusal new h =
    refused_after (λ _. Then (FindsPlace restart line file) (λ place. Then (SweepsFrom a place count) (λ part. StoresPlace line file part))) old refusal new h.given h.middle (ap (λ (r : Reach). r.cabinet.files) h.first.1)
    (λ done two. refused_after (λ place. Then (SweepsFrom a place count) (λ part. StoresPlace line file part)) h.middle refusal new two.given two.middle (place_stays restart line file h.middle two.given two.middle two.first).files.files
    (λ place three. refused_after (λ part. StoresPlace line file part) two.middle refusal new three.given three.middle (ap (λ (c : CabinetState). c.files) (from_stays a place count two.middle three.given three.middle three.first).outside.cabinet)
    (λ part four. store_refused line file part three.middle refusal new four.given four.middle four.first four.next) three.next) two.next) h.next
