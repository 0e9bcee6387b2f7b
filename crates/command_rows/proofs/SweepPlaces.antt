-- Where a sweep begins, and what its steps leave.
use Rattle.std.proofs.Common.{◌≡◌, ◌⊎◌, inl, inr, ℕ, ◌≤◌, List, length, refl, sym, subst, arith, Bool, true, false, cond, Option, None, Some, Result, Ok, Err, nat_le, nat_lt}
use Rattle.std.specs.Int.{from_le_bytes, w64}
use Rattle.std.proofs.lemmas.Bool.Decides.{nat_tests}
use Rattle.block_traits.specs.declared.cabinet.LoadFault.TheVariants as load
use Rattle.eli_base.specs.declared.refusals.Refusal.TheVariants as refusals
use Rattle.command_rows.specs.Rows.{Attachment, Decides, GoesOn, IsFile, KeepsOutside, LoadsFile, Reach}
use Rattle.command_rows.specs.Vocabulary.{Files, KeepsFiles, Refusal, Span, file_answer, refused}
use Rattle.command_rows.specs.verbs.Verify.{FindsPlace, LoadsPlace, Sweeps, SweepsFrom, SweptPart, if_inside, place_in, place_size, unless_absent}
use Rattle.command_rows.proofs.Grounding.{loading_bytes}

-- ---- the file

loaded_by : (line : List ℕ) (file : Span) (old : Reach) (loaded : Result (List ℕ) Refusal) (bytes : List ℕ) (new : Reach) → Ok (Some bytes) ≡ unless_absent loaded → LoadsFile place_size line file old loaded new
    → LoadsFile place_size line file old (Ok bytes) new
loaded_by line file old (Ok found) bytes new is h = let same : found ≡ bytes = cc is in subst (λ (b : List ℕ). LoadsFile place_size line file old (Ok b) new) same h
loaded_by line file old (Err (refusals.FileAbsent word)) bytes new is h = absurd (let none : ⊥ = cc is in none)
loaded_by line file old (Err refusal) bytes new is h = absurd (let none : ⊥ = cc is in none)

pub was_loaded : (line : List ℕ) (file : Span) (old : Reach) (bytes : List ℕ) (new : Reach) → LoadsPlace line file old (Ok (Some bytes)) new → LoadsFile place_size line file old (Ok bytes) new
was_loaded line file old bytes new h = loaded_by line file old h.loaded bytes new h.answered h.loads

-- ---- the place

-- a sweep that begins anew begins at the first
pub starts_anew : (line : List ℕ) (file : Span) (old : Reach) (place : ℕ) (new : Reach) → FindsPlace true line file old (Ok place) new → place ≡ 0
starts_anew line file old place new h = cc h.0

-- the place is said by the file, which was loaded
pub record OfFile (restart : Bool) (line : List ℕ) (file : Span) (told : Option Files) (place : ℕ) : Type 0 where
  pub loads : restart ≡ false
  pub bytes : List ℕ
  pub named : IsFile place_size told line file bytes
  pub says : place_in file.word (Some bytes) ≡ Ok place

found_by : (line : List ℕ) (file : Span) (old : Reach) (given : Result (Option (List ℕ)) Refusal) (middle : Reach) (place : ℕ) (new : Reach) → LoadsPlace line file old given middle
    → GoesOn (λ found. Decides (place_in file.word found)) given middle (Ok place) new → (place ≡ 0) ⊎ OfFile false line file old.cabinet.files place
found_by line file old (Ok None) middle place new first next = inl (cc next.0)
found_by line file old (Ok (Some bytes)) middle place new first next = inr (record {
  loads = refl;
  bytes = bytes;
  named = loading_bytes place_size line file old old bytes middle refl (was_loaded line file old bytes middle first);
  says = sym next.0;
})
found_by line file old (Err refusal) middle place new first next = absurd (let none : ⊥ = cc next.0 in none)

-- the sweep begins at the first sector, or where the file says
pub found_place : (restart : Bool) (line : List ℕ) (file : Span) (old : Reach) (place : ℕ) (new : Reach) → FindsPlace restart line file old (Ok place) new → (place ≡ 0) ⊎ OfFile restart line file old.cabinet.files place
found_place true line file old place new h = inl (starts_anew line file old place new h)
found_place false line file old place new h = found_by line file old h.given h.middle place new h.first h.next

-- eight bytes are loaded, and say their number
loads_eight : (word : ℕ) (bytes : List ℕ) (fits : Bool) → length bytes ≡ place_size → nat_le (length bytes) place_size ≡ fits
    → refused word place_size (cond fits (Ok bytes) (Err load.TooLong)) ≡ Ok bytes
loads_eight word bytes true eight test = refl
loads_eight word bytes false eight test = absurd (grind (arith, nat_tests))

pub eight_loaded : (word : ℕ) (bytes : List ℕ) → length bytes ≡ place_size → file_answer word place_size (Some bytes) ≡ Ok bytes
eight_loaded word bytes eight = loads_eight word bytes (nat_le (length bytes) place_size) eight refl

says_eight : (word : ℕ) (bytes : List ℕ) (short : Bool) → length bytes ≡ place_size → nat_lt (length bytes) place_size ≡ short
    → cond short (Err (refusals.BadPlaceFile word (length bytes))) (Ok (from_le_bytes w64 bytes)) ≡ Ok (from_le_bytes w64 bytes)
says_eight word bytes true eight test = absurd (grind (arith, nat_tests))
says_eight word bytes false eight test = refl

pub eight_says : (word : ℕ) (bytes : List ℕ) → length bytes ≡ place_size → place_in word (Some bytes) ≡ Ok (from_le_bytes w64 bytes)
eight_says word bytes eight = says_eight word bytes (nat_lt (length bytes) place_size) eight refl

inside_by : (place there : ℕ) (inside : Bool) → place ≤ there → nat_le place there ≡ inside → let r : Result (Unit {0}) Refusal = cond inside (Ok tt) (Err (refusals.BadPlace place there)) in r ≡ Ok tt
inside_by place there true within test = refl
inside_by place there false within test = absurd (grind (arith, nat_tests))

pub is_inside : (place there : ℕ) → place ≤ there → if_inside place there ≡ Ok tt
is_inside place there within = inside_by place there (nat_le place there) within refl

-- ---- what the steps leave

-- the counts of the cabinet alone changed
pub record OnlyLoads (old new : Reach) : Type 0 where
  pub disk : new.disk ≡ old.disk
  pub holding : new.holding ≡ old.holding
  pub entropy : new.entropy ≡ old.entropy
  pub files : KeepsFiles old.cabinet new.cabinet

decided_stays : (word : ℕ) (given : Result (Option (List ℕ)) Refusal) (middle : Reach) (answer : Result ℕ Refusal) (new : Reach) → GoesOn (λ found. Decides (place_in word found)) given middle answer new → new ≡ middle
decided_stays word (Ok found) middle answer new h = h.1
decided_stays word (Err refusal) middle answer new h = h.1

pub place_stays : (restart : Bool) (line : List ℕ) (file : Span) (old : Reach) (answer : Result ℕ Refusal) (new : Reach) → FindsPlace restart line file old answer new → OnlyLoads old new
place_stays true line file old answer new h =
    rw h.1 (record { disk = refl; holding = refl; entropy = refl; files = record { files = refl; faults = omega arith; misses = omega arith } })
place_stays false line file old answer new h =
    let loads = h.first.loads in
    rw (decided_stays file.word h.given h.middle answer new h.next) (record { disk = loads.disk; holding = loads.holding; entropy = loads.entropy; files = loads.keeps })

-- the disk alone changed
pub record OnlyReads (old new : Reach) : Type 0 where
  pub holding : new.holding ≡ old.holding
  pub outside : KeepsOutside old new

sweep_stays : (a : Attachment) (place count : ℕ) (given : Result (Unit {0}) Refusal) (middle : Reach) (answer : Result SweptPart Refusal) (new : Reach) → GoesOn (λ _. Sweeps a place count) given middle answer new → OnlyReads middle new
sweep_stays a place count (Ok done) middle answer new h = record { holding = h.holding; outside = h.outside }
sweep_stays a place count (Err refusal) middle answer new h = rw h.1 (record { holding = refl; outside = record { cabinet = refl; entropy = refl } })

pub from_stays : (a : Attachment) (place count : ℕ) (old : Reach) (answer : Result SweptPart Refusal) (new : Reach) → SweepsFrom a place count old answer new → OnlyReads old new
from_stays a place count old answer new h = subst (λ (r : Reach). OnlyReads r new) h.first.1 (sweep_stays a place count h.given h.middle answer new h.next)
