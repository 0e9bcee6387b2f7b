-- What the calls of a file leave of what it reports, as events of its disk.
use Rattle.std.proofs.Common.{◌≡◌, ◌∙◌, ℕ, ◌+◌, ◌*◌, ◌/◌, ◌<◌, ◌≤◌, ◌==◌, Bool, true, false, cond, List, [], ◌∷◌, length, take, Option, Some, None, refl, sym, ap, subst, arith}
use Rattle.std.proofs.lemmas.Bool.{eqb-true}
use Rattle.std.proofs.lemmas.List.{take_all}
use Rattle.std.proofs.Math.Seq.{take-length}
use Rattle.block_traits.specs.declared.disk.Event.{Event}
use Rattle.block_traits.specs.declared.disk.Event.TheVariants.{Write}
use Rattle.block_traits.specs.Causes.{Rose}
use Rattle.block_traits.specs.Content.{Content, logged, present, with_events}
use Rattle.block_traits.specs.Disk.{DiskState, FailsIn, GivesEachFrom, GivesFrom, Logs, write_events, writes_from}
use Rattle.block_traits.specs.Parts.{part, parts}
use Rattle.block_traits.proofs.Logs.{logged-none}
use Rattle.file_edge.specs.Told.{Leaves, ReadsTold, Told, contents, of_size}

-- ---- a content of a size

if_logged : (is : Bool) (events : List Event) (c : Content) → cond is (Some (with_events events c)) None ≡ logged events (cond is (Some c) None)
if_logged true events c = refl
if_logged false events c = refl

of_size-logged : (size : ℕ) (events : List Event) (told : Option Content) → of_size size (logged events told) ≡ logged events (of_size size told)
of_size-logged size events None = refl
of_size-logged size events (Some c) = if_logged (length c.base == size) events c

-- the events need to be the same only if the condition holds
if_all : (is : Bool) (events some : List Event) (c : Content) → (is ≡ true → some ≡ events) → cond is (Some (with_events some c)) None ≡ logged events (cond is (Some c) None)
if_all true events some c same = ap (λ (es : List Event). Some (with_events es c)) (same refl)
if_all false events some c same = refl

of_size-all : (size sectors : ℕ) (events : List Event) (old new : Option Content) → sectors ≤ size → Leaves events sectors true old new → of_size size new ≡ logged events (of_size size old)
of_size-all size sectors events None new inside leaves = ap (of_size size) leaves.left
of_size-all size sectors events (Some c) new inside leaves =
    ap (of_size size) leaves.left
    ∙ if_all (length c.base == size) events (take leaves.count events) c (λ is.
    let same : length c.base ≡ size = eqb-true (length c.base) size is in
    let reaches : sectors ≤ length c.base = omega (arith, same, inside) in
    ap (λ (k : ℕ). take k events) (leaves.all reaches refl) ∙ take-length events)

of_size-part : (size sectors : ℕ) (events : List Event) (done : Bool) (old new : Option Content) (leaves : Leaves events sectors done old new) → of_size size new ≡ logged (take leaves.count events) (of_size size old)
of_size-part size sectors events done old new leaves = ap (of_size size) leaves.left ∙ of_size-logged size (take leaves.count events) old

-- ---- the disk

-- all was done
pub logs_left : (size sectors : ℕ) (events shown : List Event) (told later : Option Content) {old new : DiskState} → old.content ≡ of_size size told → new.content ≡ of_size size later → new.size ≡ old.size → new.shows ≡ old.shows → old.faults ≤ new.faults
    → events ≡ shown → sectors ≤ size → Leaves events sectors true told later → Logs shown old new
logs_left size sectors events shown told later {old} {new} was is same shows faults are inside leaves =
    let P : List Event → Type 0 = λ es. Logs es old new in
    subst P are (record {
      content = is ∙ of_size-all size sectors events told later inside leaves ∙ ap (logged events) (sym was);
      size = same;
      shows = shows;
      faults = faults;
    })

-- the first was done
pub fails_left : (size sectors : ℕ) (events shown : List Event) (done : Bool) (told later : Option Content) {old new : DiskState} → old.content ≡ of_size size told → new.content ≡ of_size size later → new.size ≡ old.size → new.shows ≡ old.shows → old.faults ≤ new.faults
    → Rose old.faults new.faults → events ≡ shown → Leaves events sectors done told later → FailsIn shown old new
fails_left size sectors events shown done told later {old} {new} was is same shows faults rose are leaves =
    let P : List Event → Type 0 = λ es. FailsIn es old new in
    subst P are (record {
      count = leaves.count;
      within = leaves.within;
      logs = record {
        content = is ∙ of_size-part size sectors events done told later leaves ∙ ap (logged (take leaves.count events)) (sym was);
        size = same;
        shows = shows;
        faults = faults;
      };
      rose = rose;
    })

-- nothing was done to the file
pub logs_same : (size : ℕ) (told later : Option Content) {old new : DiskState} → old.content ≡ of_size size told → new.content ≡ of_size size later → new.size ≡ old.size → new.shows ≡ old.shows → old.faults ≤ new.faults
    → later ≡ told → Logs [] old new
logs_same size told later {old} {new} was is size_same shows faults same = record {
  content = is ∙ ap (of_size size) same ∙ sym was ∙ sym (logged-none old.content);
  size = size_same;
  shows = shows;
  faults = faults;
}

pub fails_same : (size : ℕ) (events : List Event) (told later : Option Content) {old new : DiskState} → old.content ≡ of_size size told → new.content ≡ of_size size later → new.size ≡ old.size → new.shows ≡ old.shows → old.faults ≤ new.faults
    → Rose old.faults new.faults → later ≡ told → FailsIn events old new
fails_same size events told later {old} {new} was is size_same shows faults rose same = record {
  count = 0;
  within = omega arith;
  logs = logs_same size told later was is size_same shows faults same;
  rose = rose;
}

-- ---- sectors

if_gives : (is : Bool) (c : Content) (n : ℕ) (bytes : List ℕ) → (is ≡ true → bytes ≡ present c n) → GivesFrom (cond is (Some c) None) n bytes
if_gives true c n bytes gives = gives refl
if_gives false c n bytes gives = tt

pub gives_each : (size n : ℕ) (bytes : List ℕ) (told : Option Told) → n + length bytes / 512 ≤ size → ReadsTold told (512 * n) bytes
    → GivesEachFrom (of_size size (contents told)) n bytes
gives_each size n bytes None inside reads = λ j below. tt
gives_each size n bytes (Some t) inside reads = λ j below.
    let at : 512 * n / 512 ≡ n = omega arith in
    if_gives (length t.content.base == size) t.content (n + j) (part 512 j bytes) (λ is.
    let same : length t.content.base ≡ size = eqb-true (length t.content.base) size is in
    let here : 512 * n / 512 + j < length t.content.base = omega (arith, same, inside, at, below) in
    reads j below here ∙ ap (λ (m : ℕ). present t.content (m + j)) at)

pub gives_told : (size n : ℕ) (bytes : List ℕ) (told : Option Told) → length bytes ≡ 512 → n < size → ReadsTold told (512 * n) bytes → GivesFrom (of_size size (contents told)) n bytes
gives_told size n bytes told sized inside reads =
    let one : length bytes / 512 ≡ 1 = omega (arith, sized) in
    let fits : n + length bytes / 512 ≤ size = omega (arith, one, inside) in
    let short : length bytes ≤ 512 = omega (arith, sized) in
    let first : n + 0 ≡ n = omega arith in
    let all : GivesFrom (of_size size (contents told)) (n + 0) (part 512 0 bytes) = gives_each size n bytes told fits reads 0 (omega (arith, one)) in
    let P : ℕ → List ℕ → Type 0 = λ m bs. GivesFrom (of_size size (contents told)) m bs in
    let Q : ℕ → Type 0 = λ m. P m bytes in
    subst Q first (subst (P (n + 0)) (take_all 512 bytes short) all)

pub one_event : (n : ℕ) (bytes : List ℕ) → length bytes ≡ 512 → write_events (512 * n / 512) bytes ≡ Write n bytes ∷ []
one_event n bytes sized =
    let at : 512 * n / 512 ≡ n = omega arith in
    let many : length bytes / 512 ≡ 1 = omega (arith, sized) in
    let short : length bytes ≤ 512 = omega (arith, sized) in
    ap (λ (m : ℕ). writes_from (512 * n / 512) (parts 512 m bytes)) many ∙ (λ i. Write (at i) (take_all 512 bytes short i) ∷ [])

pub same_events : (n : ℕ) (bytes : List ℕ) → write_events (512 * n / 512) bytes ≡ write_events n bytes
same_events n bytes = let at : 512 * n / 512 ≡ n = omega arith in ap (λ (m : ℕ). write_events m bytes) at

-- ---- the size
