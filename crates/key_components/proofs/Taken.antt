-- Files that were taken one after another.
use Rattle.std.proofs.Common.{◌≡◌, ℕ, ◌+◌, ◌<◌, suc, List, [], ◌∷◌, ◌++◌, length, map, take, drop, get_or, drop-cons, subst, refl, ap, ◌∙◌, sym, arith, length-append, Option, Some, None, IfSome, Result, Ok, Err}
use Rattle.std.specs.Option.{option_or}
use Rattle.std.specs.List.{flat_map}
use Rattle.std.proofs.lemmas.List.{append-nil, map-append, take_more, take-append-drop}
use Rattle.std.proofs.lemmas.List.Concat.{flat_map-append}
use Rattle.block_traits.specs.Cabinet.{Files}
use Rattle.command_words.specs.Places.{bytes_at}
use Rattle.command_words.specs.declared.spans.Span.{Span}
use Rattle.eli_base.specs.declared.refusals.Refusal.{Refusal}
use Rattle.eli_base.specs.declared.refusals.Refusal.TheVariants.{CabinetFault, NoMemory}
use Rattle.key_components.specs.Files.{Taking, named_bytes, first_fault, joined_files}
use Rattle.key_components.specs.Answers.{unless_refused, IsRefusal, IsAnswer, IsAt, refused_word}

option_or-assoc : (a b c : Option Refusal) → option_or (option_or a b) c ≡ option_or a (option_or b c)
option_or-assoc None b c = refl
option_or-assoc (Some r) b c = refl

first_fault-append : (taking : Taking) (files : Files) (line : List ℕ) (used : ℕ) (spans more : List Span)
    → first_fault taking files line used (spans ++ more)
    ≡ option_or (first_fault taking files line used spans) (first_fault taking files line (used + length (joined_files taking files line spans)) more)
first_fault-append taking files line used [] more = ap (λ n. first_fault taking files line n more) (omega arith)
first_fault-append taking files line used (span ∷ spans) more =
    let piece = taking.piece (named_bytes files line span) in
    let fault = taking.fault span.word used (files (bytes_at line span)) in
    let sums : (used + length piece) + length (joined_files taking files line spans) ≡ used + length (piece ++ joined_files taking files line spans) =
    omega (arith, length-append piece (joined_files taking files line spans)) in
    ap (option_or fault) (first_fault-append taking files line (used + length piece) spans more)
    ∙ sym (option_or-assoc fault (first_fault taking files line (used + length piece) spans) (first_fault taking files line ((used + length piece) + length (joined_files taking files line spans)) more))
    ∙ ap (λ n. option_or (first_fault taking files line used (span ∷ spans)) (first_fault taking files line n more)) sums

joined_files-more : (taking : Taking) (files : Files) (line : List ℕ) (spans : List Span) (span : Span)
    → joined_files taking files line (spans ++ span ∷ []) ≡ joined_files taking files line spans ++ taking.piece (named_bytes files line span)
joined_files-more taking files line spans span =
    ap (flat_map taking.piece) (map-append (named_bytes files line) spans (span ∷ []))
    ∙ flat_map-append taking.piece (map (named_bytes files line) spans) (named_bytes files line span ∷ [])
    ∙ ap (λ bytes. joined_files taking files line spans ++ bytes) (append-nil (taking.piece (named_bytes files line span)))

-- no file so far had a fault, and these are the bytes of the files that count
pub record Taken (taking : Taking) (files : Files) (line : List ℕ) (spans : List Span) (got : List ℕ) : Type 0 where
  pub fault : first_fault taking files line 0 spans ≡ None
  pub bytes : got ≡ joined_files taking files line spans

-- what is wrong with the next file
next_fault : (taking : Taking) (files : Files) (line : List ℕ) (spans : List Span) (bytes : List ℕ) (span : Span) (behind : List Span)
    → Taken taking files line spans bytes
    → first_fault taking files line 0 (spans ++ span ∷ behind)
    ≡ option_or (taking.fault span.word (length bytes) (files (bytes_at line span))) (first_fault taking files line (length bytes + length (taking.piece (named_bytes files line span))) behind)
next_fault taking files line spans bytes span behind taken =
    let used : 0 + length (joined_files taking files line spans) ≡ length bytes = omega (arith, ap length taken.bytes) in
    first_fault-append taking files line 0 spans (span ∷ behind)
    ∙ ap (λ f. option_or f (first_fault taking files line (0 + length (joined_files taking files line spans)) (span ∷ behind))) taken.fault
    ∙ ap (λ n. first_fault taking files line n (span ∷ behind)) used

Taken-more : (taking : Taking) (files : Files) (line : List ℕ) (spans : List Span) (bytes : List ℕ) (span : Span) (piece : List ℕ)
    → Taken taking files line spans bytes
    → taking.fault span.word (length bytes) (files (bytes_at line span)) ≡ None
    → piece ≡ taking.piece (named_bytes files line span)
    → Taken taking files line (spans ++ span ∷ []) (bytes ++ piece)
Taken-more taking files line spans bytes span piece taken good is = record {
  fault = next_fault taking files line spans bytes span [] taken ∙ ap (λ f. option_or f None) good;
  bytes = ap (λ b. b ++ piece) taken.bytes ∙ ap (λ b. joined_files taking files line spans ++ b) is ∙ sym (joined_files-more taking files line spans span);
}

-- a value is returned only if nothing is refused
unless_refused-ok : {T : Type 0} (fault : Option Refusal) (value got : T) → Ok got ≡ unless_refused fault value → (fault ≡ None) × (got ≡ value)
unless_refused-ok None value got is = (refl, cc)
unless_refused-ok (Some refusal) value got is = cc

unless_refused-err : {T : Type 0} (fault : Option Refusal) (value : T) (refusal : Refusal) → Err refusal ≡ unless_refused fault value → fault ≡ Some refusal
unless_refused-err None value refusal is = cc
unless_refused-err (Some other) value refusal is = cc

IsRefusal-weaker : {T U : Type 0} (answer : Result T Refusal) (other : Result U Refusal) (refusal : Refusal) → (Err refusal ≡ answer → Err refusal ≡ other) → IsRefusal answer refusal → IsRefusal other refusal
IsRefusal-weaker answer other (CabinetFault word) same is = tt
IsRefusal-weaker answer other NoMemory same is = tt
IsRefusal-weaker answer other refusal same is = same is

-- these bytes were taken from the files of these spans, if the cabinet reports its files
abbrev pub TakenSo : Taking → Option Files → List ℕ → List Span → List ℕ → Type 0
TakenSo taking told line spans bytes = IfSome told (λ files. Taken taking files line spans bytes)

-- the result for the file of one span
abbrev pub PieceIs : Taking → Option Files → List ℕ → ℕ → Span → Result (List ℕ) Refusal → Type 0
PieceIs taking told line used span result =
    IfSome told (λ files. IsAnswer (unless_refused (taking.fault span.word used (files (bytes_at line span))) (taking.piece (named_bytes files line span))) result)

TakenSo-more : (taking : Taking) (told : Option Files) (line : List ℕ) (spans : List Span) (bytes : List ℕ) (span : Span) (piece : List ℕ)
    → TakenSo taking told line spans bytes → PieceIs taking told line (length bytes) span (Ok piece)
    → TakenSo taking told line (spans ++ span ∷ []) (bytes ++ piece)
TakenSo-more taking None line spans bytes span piece taken is = tt
TakenSo-more taking (Some files) line spans bytes span piece taken is =
    let parts = unless_refused-ok (taking.fault span.word (length bytes) (files (bytes_at line span))) (taking.piece (named_bytes files line span)) piece is in
    Taken-more taking files line spans bytes span piece taken parts.0 parts.1

-- the result for all files of an option
abbrev pub PartIs : Taking → Option Files → List ℕ → List Span → Result (List ℕ) Refusal → Type 0
PartIs taking told line spans result =
    IfSome told (λ files. IsAnswer (unless_refused (first_fault taking files line 0 spans) (joined_files taking files line spans)) result)

PartIs-refused : (taking : Taking) (told : Option Files) (line : List ℕ) (spans : List Span) (bytes : List ℕ) (span : Span) (behind : List Span) (refusal : Refusal)
    → TakenSo taking told line spans bytes → PieceIs taking told line (length bytes) span (Err refusal)
    → PartIs taking told line (spans ++ span ∷ behind) (Err refusal)
PartIs-refused taking None line spans bytes span behind refusal taken is = tt
PartIs-refused taking (Some files) line spans bytes span behind refusal taken is =
    let fault = taking.fault span.word (length bytes) (files (bytes_at line span)) in
    let value = taking.piece (named_bytes files line span) in
    let all = spans ++ span ∷ behind in
    IsRefusal-weaker (unless_refused fault value) (unless_refused (first_fault taking files line 0 all) (joined_files taking files line all)) refusal
    (λ same. ap (λ f. unless_refused f (joined_files taking files line all))
    (sym (next_fault taking files line spans bytes span behind taken ∙ ap (λ f. option_or f (first_fault taking files line (length bytes + length value) behind)) (unless_refused-err fault value refusal same))))
    is

served : (taking : Taking) (told : Option Files) (line : List ℕ) (spans : List Span) (bytes : List ℕ)
    → TakenSo taking told line spans bytes → IfSome told (λ files. first_fault taking files line 0 spans ≡ None)
served taking None line spans bytes taken = tt
served taking (Some files) line spans bytes taken = taken.fault

at_word : (taking : Taking) (told : Option Files) (line : List ℕ) (spans : List Span) (bytes : List ℕ) (span : Span) (behind : List Span) (word : Option ℕ)
    → TakenSo taking told line spans bytes → IfSome word (λ w. span.word ≡ w)
    → IfSome word (IsAt taking told line (spans ++ span ∷ behind))
at_word taking told line spans bytes span behind None taken named = tt
at_word taking told line spans bytes span behind (Some w) taken named =
    record { before = spans; span = span; behind = behind; place = refl; named = named; served = served taking told line spans bytes taken }

IsAt-refused : (taking : Taking) (told : Option Files) (line : List ℕ) (spans : List Span) (bytes : List ℕ) (span : Span) (behind : List Span) (refusal : Refusal)
    → TakenSo taking told line spans bytes → IfSome (refused_word refusal) (λ w. span.word ≡ w)
    → IfSome (refused_word refusal) (IsAt taking told line (spans ++ span ∷ behind))
IsAt-refused taking told line spans bytes span behind refusal taken named = at_word taking told line spans bytes span behind (refused_word refusal) taken named

-- a list, cut before and after one of its elements
split_at : (spans : List Span) (place : ℕ) (other : Span) → place < length spans → spans ≡ take place spans ++ get_or spans place other ∷ drop (suc place) spans
split_at spans place other within = sym (rw (← drop-cons spans place other within) (take-append-drop place spans))

-- the result for a file, if the files are still those of the beginning
PieceIs-kept : (taking : Taking) (told now : Option Files) (line : List ℕ) (used bytes : ℕ) (span : Span) (result : Result (List ℕ) Refusal)
    → now ≡ told → used ≡ bytes → PieceIs taking now line used span result → PieceIs taking told line bytes span result
PieceIs-kept taking told now line used bytes span result kept same is =
    subst (λ files. PieceIs taking files line bytes span result) kept (subst (λ n. PieceIs taking now line n span result) same is)

-- if the next file of a list is refused, its refusal is the result for the whole list
pub PartIs-stopped : (taking : Taking) (told now : Option Files) (line : List ℕ) (spans : List Span) (place : ℕ) (other : Span) (bytes : List ℕ) (used : ℕ) (refusal : Refusal)
    → place < length spans → TakenSo taking told line (take place spans) bytes → now ≡ told → used ≡ length bytes
    → PieceIs taking now line used (get_or spans place other) (Err refusal)
    → PartIs taking told line spans (Err refusal)
PartIs-stopped taking told now line spans place other bytes used refusal within taken kept same is =
    subst (λ all. PartIs taking told line all (Err refusal)) (sym (split_at spans place other within))
    (PartIs-refused taking told line (take place spans) bytes (get_or spans place other) (drop (suc place) spans) refusal taken
    (PieceIs-kept taking told now line used (length bytes) (get_or spans place other) (Err refusal) kept same is))

pub IsAt-stopped : (taking : Taking) (told : Option Files) (line : List ℕ) (spans : List Span) (place : ℕ) (other : Span) (bytes : List ℕ) (refusal : Refusal)
    → place < length spans → TakenSo taking told line (take place spans) bytes
    → IfSome (refused_word refusal) (λ w. (get_or spans place other).word ≡ w)
    → IfSome (refused_word refusal) (IsAt taking told line spans)
IsAt-stopped taking told line spans place other bytes refusal within taken named =
    subst (λ all. IfSome (refused_word refusal) (IsAt taking told line all)) (sym (split_at spans place other within))
    (IsAt-refused taking told line (take place spans) bytes (get_or spans place other) (drop (suc place) spans) refusal taken named)

-- the next file of a list is taken
pub TakenSo-next : (taking : Taking) (told now : Option Files) (line : List ℕ) (spans : List Span) (place : ℕ) (other : Span) (bytes : List ℕ) (used : ℕ) (piece : List ℕ)
    → place < length spans → TakenSo taking told line (take place spans) bytes → now ≡ told → used ≡ length bytes
    → PieceIs taking now line used (get_or spans place other) (Ok piece)
    → TakenSo taking told line (take (place + 1) spans) (bytes ++ piece)
TakenSo-next taking told now line spans place other bytes used piece within taken kept same is =
    rw (take_more spans place other within)
    (TakenSo-more taking told line (take place spans) bytes (get_or spans place other) piece taken
    (PieceIs-kept taking told now line used (length bytes) (get_or spans place other) (Ok piece) kept same is))
