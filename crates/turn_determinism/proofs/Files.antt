-- Steps that load files and store them.
use Rattle.std.proofs.Common.{◌≡◌, ◌≢◌, ◌∙◌, inl, inr, ℕ, ◌≤◌, List, ◌++◌, length, refl, ap, sym, subst, Bool, true, false, Option, None, Some, Result, Ok, Err, IfErr, IfSome}
use Rattle.command_rows.specs.Rows.{BacksUp, LoadsComponents, LoadsFile, Reach, StoreAnswers, StoresBytes, StoresFile}
use Rattle.command_rows.specs.Vocabulary.{CabinetState, Components, Files, IsAnswer, KeyWords, LoadsEach, MayRefuse, MayRefusePassphrase, Metadata, Refusal, Rose, Span, StopsAtFile, bytes_at, components_of, encoded, file_answer, file_limit}
use Rattle.eli_base.specs.declared.refusals.Refusal.TheVariants as refusals
use Rattle.command_rows.specs.verbs.Verify.{FindsPlace, LoadsPlace, place_in, place_size, unless_absent}
use Rattle.turn_determinism.specs.Same.{IsSameCount, LoadsUnlessMissed}
use Rattle.turn_determinism.proofs.Alike.{Alike, AlikeCabinet, counted_same, keeps_alike, still_disk, still_entropy, stored_alike, uncounted_same}
use Rattle.turn_determinism.proofs.Deciding.{decides_sure}
use Rattle.turn_determinism.proofs.Disks.{same_holding}
use Rattle.turn_determinism.proofs.Steps.{Both, HasMemory, Later, ResultLoads, Settled, Sure, same_disk_later, same_entropy_later, settled, then_sure}

-- ---- steps that keep all but the cabinet

cabinet_later : (old new : Reach) → old.cabinet.faults ≤ new.cabinet.faults → new.disk ≡ old.disk → new.entropy ≡ old.entropy → Later old new
cabinet_later old new cabinet disk entropy =
    record { disk = same_disk_later old.disk new.disk disk; cabinet = cabinet; entropy = same_entropy_later old.entropy new.entropy entropy }

cabinet_alike : (old old' new new' : Reach) → Alike old old' → AlikeCabinet new.cabinet new'.cabinet → new.disk ≡ old.disk → new'.disk ≡ old'.disk → new.holding ≡ old.holding → new'.holding ≡ old'.holding
    → new.entropy ≡ old.entropy → new'.entropy ≡ old'.entropy → Alike new new'
cabinet_alike old old' new new' same cabinet disk disk' holding holding' entropy entropy' = record {
  disk = still_disk old.disk old'.disk new.disk new'.disk same.disk disk disk';
  holding = same_holding old old' new new' same holding holding';
  cabinet = cabinet;
  entropy = still_entropy old.entropy old'.entropy new.entropy new'.entropy same.entropy entropy entropy';
}

-- ---- what is loaded

-- what is returned of files that are reported, but for a fault of the cabinet and want of memory
answer_is : {A : Type 0} (expected answer : Result A Refusal) → HasMemory answer → ((word : ℕ) → answer ≢ Err (refusals.CabinetFault word)) → IsAnswer expected answer → answer ≡ expected
answer_is expected (Ok value) memory unfailed h = h
answer_is expected (Err (refusals.CabinetFault word)) memory unfailed h = absurd (unfailed word refl)
answer_is expected (Err refusals.NoMemory) memory unfailed h = absurd (memory refl)
answer_is expected (Err refusal) memory unfailed h = h

told_is : {A : Type 0} (told : Option Files) (files : Files) (expected : Files → Result A Refusal) (answer : Result A Refusal) → told ≡ Some files → HasMemory answer → ((word : ℕ) → answer ≢ Err (refusals.CabinetFault word))
    → IfSome told (λ f. IsAnswer (expected f) answer) → answer ≡ expected files
told_is told files expected answer is memory unfailed h =
    let P : Option Files → Type 0 = λ o. IfSome o (λ f. IsAnswer (expected f) answer) in
    answer_is (expected files) answer memory unfailed (subst P is h)

stopped_rose : (line : List ℕ) (words : KeyWords) (old new : CabinetState) (word : ℕ) → StopsAtFile line words old (refusals.CabinetFault word) new → Rose old.faults new.faults
stopped_rose line words old new word (inl h) = h.cause
stopped_rose line words old new word (inr h) = h.cause

components_unfailed : (line : List ℕ) (words : KeyWords) (old new : CabinetState) (answer : Result Components Refusal) → ¬ Rose old.faults new.faults → IfErr answer (λ refusal. StopsAtFile line words old refusal new)
    → (word : ℕ) → answer ≢ Err (refusals.CabinetFault word)
components_unfailed line words old new answer quiet h word is =
    let P : Result Components Refusal → Type 0 = λ r. IfErr r (λ refusal. StopsAtFile line words old refusal new) in
    quiet (stopped_rose line words old new word (subst P is h))

file_unfailed : (limit : ℕ) (old new : CabinetState) (answer : Result (List ℕ) Refusal) → ¬ Rose old.faults new.faults → IfErr answer (MayRefuse limit old new) → (word : ℕ) → answer ≢ Err (refusals.CabinetFault word)
file_unfailed limit old new answer quiet h word is =
    let P : Result (List ℕ) Refusal → Type 0 = λ r. IfErr r (MayRefuse limit old new) in
    quiet (subst P is h)

-- what a refusal of a file says of the loads, if the cabinet doesn't fail and there is memory
missed_by : (limit : ℕ) (old new : CabinetState) (refusal : Refusal) (c c' : CabinetState) → refusal ≢ refusals.NoMemory → ¬ Rose old.faults new.faults → MayRefuse limit old new refusal → LoadsUnlessMissed refusal c c'
missed_by limit old new (refusals.CabinetFault word) c c' memory quiet h = absurd (quiet h)
missed_by limit old new (refusals.FileAbsent word) c c' memory quiet h = tt
missed_by limit old new (refusals.FileTooLong word passed) c c' memory quiet h = tt
missed_by limit old new refusals.NoMemory c c' memory quiet h = absurd (memory refl)
missed_by limit old new refusal c c' memory quiet h = absurd h

missed_passphrase : (old new : CabinetState) (refusal : Refusal) (c c' : CabinetState) → refusal ≢ refusals.NoMemory → ¬ Rose old.faults new.faults → MayRefusePassphrase old new refusal → LoadsUnlessMissed refusal c c'
missed_passphrase old new (refusals.FileTooLong word passed) c c' memory quiet h = tt
missed_passphrase old new refusal c c' memory quiet h = missed_by file_limit old new refusal c c' memory quiet h

missed_at : (line : List ℕ) (words : KeyWords) (old new : CabinetState) (refusal : Refusal) (c c' : CabinetState) → refusal ≢ refusals.NoMemory → ¬ Rose old.faults new.faults → StopsAtFile line words old refusal new → LoadsUnlessMissed refusal c c'
missed_at line words old new refusal c c' memory quiet (inl h) = missed_by file_limit old new refusal c c' memory quiet h.cause
missed_at line words old new refusal c c' memory quiet (inr h) = missed_passphrase old new refusal c c' memory quiet h.cause

-- how many files were loaded, unless one is refused
loaded_all : (line : List ℕ) (words : KeyWords) (files : List Span) (answer : Result Components Refusal) (c c' b b' : CabinetState) → IsSameCount c.loads c'.loads → HasMemory answer → ¬ Rose c.faults b.faults
    → IfErr answer (λ refusal. StopsAtFile line words c refusal b) → LoadsEach files c answer b → LoadsEach files c' answer b' → ResultLoads answer b b'
loaded_all line words files (Ok value) c c' b b' same memory quiet stops h h' = counted_same (length files) same h h'
loaded_all line words files (Err refusal) c c' b b' same memory quiet stops h h' =
    missed_at line words c b refusal b b' (λ is. memory (ap (λ (r : Refusal). Err r) is)) quiet stops

components_settled : (line : List ℕ) (words : KeyWords) (old old' : Reach) (answer answer' : Result Components Refusal) (new new' : Reach) → (both : Both old old' new new') → HasMemory answer → HasMemory answer'
    → LoadsComponents line words old answer new → LoadsComponents line words old' answer' new' → Settled both.counts answer answer' new new'
components_settled line words old old' answer answer' new new' both memory memory' h h' =
    let files : Files = both.same.cabinet.files in
    let is = told_is old.cabinet.files files (λ f. components_of f line words) answer both.same.cabinet.told memory
    (components_unfailed line words old.cabinet new.cabinet answer both.quiet.cabinet h.stops) h.told in
    let is' = told_is old'.cabinet.files files (λ f. components_of f line words) answer' both.same.cabinet.told' memory'
    (components_unfailed line words old'.cabinet new'.cabinet answer' both.quiet'.cabinet h'.stops) h'.told in
    let agrees : answer' ≡ answer = is' ∙ sym is in
    let spans : List Span = words.files ++ words.pass in
    let P : Result Components Refusal → Type 0 = λ r. LoadsEach spans old'.cabinet r new'.cabinet in
    record {
      agrees = agrees;
      same = cabinet_alike old old' new new' both.same (keeps_alike old.cabinet old'.cabinet new.cabinet new'.cabinet both.same.cabinet h.keeps.files h'.keeps.files h.unstored h'.unstored) h.disk h'.disk h.holding h'.holding h.entropy h'.entropy;
      loads = λ on. loaded_all line words spans answer old.cabinet old'.cabinet new.cabinet new'.cabinet (both.loads on) memory both.quiet.cabinet h.stops h.asked (subst P agrees h'.asked);
    }

pub components_sure : (line : List ℕ) (words : KeyWords) → Sure (LoadsComponents line words)
components_sure line words = record { goes = λ old answer new h. cabinet_later old new h.keeps.faults h.disk h.entropy; settles = components_settled line words }

file_settled : (limit : ℕ) (line : List ℕ) (file : Span) (old old' : Reach) (answer answer' : Result (List ℕ) Refusal) (new new' : Reach) → (both : Both old old' new new') → HasMemory answer → HasMemory answer'
    → LoadsFile limit line file old answer new → LoadsFile limit line file old' answer' new' → Settled both.counts answer answer' new new'
file_settled limit line file old old' answer answer' new new' both memory memory' h h' =
    let files : Files = both.same.cabinet.files in
    let is = told_is old.cabinet.files files (λ f. file_answer file.word limit (f (bytes_at line file))) answer both.same.cabinet.told memory
    (file_unfailed limit old.cabinet new.cabinet answer both.quiet.cabinet h.cause) h.told in
    let is' = told_is old'.cabinet.files files (λ f. file_answer file.word limit (f (bytes_at line file))) answer' both.same.cabinet.told' memory'
    (file_unfailed limit old'.cabinet new'.cabinet answer' both.quiet'.cabinet h'.cause) h'.told in
    settled both.counts answer answer' new new' (is' ∙ sym is)
    (cabinet_alike old old' new new' both.same (keeps_alike old.cabinet old'.cabinet new.cabinet new'.cabinet both.same.cabinet h.keeps.files h'.keeps.files h.unstored h'.unstored) h.disk h'.disk h.holding h'.holding h.entropy h'.entropy)
    (λ on. counted_same 1 (both.loads on) h.asked h'.asked)

pub file_sure : (limit : ℕ) (line : List ℕ) (file : Span) → Sure (LoadsFile limit line file)
file_sure limit line file = record { goes = λ old answer new h. cabinet_later old new h.keeps.faults h.disk h.entropy; settles = file_settled limit line file }

-- ---- the file of a place

absent_memory : (loaded : Result (List ℕ) Refusal) → HasMemory (unless_absent loaded) → HasMemory loaded
absent_memory loaded memory is = memory (ap unless_absent is)

place_file_settled : (line : List ℕ) (file : Span) (old old' : Reach) (answer answer' : Result (Option (List ℕ)) Refusal) (new new' : Reach) → (both : Both old old' new new') → HasMemory answer → HasMemory answer'
    → LoadsPlace line file old answer new → LoadsPlace line file old' answer' new' → Settled both.counts answer answer' new new'
place_file_settled line file old old' answer answer' new new' both memory memory' h h' =
    let R : Type 0 = Result (Option (List ℕ)) Refusal in
    let P : R → Type 0 = λ r. HasMemory r in
    let s = file_settled place_size line file old old' h.loaded h'.loaded new new' both (absent_memory h.loaded (subst P h.answered memory)) (absent_memory h'.loaded (subst P h'.answered memory')) h.loads h'.loads in
    settled both.counts answer answer' new new' (h'.answered ∙ ap unless_absent s.agrees ∙ sym h.answered) s.same (λ on. counted_same 1 (both.loads on) h.loads.asked h'.loads.asked)

place_file_sure : (line : List ℕ) (file : Span) → Sure (LoadsPlace line file)
place_file_sure line file = record { goes = λ old answer new h. cabinet_later old new h.loads.keeps.faults h.loads.disk h.loads.entropy; settles = place_file_settled line file }

pub finds_place_sure : (restart : Bool) (line : List ℕ) (file : Span) → Sure (FindsPlace restart line file)
finds_place_sure true line file = decides_sure (Ok 0)
finds_place_sure false line file = then_sure (place_file_sure line file) (λ found. decides_sure (place_in file.word found))

-- ---- what is stored

stored_later : (line : List ℕ) (span : Span) (bytes : List ℕ) (old : CabinetState) (answer : Result (Unit {0}) Refusal) (new : CabinetState) → StoreAnswers line span bytes old answer new → old.faults ≤ new.faults
stored_later line span bytes old (Ok done) new h = h.faults
stored_later line span bytes old (Err (refusals.CabinetFault word)) new h = h.2.faults
stored_later line span bytes old (Err refusals.NoMemory) new h = h.faults
stored_later line span bytes old (Err refusal) new h = absurd h

stored_is : (line : List ℕ) (span : Span) (bytes : List ℕ) (old : CabinetState) (answer : Result (Unit {0}) Refusal) (new : CabinetState) → HasMemory answer → ¬ Rose old.faults new.faults → StoreAnswers line span bytes old answer new
    → (answer ≡ Ok tt) × StoresFile (bytes_at line span) bytes old new
stored_is line span bytes old (Ok done) new memory quiet h = (refl, h)
stored_is line span bytes old (Err (refusals.CabinetFault word)) new memory quiet h = absurd (quiet h.1)
stored_is line span bytes old (Err refusals.NoMemory) new memory quiet h = absurd (memory refl)
stored_is line span bytes old (Err refusal) new memory quiet h = absurd h

stores_settled : (line : List ℕ) (span : Span) (bytes : List ℕ) (old old' : Reach) (answer answer' : Result (Unit {0}) Refusal) (new new' : Reach) → (both : Both old old' new new') → HasMemory answer → HasMemory answer'
    → StoresBytes line span bytes old answer new → StoresBytes line span bytes old' answer' new' → Settled both.counts answer answer' new new'
stores_settled line span bytes old old' answer answer' new new' both memory memory' h h' =
    let is = stored_is line span bytes old.cabinet answer new.cabinet memory both.quiet.cabinet h.stores in
    let is' = stored_is line span bytes old'.cabinet answer' new'.cabinet memory' both.quiet'.cabinet h'.stores in
    settled both.counts answer answer' new new' (is'.0 ∙ sym is.0)
    (cabinet_alike old old' new new' both.same (stored_alike (bytes_at line span) bytes old.cabinet old'.cabinet new.cabinet new'.cabinet both.same.cabinet is.1.files is'.1.files h.stored h'.stored) h.disk h'.disk h.holding h'.holding h.entropy h'.entropy)
    (λ on. uncounted_same (both.loads on) h.unasked h'.unasked)

pub stores_sure : (line : List ℕ) (span : Span) (bytes : List ℕ) → Sure (StoresBytes line span bytes)
stores_sure line span bytes = record { goes = λ old answer new h. cabinet_later old new (stored_later line span bytes old.cabinet answer new.cabinet h.stores) h.disk h.entropy; settles = stores_settled line span bytes }

pub backs_up_sure : (line : List ℕ) (backup : Option Span) (m : Metadata) → Sure (BacksUp line backup m)
backs_up_sure line None m = decides_sure (Ok tt)
backs_up_sure line (Some span) m = stores_sure line span (encoded m)
