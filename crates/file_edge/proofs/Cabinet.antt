-- What a cabinet reports of what names have.
use Rattle.std.proofs.Common.{◌≡◌, ◌⊎◌, ◌∙◌, inl, inr, ap, refl, subst, sym, List, ℕ, Bool, true, false, cond, ◌==◌, Option, None, Some, Result, Ok, Err}
use Rattle.std.specs.Bool.{Decides}
use Rattle.std.specs.IoError.{error_kind}
use Rattle.std.specs.Prelude.{Contains, IfSome, IsErr, option_map}
use Rattle.std.specs.Str.{IsUtf8, bytes_eq, is_utf8}
use Rattle.std.specs.declared.io.Error.{Error}
use Rattle.std.specs.declared.io.ErrorKind.{ErrorKind}
use Rattle.std.specs.declared.io.ErrorKind.TheVariants.{NotFound, OutOfMemory}
use Rattle.std.proofs.lemmas.Bool.Decides.{Decides-and, Decides-by_or, Decides-eqb}
use Rattle.std.proofs.lemmas.List.Elements.{Decides-contains}
use Rattle.std.proofs.lemmas.Slice.Eq.{bytes_eq-Decides}
use Rattle.std.proofs.lemmas.Str.{IsUtf8-from_is_utf8, is_utf8-from_IsUtf8}
use Rattle.block_traits.specs.Cabinet.{Answers, LoadGives, load_answer, stored}
use Rattle.block_traits.specs.declared.cabinet.LoadFault.{LoadFault}
use Rattle.block_traits.specs.declared.cabinet.LoadFault.TheVariants as load
use Rattle.file_edge.specs.FileCabinet.{LoadAnswers, LoadsNamed, LoadsOpened, fault_of, loaded_answer, read_fault}
use Rattle.file_edge.specs.Found.{IsOneOfImages}
use Rattle.file_edge.specs.Names.{Absent, Failing, Holds, IsThatFile, Named, NameMap, NamedFiles, OpensTold, OpensWhat, bytes_beside, files_beside, is_among, named_of, same_file, told_files, with_name}
use Rattle.file_edge.specs.declared.found.FileId.{FileId}
use Rattle.file_edge.specs.declared.found.Found.{Found}
use Rattle.file_edge.specs.declared.image_file.ImageFile as image_file
use Rattle.file_edge.specs.declared.opener.Opener as opener

-- ---- files by which they are

decides_file : (one other : FileId) → Decides (same_file one other) (one ≡ other)
decides_file one other =
    let both = Decides-and (one.device == other.device) (one.number == other.number) (Decides-eqb one.device other.device) (Decides-eqb one.number other.number) in (
      λ is. let same : (one.device ≡ other.device) × (one.number ≡ other.number) = both.0 is in (λ i. record { device = same.0 i; number = same.1 i }),
      λ same. both.1 (ap (λ (id : FileId). id.device) same, ap (λ (id : FileId). id.number) same),
    )

among_decides : (images : List FileId) (id : FileId) → Decides (is_among images id) (Contains images id)
among_decides images id =
    Decides-contains images id (is_among images id) (Decides-by_or (λ image. same_file image id) (λ image. image ≡ id) (λ all. is_among all id) (λ image. decides_file image id) refl (λ _ _. refl) images)

not_among : (images : List FileId) (id : FileId) (is : Bool) → is_among images id ≡ is → (Contains images id → ⊥) → is ≡ false
not_among images id true same other = absurd (other ((among_decides images id).0 same))
not_among images id false same other = refl

among_or_not : (images : List FileId) (id : FileId) (is : Bool) → is_among images id ≡ is → Contains images id ⊎ (Contains images id → ⊥)
among_or_not images id true same = inl ((among_decides images id).0 same)
among_or_not images id false same = inr (λ contains. let yes : is_among images id ≡ true = (among_decides images id).1 contains in absurd (cc (yes, same)))

image_or_not : (images : List FileId) (found : Result Found Error) → IsOneOfImages images found ⊎ (IsOneOfImages images found → ⊥)
image_or_not images (Err error) = inl tt
image_or_not images (Ok found) = among_or_not images found.id (is_among images found.id) refl

-- ---- a store

stored_here : (images : List FileId) (bytes : List ℕ) (here text : Bool) (had : Named) → (here ≡ true → text ≡ true)
    → cond text (bytes_beside images (cond here (Holds None bytes) had)) None ≡ cond here (Some bytes) (cond text (bytes_beside images had) None)
stored_here images bytes true text had h = ap (λ (t : Bool). cond t (Some bytes) None) (h refl)
stored_here images bytes false text had h = refl

stored_map : (images : List FileId) (name bytes : List ℕ) (told : Option NameMap) → is_utf8 name ≡ true
    → option_map (files_beside images) (option_map (with_name name (Holds None bytes)) told) ≡ stored name bytes (option_map (files_beside images) told)
stored_map images name bytes None text = refl
stored_map images name bytes (Some named) text =
    ap Some (λ i other. stored_here images bytes (bytes_eq other name) (is_utf8 other) (named other) (λ here. ap is_utf8 ((bytes_eq-Decides other name).0 here) ∙ text) i)

-- a file under a name is one more file of the cabinet
pub stored_files : (images : List FileId) (name bytes : List ℕ) (old new : Option NamedFiles) → IsUtf8 name
    → named_of new ≡ option_map (with_name name (Holds None bytes)) (named_of old) → told_files images new ≡ stored name bytes (told_files images old)
stored_files images name bytes old new text is = ap (option_map (files_beside images)) is ∙ stored_map images name bytes (named_of old) (is_utf8-from_IsUtf8 name text)

-- ---- a load

refused : (answer : Result (List ℕ) LoadFault) (kind : ErrorKind) → (kind ≡ NotFound → ⊥) → Answers answer (Err (fault_of kind))
refused answer NotFound other = absurd (other refl)
refused answer OutOfMemory other = tt
refused answer kind other = tt

refused_absent : (kind : ErrorKind) → Answers (Err load.Absent) (Err (fault_of kind))
refused_absent NotFound = refl
refused_absent OutOfMemory = tt
refused_absent kind = tt

unread : (kind : ErrorKind) → Answers (Err load.Absent) (Err (read_fault kind))
unread OutOfMemory = tt
unread kind = tt

known_answers : (known : Option (List ℕ)) (bytes : List ℕ) (limit : ℕ) (result : Result (List ℕ) LoadFault) → known ≡ Some bytes → LoadAnswers known limit result → Answers (load_answer (Some bytes) limit) result
known_answers known bytes limit (Err load.Absent) is answers = absurd answers
known_answers known bytes limit (Err load.TooLong) is answers = let P : Option (List ℕ) → Type 0 = λ k. IfSome k (λ b. Answers (load_answer (Some b) limit) (Err load.TooLong)) in subst P is answers
known_answers known bytes limit (Err load.Failed) is answers = tt
known_answers known bytes limit (Err load.NoMemory) is answers = tt
known_answers known bytes limit (Ok loaded) is answers = let P : Option (List ℕ) → Type 0 = λ k. IfSome k (λ b. Answers (load_answer (Some b) limit) (Ok loaded)) in subst P is answers

module _ {O F : Type 0} (o : opener.Ghosts O F) (f : image_file.Ghosts F) (images : List FileId) (limit : ℕ) (result : Result (List ℕ) LoadFault) where
  failed : (answer : Result (List ℕ) LoadFault) → result ≡ Err load.Failed → Answers answer result
  failed answer is = let P : Result (List ℕ) LoadFault → Type 0 = λ r. Answers answer r in subst P (sym is) tt

  -- a file that is no image is none of them by the name under which it is reported
  which_bytes : (id : Option FileId) (bytes : List ℕ) (file : F) (found : Result Found Error) → IsThatFile f id file → f.tells file found
      → (IsOneOfImages images found → ⊥) → bytes_beside images (Holds id bytes) ≡ Some bytes
  which_bytes None bytes file found that tells other = refl
  which_bytes (Some which) bytes file (Err error) that tells other = absurd (other tt)
  which_bytes (Some which) bytes file (Ok found) that tells other =
      let same : found.id ≡ which = that found tells in
      let Q : FileId → Type 0 = λ id. Contains images id → ⊥ in
      let not : is_among images which ≡ false = not_among images which (is_among images which) refl (subst Q same other) in
      ap (λ (b : Bool). cond b None (Some bytes)) not

  of_bytes : (id : Option FileId) (bytes : List ℕ) (file : F) (found : Result Found Error) → f.left file ≡ Some bytes → IsThatFile f id file → f.tells file found
      → (IsOneOfImages images found → ⊥) → LoadAnswers (f.left file) limit result → Answers (load_answer (bytes_beside images (Holds id bytes)) limit) result
  of_bytes id bytes file found left that tells other answers =
      let P : Option (List ℕ) → Type 0 = λ k. Answers (load_answer k limit) result in
      subst P (sym (which_bytes id bytes file found that tells other)) (known_answers (f.left file) bytes limit result left answers)

  of_none : (file : F) (read : Result (List ℕ) Error) → IsErr read → result ≡ loaded_answer read limit → Answers (Err load.Absent) result
  of_none file (Ok bytes) is answered = absurd (cc is)
  of_none file (Err error) is answered = let P : Result (List ℕ) LoadFault → Type 0 = λ r. Answers (Err load.Absent) r in subst P (sym answered) (unread (error_kind error))

  of_opened : (has : Named) (opened : Result F Error) → OpensWhat f has opened → LoadsOpened o f images opened limit result → Answers (load_answer (bytes_beside images has) limit) result
  of_opened Absent (Ok file) has loads = absurd has
  of_opened Absent (Err error) has loads = let P : Result (List ℕ) LoadFault → Type 0 = λ r. Answers (Err load.Absent) r in subst P (sym loads) (refused_absent (error_kind error))
  of_opened (Holds id bytes) (Err error) has loads =
      let answer = load_answer (bytes_beside images (Holds id bytes)) limit in
      let P : Result (List ℕ) LoadFault → Type 0 = λ r. Answers answer r in
      subst P (sym loads) (refused answer (error_kind error) has)
  of_opened (Holds id bytes) (Ok file) has loads =
      elim (image_or_not images loads.found) [
        | inl image ↦ failed (load_answer (bytes_beside images (Holds id bytes)) limit) (loads.image image)
        | inr other ↦ of_bytes id bytes file loads.found has.0 has.1 loads.told other (loads.other other)
      ]
  of_opened Failing (Ok file) has loads =
      elim (image_or_not images loads.found) [
        | inl image ↦ failed (Err load.Absent) (loads.image image)
        | inr other ↦ let whole = loads.whole other in of_none file whole.read (has.fails _ whole.read whole.held) whole.answered
      ]
  of_opened Failing (Err error) has loads = let P : Result (List ℕ) LoadFault → Type 0 = λ r. Answers (Err load.Absent) r in subst P (sym loads) (refused_absent (error_kind error))

  module _ (name : List ℕ) (opened : Result F Error) where
    text_gives : (told : Option NamedFiles) → OpensTold f told name opened → LoadsOpened o f images opened limit result → IsUtf8 name → LoadGives (told_files images told) name limit result
    text_gives None opens loads text = tt
    text_gives (Some names) opens loads text =
        let P : Bool → Type 0 = λ b. Answers (load_answer (cond b (bytes_beside images (names.named name)) None) limit) result in
        subst P (sym (is_utf8-from_IsUtf8 name text)) (of_opened (names.named name) opened opens loads)

-- a name that is no text has no file
none_gives : (images : List FileId) (name : List ℕ) (limit : ℕ) (result : Result (List ℕ) LoadFault) (told : Option NamedFiles) (is : Bool) → is_utf8 name ≡ is → (IsUtf8 name → ⊥) → result ≡ Err load.Absent
    → LoadGives (told_files images told) name limit result
none_gives images name limit result None is same none answered = tt
none_gives images name limit result (Some names) true same none answered = absurd (none (IsUtf8-from_is_utf8 name same))
none_gives images name limit result (Some names) false same none answered =
    let P : Bool → Type 0 = λ b. Answers (load_answer (cond b (bytes_beside images (names.named name)) None) limit) result in
    let Q : Result (List ℕ) LoadFault → Type 0 = λ r. Answers (Err load.Absent) r in
    subst P (sym same) (subst Q (sym answered) refl)

-- what is loaded is what is reported of the name
pub named_gives : {O F : Type 0} (o : opener.Ghosts O F) (f : image_file.Ghosts F) (images : List FileId) (old : O) (name : List ℕ) (limit : ℕ) (result : Result (List ℕ) LoadFault) (new : O)
    → LoadsNamed o f images old name limit result new → LoadGives (told_files images (o.told old)) name limit result
named_gives o f images old name limit result new loads = by_text (is_utf8 name) refl
  where
    by_text : (is : Bool) → is_utf8 name ≡ is → LoadGives (told_files images (o.told old)) name limit result
    by_text true same =
        let text = IsUtf8-from_is_utf8 name same in
        let file = loads.text text in
        text_gives o f images limit result name file.opened (o.told old) file.told file.loads text
    by_text false same =
        let none : IsUtf8 name → ⊥ = λ text. let yes : is_utf8 name ≡ true = is_utf8-from_IsUtf8 name text in cc (yes, same) in
        none_gives images name limit result (o.told old) false same none (loads.no_text none).absent
