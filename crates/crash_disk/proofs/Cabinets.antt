-- Files by their names.
use Rattle.std.proofs.Common.{◌≡◌, ℕ, ◌+◌, Bool, true, false, cond, List, [], ◌∷◌, ◌++◌, set, get_or, Option, Some, None, option_map, bytes_eq, refl, ap, ◌∙◌, sym, add-one, true≢false}
use mathlib.Core.Path.{fun_ext}
use Rattle.std.proofs.lemmas.Slice.Eq.{bytes_eq-Decides}
use Rattle.block_traits.specs.Cabinet.{with_file}
use Rattle.crash_disk.specs.declared.mem_cabinet.NamedFile.{NamedFile}
use Rattle.crash_disk.specs.MemCabinet.{file_in, file_place, files_of}

-- a file in the place of the first of its name, or after all others
abbrev pub replaced : NamedFile → List NamedFile → List NamedFile
replaced new [] = new ∷ []
replaced new (file ∷ files) = cond (bytes_eq file.name new.name) (new ∷ files) (file ∷ replaced new files)

-- a file at a place that was found, or after all others
abbrev pub put_at : Option ℕ → NamedFile → List NamedFile → List NamedFile
put_at None new files = files ++ new ∷ []
put_at (Some place) new files = set files place new

put_at-next : (place : Option ℕ) (new file : NamedFile) (files : List NamedFile) → put_at (option_map (λ n. n + 1) place) new (file ∷ files) ≡ file ∷ put_at place new files
put_at-next None new file files = refl
put_at-next (Some n) new file files = rw add-one refl

-- whether the head has the name
put_at-step : (same : Bool) (place : Option ℕ) (new file : NamedFile) (files others : List NamedFile) → put_at place new files ≡ others → put_at (cond same (Some 0) (option_map (λ n. n + 1) place)) new (file ∷ files) ≡ cond same (new ∷ files) (file ∷ others)
put_at-step true place new file files others behind = refl
put_at-step false place new file files others behind = put_at-next place new file files ∙ ap (λ (l : List NamedFile). file ∷ l) behind

put_at-file_place : (new : NamedFile) (files : List NamedFile) → put_at (file_place new.name files) new files ≡ replaced new files
put_at-file_place new [] = refl
put_at-file_place new (file ∷ files) =
    put_at-step (bytes_eq file.name new.name) (file_place new.name files) new file files (replaced new files) (put_at-file_place new files)

same_name : (a b : List ℕ) → bytes_eq a b ≡ true → a ≡ b
same_name a b test = (bytes_eq-Decides a b).0 test

bytes_eq-sym : (a b : List ℕ) → bytes_eq a b ≡ bytes_eq b a
bytes_eq-sym a b = both (bytes_eq a b) (bytes_eq b a) (λ yes. (bytes_eq-Decides b a).1 (sym (same_name a b yes))) (λ yes. (bytes_eq-Decides a b).1 (sym (same_name b a yes)))
  where
    both : (p q : Bool) → (p ≡ true → q ≡ true) → (q ≡ true → p ≡ true) → p ≡ q
    both true q to from = sym (to refl)
    both false true to from = from refl
    both false false to from = refl

-- the head of the list stays, since no name is that of both
found_later : (first new : Bool) (bytes new_bytes other : Option (List ℕ)) → (first ≡ true → new ≡ true → ⊥) → cond first bytes (cond new new_bytes other) ≡ cond new new_bytes (cond first bytes other)
found_later true true bytes new_bytes other apart = absurd (apart refl refl)
found_later true false bytes new_bytes other apart = refl
found_later false new bytes new_bytes other apart = refl

-- the head of the list is replaced: it has the new name
found_first : (first new : Bool) (bytes new_bytes other : Option (List ℕ)) → first ≡ new → cond new new_bytes other ≡ cond new new_bytes (cond first bytes other)
found_first first true bytes new_bytes other same = refl
found_first true false bytes new_bytes other same = absurd (true≢false same)
found_first false false bytes new_bytes other same = refl

file_in-step : (same : Bool) (name : List ℕ) (new file : NamedFile) (files others : List NamedFile) → bytes_eq file.name new.name ≡ same → file_in name others ≡ cond (bytes_eq new.name name) (Some new.bytes) (file_in name files) → file_in name (cond same (new ∷ files) (file ∷ others)) ≡ cond (bytes_eq new.name name) (Some new.bytes) (file_in name (file ∷ files))
file_in-step true name new file files others is behind =
    found_first (bytes_eq file.name name) (bytes_eq new.name name) (Some file.bytes) (Some new.bytes) (file_in name files)
    (ap (λ (n : List ℕ). bytes_eq n name) (same_name file.name new.name is))
file_in-step false name new file files others is behind =
    ap (cond (bytes_eq file.name name) (Some file.bytes)) behind
    ∙ found_later (bytes_eq file.name name) (bytes_eq new.name name) (Some file.bytes) (Some new.bytes) (file_in name files)
    (λ first second. true≢false (sym ((bytes_eq-Decides file.name new.name).1 (same_name file.name name first ∙ sym (same_name new.name name second))) ∙ is))

file_in-replaced : (name : List ℕ) (new : NamedFile) (files : List NamedFile) → file_in name (replaced new files) ≡ cond (bytes_eq new.name name) (Some new.bytes) (file_in name files)
file_in-replaced name new [] = refl
file_in-replaced name new (file ∷ files) =
    file_in-step (bytes_eq file.name new.name) name new file files (replaced new files) refl (file_in-replaced name new files)

-- a file that was put at the place that was found for its name
pub files_of-put_at : (name bytes : List ℕ) (files : List NamedFile) (place : Option ℕ) (new : NamedFile) → place ≡ file_place name files → new ≡ record { name = name; bytes = bytes } → files_of (put_at place new files) ≡ with_file name bytes (files_of files)
files_of-put_at name bytes files place new found is =
    let file : NamedFile = record { name = name; bytes = bytes } in
    ap (λ (n : NamedFile). files_of (put_at place n files)) is
    ∙ ap (λ (p : Option ℕ). files_of (put_at p file files)) found
    ∙ fun_ext (λ other.
    ap (file_in other) (put_at-file_place file files)
    ∙ file_in-replaced other file files
    ∙ ap (λ (b : Bool). cond b (Some bytes) (file_in other files)) (bytes_eq-sym name other))

-- whether the head has the name
bytes_at-step : (same : Bool) (place : Option ℕ) (other file : NamedFile) (files : List NamedFile) → cond same (Some file.bytes) (option_map (λ n. (get_or files n other).bytes) place) ≡ option_map (λ n. (get_or (file ∷ files) n other).bytes) (cond same (Some 0) (option_map (λ n. n + 1) place))
bytes_at-step true place other file files = refl
bytes_at-step false None other file files = refl
bytes_at-step false (Some n) other file files = rw add-one refl

-- the bytes of the file at the place that is found for its name
pub file_in-file_place : (name : List ℕ) (files : List NamedFile) (other : NamedFile) → file_in name files ≡ option_map (λ n. (get_or files n other).bytes) (file_place name files)
file_in-file_place name [] other = refl
file_in-file_place name (file ∷ files) other =
    ap (cond (bytes_eq file.name name) (Some file.bytes)) (file_in-file_place name files other)
    ∙ bytes_at-step (bytes_eq file.name name) (file_place name files) other file files
