-- What names have after one more change.
use Rattle.std.proofs.Common.{◌≡◌, ◌∙◌, ap, refl, sym, subst, ℕ, ◌+◌, ◌<◌, List, [], ◌∷◌, ◌++◌, Bool, true, false, cond, length, take, drop, Option, None, Some, slice_get, get_or}
use Rattle.std.proofs.Math.Seq.{take-length}
use Rattle.std.specs.Prelude.{IfSome, option_map, string_bytes}
use Rattle.std.specs.Str.{bytes_eq}
use Rattle.std.specs.declared.vec.Vec.{Vec}
use Rattle.std.proofs.lemmas.List.{take_more}
use Rattle.std.proofs.lemmas.Option.{slice_get_read}
use Rattle.std.proofs.lemmas.Slice.Eq.{bytes_eq-Decides}
use Rattle.file_edge.specs.Names.{Absent, Failing, Holds, MakesName, Named, NameMap, NamedFiles, RenamesName, WritesNew, appended, made_empty, renamed, with_name, with_new, without_name, written_behind}
use Rattle.file_edge.specs.declared.found.FileId.{FileId}
use Rattle.edge_tests.specs.Change.{HasFile, after_changes, changed, given_named, named_at, named_in, nothing}
use Rattle.edge_tests.specs.declared.change.Change.{Change}

pub after_push : (named : NameMap) (changes : List Change) (change : Change) → after_changes named (changes ++ change ∷ []) ≡ changed change (after_changes named changes)
after_push named [] change = refl
after_push named (first ∷ changes) change = after_push (changed first named) changes change

-- a name that is given what it has has it
pub same_named : (named : NameMap) (name : List ℕ) → with_name name (named name) named ≡ named
same_named named name = λ i other. same_at (bytes_eq other name) other refl i
  where
    same_at : (is : Bool) (other : List ℕ) → bytes_eq other name ≡ is → cond is (named name) (named other) ≡ named other
    same_at true other is = sym (ap named ((bytes_eq-Decides other name).0 is))
    same_at false other is = refl

-- ---- the last change of a name

one_more : (changes : List Change) (i : ℕ) (change : Change) → i < length changes → get_or changes i change ≡ change
    → after_changes nothing (take (i + 1) changes) ≡ changed change (after_changes nothing (take i changes))
one_more changes i change inside here =
    ap (after_changes nothing) (take_more changes i change inside ∙ ap (λ (c : Change). take i changes ++ c ∷ []) here) ∙ after_push nothing (take i changes) change

-- the change at i is of the name
pub found : (changes : List Change) (i : ℕ) (change : Change) (name : List ℕ) → i < length changes → get_or changes i change ≡ change → string_bytes change.name ≡ name
    → named_at changes (Some i) ≡ after_changes nothing (take (i + 1) changes) name
found changes i change name inside here same =
    let is : bytes_eq name (string_bytes change.name) ≡ true = (bytes_eq-Decides name (string_bytes change.name)).1 (sym same) in
    ap named_in (slice_get_read changes (length changes) i change refl inside (sym here))
    ∙ sym (ap (λ (b : Bool). cond b (given_named change.id change.bytes) (after_changes nothing (take i changes) name)) is)
    ∙ sym (ap (λ (named : NameMap). named name) (one_more changes i change inside here))

-- the change at i is of another name
pub passed : (changes : List Change) (last : Option ℕ) (i : ℕ) (change : Change) (name : List ℕ) → i < length changes → get_or changes i change ≡ change → (string_bytes change.name ≡ name → ⊥)
    → named_at changes last ≡ after_changes nothing (take i changes) name → named_at changes last ≡ after_changes nothing (take (i + 1) changes) name
passed changes last i change name inside here other before =
    before ∙ sym (by_test (bytes_eq name (string_bytes change.name)) refl) ∙ sym (ap (λ (named : NameMap). named name) (one_more changes i change inside here))
  where
    by_test : (is : Bool) → bytes_eq name (string_bytes change.name) ≡ is → cond is (given_named change.id change.bytes) (after_changes nothing (take i changes) name) ≡ after_changes nothing (take i changes) name
    by_test true is = absurd (other (sym ((bytes_eq-Decides name (string_bytes change.name)).0 is)))
    by_test false is = refl

-- one more change of a name
pub given : (changes new : List Change) (change : Change) (name : List ℕ) → new ≡ changes ++ change ∷ [] → string_bytes change.name ≡ name
    → after_changes nothing new ≡ with_name name (given_named change.id change.bytes) (after_changes nothing changes)
given changes new change name is same =
    ap (after_changes nothing) is ∙ after_push nothing changes change ∙ ap (λ (n : List ℕ). with_name n (given_named change.id change.bytes) (after_changes nothing changes)) same
