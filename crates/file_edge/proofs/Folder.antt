-- A name that is cut at its last slash.
use Rattle.std.proofs.Common.{◌≡◌, ◌∙◌, ◌==◌, ℕ, ◌+◌, ◌≤◌, Bool, true, false, cond, List, ◌∷◌, ◌++◌, length, take, drop, Option, Some, None, MatchOption, Bor, sym, ap, take-append-drop, arith}
use Rattle.std.proofs.lemmas.Str.Pattern.{NoCharPasses-char}
use Rattle.std.specs.Str.Pattern.{RFindsChar}
use Rattle.std.specs.Prelude.{codes, if◌then◌else◌}
use Rattle.file_edge.specs.Folder.{HasNoSlash}

pub record IsCut (name front : List ℕ) : Type 0 where
  pub last : List ℕ
  pub cut : name ≡ front ++ 47 ∷ last
  pub is_last : HasNoSlash last

pub cut_once : (name : List ℕ) (r : Option (Bor (List ℕ) × Bor (List ℕ)))
    → MatchOption r (RFindsChar 47 name None) (λ x. (i : ℕ) × (j : ℕ) × RFindsChar 47 name (Some (i, j)) × (x.0.now ≡ take i name) × (x.1.now ≡ drop j name) × (i ≤ j) × (length x.0.now ≡ i) × (length x.1.now + j ≡ length name))
    → MatchOption r (HasNoSlash name) (λ x. IsCut name x.0.now)
unfolding lib.Utf8.encode
cut_once name None h = λ i inside. NoCharPasses-char 47 name i h (omega arith) inside
cut_once name (Some x) h = record {
  last = drop h.1 name;
  cut = sym (take-append-drop h.0 name) ∙ ap (λ (l : List ℕ). take h.0 name ++ l) h.2.1.split ∙ ap (λ (l : List ℕ). l ++ 47 ∷ drop h.1 name) (sym h.3);
  is_last = λ i inside. NoCharPasses-char 47 (drop h.1 name) i h.2.0 (omega arith) inside;
}

pub of_root : (front : List ℕ) (is : Bool) → is ≡ (length front == 0) → is ≡ true → codes "/" ≡ (if length front == 0 then codes "/" else front)
of_root front is same empty = sym (ap (λ (b : Bool). cond b (codes "/") front) (sym same ∙ empty))

pub of_front : (front : List ℕ) (is : Bool) → is ≡ (length front == 0) → is ≡ false → front ≡ (if length front == 0 then codes "/" else front)
of_front front is same some = sym (ap (λ (b : Bool). cond b (codes "/") front) (sym same ∙ some))
