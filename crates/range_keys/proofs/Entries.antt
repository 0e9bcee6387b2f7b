-- What the uses of a cache make of the list of its keys.
use Rattle.std.proofs.Common.{◌≡◌, ℕ, ◌-◌, inl, inr, Bool, true, false, List, [], ◌∷◌, take, Contains, Some, None, is_some, cond, nat_eq, refl, sym, ap, ◌∙◌}
use Rattle.std.specs.Map.{keys_of, lookup, lookup_entry, remove_entry}
use Rattle.std.specs.Set.{remove_key}
use Rattle.std.specs.Cmp.{nat_eq_equiv}
use Rattle.std.proofs.lemmas.Bool.{eqb-true, true≢false}
use Rattle.std.proofs.lemmas.List.{take-map}
use Rattle.std.proofs.lemmas.Map.Made.{is_some-lookup}
use Rattle.std.proofs.lemmas.Map.Views.{Contains-from_any, list_any-from_Contains}
use Rattle.lru.specs.LruCache.{LruCache, promoted, put_entries}
use Rattle.lru.proofs.CallerLemmas.{Contains-lookup_entry}
use Rattle.range_keys.specs.Numbers.{AfterUse, room}

-- a number is among those of the entries exactly if a look-up finds it
pub Contains-found : {V : Type 0} → (n : ℕ) (es : List (ℕ × V)) → is_some (lookup (nat_eq n) es) ≡ true → Contains (keys_of es) n
Contains-found n es h = Contains-from_any eqb-true n (keys_of es) (sym (is_some-lookup (nat_eq n) es) ∙ h)

pub found-Contains : {V : Type 0} → (n : ℕ) (es : List (ℕ × V)) → Contains (keys_of es) n → is_some (lookup (nat_eq n) es) ≡ true
found-Contains n es h = is_some-lookup (nat_eq n) es ∙ list_any-from_Contains nat_eq_equiv n (keys_of es) h

module _ {V : Type 0} where
  keys_of-remove_entry : (test : ℕ → Bool) (es : List (ℕ × V)) → keys_of (remove_entry test es) ≡ remove_key test (keys_of es)
  keys_of-remove_entry test [] = refl
  keys_of-remove_entry test (e ∷ es) = elim (test e.0) as (λ y. keys_of (cond y es (e ∷ remove_entry test es)) ≡ cond y (keys_of es) (e.0 ∷ remove_key test (keys_of es))) [
    | true ↦ refl
    | false ↦ ap (λ l. e.0 ∷ l) (keys_of-remove_entry test es)
  ]

  -- the entry of a number that is found
  found : (n : ℕ) (es : List (ℕ × V)) → is_some (lookup (nat_eq n) es) ≡ true → (v : V) × (lookup_entry (nat_eq n) es ≡ Some (n, v))
  found n [] h = cc
  found n (e ∷ es) h = (elim (nat_eq n e.0) as (λ y. nat_eq n e.0 ≡ y → (v : V) × (lookup_entry (nat_eq n) (e ∷ es) ≡ Some (n, v))) [
    | true ↦ λ t. (e.1, rw t (ap (λ m. Some (m, e.1)) (sym (eqb-true n e.0 t))))
    | false ↦ λ t. let on = found n es (rw t at h) in (on.0, rw t on.1)
  ]) refl

  missed : (n : ℕ) (es : List (ℕ × V)) → is_some (lookup (nat_eq n) es) ≡ false → lookup_entry (nat_eq n) es ≡ None
  missed n [] h = refl
  missed n (e ∷ es) h = (elim (nat_eq n e.0) as (λ y. nat_eq n e.0 ≡ y → lookup_entry (nat_eq n) (e ∷ es) ≡ None) [
    | true ↦ λ t. let h2 = rw t at h in absurd (true≢false h2)
    | false ↦ λ t. rw t (missed n es (rw t at h))
  ]) refl

  -- what promoting makes of the entries
  pub promoted-found : (n : ℕ) (es : List (ℕ × V)) → is_some (lookup (nat_eq n) es) ≡ true → (v : V) × Contains es (n, v) × (promoted (nat_eq n) es ≡ (n, v) ∷ remove_entry (nat_eq n) es)
  promoted-found n es h = let e = found n es h in (e.0, (Contains-lookup_entry (nat_eq n) es (n, e.0) e.1).0, rw e.1 refl)

  pub promoted-missed : (n : ℕ) (es : List (ℕ × V)) → is_some (lookup (nat_eq n) es) ≡ false → promoted (nat_eq n) es ≡ es
  promoted-missed n es h = rw (missed n es h) refl

  pub put-missed : (n : ℕ) (v : V) (old : LruCache ℕ V) → is_some (lookup (nat_eq n) old.entries) ≡ false → put_entries nat_eq old n v ≡ (n, v) ∷ take (old.cap - 1) old.entries
  put-missed n v old h = rw (missed n old.entries h) refl

  -- the list of the numbers
  pub use-found : (n : ℕ) (es : List (ℕ × V)) → is_some (lookup (nat_eq n) es) ≡ true → AfterUse n (keys_of es) (keys_of (promoted (nat_eq n) es))
  use-found n es h =
      let p = promoted-found n es h in
      record {
        kept = λ _. ap keys_of p.2 ∙ ap (λ l. n ∷ l) (keys_of-remove_entry (nat_eq n) es);
        other = λ not. absurd (not (Contains-found n es h));
      }

  not_kept : (n : ℕ) (es : List (ℕ × V)) → is_some (lookup (nat_eq n) es) ≡ false → Contains (keys_of es) n → ⊥
  not_kept n es h in_it = true≢false (sym (found-Contains n es in_it) ∙ h)

  pub use-put : (n : ℕ) (v : V) (old : LruCache ℕ V) → old.cap ≡ room → is_some (lookup (nat_eq n) old.entries) ≡ false → AfterUse n (keys_of old.entries) (keys_of (put_entries nat_eq old n v))
  use-put n v old wide h = record {
    kept = λ in_it. absurd (not_kept n old.entries h in_it);
    other = λ _. inl (ap keys_of (put-missed n v old h) ∙ ap (λ l. n ∷ l) (sym (take-map (λ (e : ℕ × V). e.0) (old.cap - 1) old.entries)) ∙ ap (λ c. n ∷ take (c - 1) (keys_of old.entries)) wide);
  }

  pub use-refused : (n : ℕ) (es : List (ℕ × V)) → is_some (lookup (nat_eq n) es) ≡ false → AfterUse n (keys_of es) (keys_of es)
  use-refused n es h = record { kept = λ in_it. absurd (not_kept n es h in_it); other = λ _. inr refl }
