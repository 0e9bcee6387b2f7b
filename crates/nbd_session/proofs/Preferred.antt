-- The preferred number of bytes of a request is a power of two.
use Rattle.std.proofs.Common.{◌≡◌, ◌⊎◌, inl, inr, ℕ, ◌^◌, ◌==◌, ◌||◌, List, [], ◌∷◌, Bool, true, false, refl, sym, subst}
use Rattle.std.proofs.lemmas.Bool.{eqb-true}
use Rattle.std.specs.Prelude.{max}
use Rattle.std.specs.List.{AllByRecursion, list_any}
use Rattle.eli_base.specs.SectorSize.{is_sector_size}

IsBest : ℕ → Type 0
IsBest size = is_sector_size (max size 4096) ≡ true

either : (a b : Bool) → (a || b) ≡ true → (a ≡ true) ⊎ (b ≡ true)
either true b h = inl refl
either false b h = inr h

best_among : (size : ℕ) (ks : List ℕ) → AllByRecursion (λ k. IsBest (2 ^ k)) ks → list_any (λ k. size == 2 ^ k) ks ≡ true → IsBest size
best_among size [] all h = absurd (let no : ⊥ = cc h in no)
best_among size (k ∷ ks) all h =
    elim (either (size == 2 ^ k) (list_any (λ n. size == 2 ^ n) ks) h) [
      | inl here ↦ subst IsBest (sym (eqb-true size (2 ^ k) here)) all.0
      | inr more ↦ best_among size ks all.1 more
    ]

-- the larger of a sector and 4,096 bytes is a power of two
pub best : (size : ℕ) → is_sector_size size ≡ true → is_sector_size (max size 4096) ≡ true
unfolding IsBest
best size h = best_among size (9 ∷ 10 ∷ 11 ∷ 12 ∷ 13 ∷ 14 ∷ 15 ∷ 16 ∷ []) (refl, (refl, (refl, (refl, (refl, (refl, (refl, (refl, tt)))))))) h
