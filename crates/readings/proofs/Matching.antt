-- What it means that a writing matches.
use Rattle.std.proofs.Common.{◌≡◌, ◌↔◌, ℕ, ◌⊎◌, inl, inr, true, Some, None, refl, ap, subst, ◌∙◌}
use Rattle.std.proofs.lemmas.Bool.{and_parts, and_from, eqb-true, eq-eqb, cases_Bool, cond-true, cond-false}
use Rattle.std.proofs.lemmas.Slice.Eq.{bytes_eq-Decides}
use Rattle.eli_base.specs.Algorithms.{auth_number, cipher_number}
use Rattle.eli_base.proofs.Numbers.{same_auth, same_cipher}
use Rattle.eli_base.specs.Keying.{Keying}
use Rattle.readings.specs.Writings.{PutUnit, Writing, Put, Raw}
use Rattle.readings.specs.Read.{same_keying, is_put_of, matching, Matches}

same_keying-true : (a b : Keying) → same_keying a b ≡ true → a ≡ b
same_keying-true a b h =
    let h1 = and_parts _ _ h in
    let h2 = and_parts _ _ h1.1 in
    let h3 = and_parts _ _ h2.1 in
    let h4 = and_parts _ _ h3.1 in
    let h5 = and_parts _ _ h4.1 in
    let version = eqb-true a.version b.version h1.0 in
    let auth = same_auth a.auth b.auth (eqb-true _ _ h2.0) in
    let cipher = same_cipher a.cipher b.cipher (eqb-true _ _ h3.0) in
    let keylen = eqb-true a.keylen b.keylen h4.0 in
    let sectorsize = eqb-true a.sectorsize b.sectorsize h5.0 in
    let master = (bytes_eq-Decides a.master b.master).0 h5.1 in
    (λ i. record { version = version i; auth = auth i; cipher = cipher i; keylen = keylen i; sectorsize = sectorsize i; master = master i })

same_keying-refl : (a : Keying) → same_keying a a ≡ true
same_keying-refl a =
    and_from _ _ (eq-eqb a.version a.version refl) (and_from _ _ (eq-eqb (auth_number a.auth) _ refl) (and_from _ _ (eq-eqb (cipher_number a.cipher) _ refl)
    (and_from _ _ (eq-eqb a.keylen a.keylen refl) (and_from _ _ (eq-eqb a.sectorsize a.sectorsize refl) ((bytes_eq-Decides a.master a.master).1 refl)))))

Matches-put : (k : Keying) (sector j : ℕ) (p : PutUnit) → is_put_of k sector j p ≡ true → Matches k sector j (Put p) p
Matches-put k sector j p h =
    let h1 = and_parts _ _ h in
    let h2 = and_parts _ _ h1.1 in
    record { is = refl; keying = same_keying-true p.keying k h1.0; of_sector = eqb-true p.sector sector h2.0; unit = eqb-true p.unit j h2.1 }

pub matching-cases : (k : Keying) (sector j : ℕ) (w : Writing)
    → (matching k sector j w ≡ None) ⊎ ((p : PutUnit) × (matching k sector j w ≡ Some p) × Matches k sector j w p)
matching-cases k sector j (Raw bytes) = inl refl
matching-cases k sector j (Put p) = elim (cases_Bool (is_put_of k sector j p)) [
  | inl is ↦ inr (p, cond-true (is_put_of k sector j p) (Some p) None is, Matches-put k sector j p is)
  | inr other ↦ inl (cond-false (is_put_of k sector j p) (Some p) None other)
]

pub matching-matches : (k : Keying) (sector j : ℕ) (w : Writing) (p : PutUnit) → Matches k sector j w p → matching k sector j w ≡ Some p
matching-matches k sector j w p m =
    let keying : same_keying p.keying k ≡ true = ap (λ (a : Keying). same_keying a k) m.keying ∙ same_keying-refl k in
    let is = and_from _ _ keying (and_from _ _ (eq-eqb p.sector sector m.of_sector) (eq-eqb p.unit j m.unit)) in
    ap (matching k sector j) m.is ∙ cond-true (is_put_of k sector j p) (Some p) None is

matches_from : (k : Keying) (sector j : ℕ) (w : Writing) (p : PutUnit) → matching k sector j w ≡ Some p → Matches k sector j w p
matches_from k sector j w p h = elim (matching-cases k sector j w) [
  | inl none ↦ absurd (cc (none, h))
  | inr some ↦ let same : some.0 ≡ p = cc (some.1, h) in subst (Matches k sector j w) same some.2
]

pub matching-is : (k : Keying) (sector j : ℕ) (w : Writing) (p : PutUnit) → (matching k sector j w ≡ Some p) ↔ Matches k sector j w p
matching-is k sector j w p = (matches_from k sector j w p, matching-matches k sector j w p)
