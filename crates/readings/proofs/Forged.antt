-- One unit with authentication: a fault, a known ciphertext, or forged.
use Rattle.std.proofs.Common.{◌≡◌, ◌≢◌, ◌↔◌, ◌⊎◌, inl, inr, ℕ, ◌*◌, List, [], ◌∷◌, true, Result, Ok, Err, Contains, bytes_eq, refl, sym, ap, subst, ◌∙◌, arith, true≢false}
use Rattle.std.proofs.lemmas.Bool.{cases_Bool, cond-false, false_from_ne_true}
use Rattle.std.proofs.lemmas.List.Elements.{Contains-append_cases, Contains-append_right, Contains-push_cases}
use Rattle.std.proofs.lemmas.Slice.Eq.{bytes_eq-Decides}
use Rattle.eli_base.specs.Keying.{Keying}
use Rattle.sealing.specs.Runs.{opened_run}
use Rattle.sealing.specs.TaggedUnits.{tag_of, kept_tag}
use Rattle.sealing.specs.Sectors.{unit_size_at, unit_reading_at}
use Rattle.sealing.proofs.TaggedUnitLaws.{opened_tagged-good}
use Rattle.readings.specs.Writings.{Writing, device_bytes}
use Rattle.readings.specs.Ever.{cipher_text_at, is_accepted, HasCipherTextOf, IsForged, HasNewTag, CollidesWithOneOf, ReadsAsOneOf}

pub same_bytes : (xs ys : List ℕ) → (xs ≡ ys) ⊎ (xs ≢ ys)
same_bytes xs ys = elim (cases_Bool (bytes_eq xs ys)) [
  | inl same ↦ inl ((bytes_eq-Decides xs ys).0 same)
  | inr other ↦ inr (λ e. true≢false (sym ((bytes_eq-Decides xs ys).1 e) ∙ other))
]

-- a list has an element with a fact that can be tested, or none
pub found : {X : Type 0} (P : X → Type 0) → ((x : X) → P x ⊎ (P x → ⊥)) → (xs : List X)
    → ((x : X) × Contains xs x × P x) ⊎ ((x : X) → Contains xs x → P x → ⊥)
found P test [] = inr (λ x h p. absurd (omega (arith, h.1)))
found {X} P test (x ∷ xs) = elim (test x) [
  | inl here ↦ inl (x, (0, omega arith, refl), here)
  | inr not_here ↦ elim (found P test xs) [
    | inl there ↦ inl (there.0, Contains-append_right (x ∷ []) xs there.0 there.1, there.2)
    | inr none ↦ inr (λ y h p. elim (Contains-append_cases (x ∷ []) xs y h) [
      | inl first ↦ elim (Contains-push_cases [] x y first) [
        | inl nowhere ↦ absurd (omega (arith, nowhere.1))
        | inr is ↦ not_here (subst P (sym is) p)
      ]
      | inr later ↦ none y later p
    ])
  ]
]

-- ---- the tag

accepted_tag : (k : Keying) (n : ℕ) (bytes : List ℕ) → is_accepted k n bytes ≡ true → kept_tag k bytes ≡ tag_of k (512 * n) (cipher_text_at k n bytes)
accepted_tag k n bytes h = (bytes_eq-Decides (kept_tag k bytes) (tag_of k (512 * n) (cipher_text_at k n bytes))).0 h

tag_accepted : (k : Keying) (n : ℕ) (bytes : List ℕ) → kept_tag k bytes ≡ tag_of k (512 * n) (cipher_text_at k n bytes) → is_accepted k n bytes ≡ true
tag_accepted k n bytes h = (bytes_eq-Decides (kept_tag k bytes) (tag_of k (512 * n) (cipher_text_at k n bytes))).1 h

reads_good : (k : Keying) (n : ℕ) (bytes : List ℕ) → kept_tag k bytes ≡ tag_of k (512 * n) (cipher_text_at k n bytes)
    → unit_reading_at k n bytes ≡ Ok (opened_run k (512 * n) (cipher_text_at k n bytes))
reads_good k n bytes tag = opened_tagged-good k (512 * n) (unit_size_at k n) bytes (cipher_text_at k n bytes) tag refl

pub fault-is : (k : Keying) (n : ℕ) (bytes : List ℕ) → (unit_reading_at k n bytes ≡ Err (512 * n)) ↔ (kept_tag k bytes ≢ tag_of k (512 * n) (cipher_text_at k n bytes))
fault-is k n bytes =
    let good : Result (List ℕ) ℕ = Ok (opened_run k (512 * n) (cipher_text_at k n bytes)) in (
      λ fault tag. absurd (cc (fault, reads_good k n bytes tag)),
      λ differs. cond-false (is_accepted k n bytes) good (Err (512 * n)) (false_from_ne_true (is_accepted k n bytes) (λ h. differs (accepted_tag k n bytes h))),
    )

-- ---- the ciphertext

has_cipher_text : (k : Keying) (n : ℕ) (bytes : List ℕ) (w : Writing) → HasCipherTextOf k n bytes w ⊎ (HasCipherTextOf k n bytes w → ⊥)
has_cipher_text k n bytes w = elim (cases_Bool (is_accepted k n (device_bytes w))) [
  | inl accepted ↦ elim (same_bytes (cipher_text_at k n (device_bytes w)) (cipher_text_at k n bytes)) [
    | inl same ↦ inl (record { accepted = accepted; cipher_text = same })
    | inr differ ↦ inr (λ h. differ h.cipher_text)
  ]
  | inr refused ↦ inr (λ h. true≢false (sym h.accepted ∙ refused))
]

pub known_or_forged : (k : Keying) (n : ℕ) (bytes : List ℕ) (ever : List Writing) → kept_tag k bytes ≡ tag_of k (512 * n) (cipher_text_at k n bytes)
    → ReadsAsOneOf k n bytes ever ⊎ IsForged k n bytes ever
known_or_forged k n bytes ever tag = elim (found (HasCipherTextOf k n bytes) (has_cipher_text k n bytes) ever) [
  | inl some ↦
      let w : Writing = some.0 in
      inl (record {
        member = w;
        is_in = some.1;
        same = some.2;
        reading = reads_good k n bytes tag ∙ sym (reads_good k n (device_bytes w) (accepted_tag k n (device_bytes w) some.2.accepted)
            ∙ ap (λ (c : List ℕ). Ok (opened_run k (512 * n) c)) some.2.cipher_text);
      })
  | inr none ↦ inr (record { accepted = tag_accepted k n bytes tag; new = none })
]

-- ---- a new tag or a collision

-- the writing is accepted and has the tag of these bytes
record HasTagOf (k : Keying) (n : ℕ) (bytes : List ℕ) (w : Writing) : Type 0 where
  accepted : is_accepted k n (device_bytes w) ≡ true
  tag : kept_tag k (device_bytes w) ≡ kept_tag k bytes

has_tag : (k : Keying) (n : ℕ) (bytes : List ℕ) (w : Writing) → HasTagOf k n bytes w ⊎ (HasTagOf k n bytes w → ⊥)
has_tag k n bytes w = elim (cases_Bool (is_accepted k n (device_bytes w))) [
  | inl accepted ↦ elim (same_bytes (kept_tag k (device_bytes w)) (kept_tag k bytes)) [
    | inl same ↦ inl (record { accepted = accepted; tag = same })
    | inr differ ↦ inr (λ h. differ h.tag)
  ]
  | inr refused ↦ inr (λ h. true≢false (sym h.accepted ∙ refused))
]

pub new_or_collision : (k : Keying) (n : ℕ) (bytes : List ℕ) (ever : List Writing) → IsForged k n bytes ever → HasNewTag k n bytes ever ⊎ CollidesWithOneOf k n bytes ever
new_or_collision k n bytes ever forged = elim (found (HasTagOf k n bytes) (has_tag k n bytes) ever) [
  | inl some ↦
      let w : Writing = some.0 in
      inr (record {
        member = w;
        is_in = some.1;
        accepted = some.2.accepted;
        differ = λ same. forged.new w some.1 (record { accepted = some.2.accepted; cipher_text = same });
        same_tag = sym (accepted_tag k n (device_bytes w) some.2.accepted) ∙ some.2.tag ∙ accepted_tag k n bytes forged.accepted;
      })
  | inr none ↦ inl (record { accepted = forged.accepted; new = λ w there accepted tag. none w there (record { accepted = accepted; tag = tag }) })
]
