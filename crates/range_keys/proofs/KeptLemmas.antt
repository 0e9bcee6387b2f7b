-- What is known of kept range keys, and of those that are made anew, one after the other.
use Rattle.std.proofs.Common.{◌≡◌, ℕ, ◌+◌, ◌<◌, true, List, [], ◌∷◌, ◌++◌, length, Contains, Some, None, slice_get, nat_eq, refl, sym, ap, subst, ◌∙◌, append_assoc, append-nil, arith, inl, inr}
use Rattle.std.specs.Map.{keys_of, lookup, set_value}
use Rattle.std.proofs.lemmas.Grind.{common_steps}
use Rattle.std.proofs.lemmas.List.{map-append}
use Rattle.std.proofs.lemmas.List.Elements.{Contains-append_cases}
use Rattle.lru.proofs.Splits.{Contains-cons, Contains-nil}
use Rattle.eli_base.specs.declared.algorithms.Cipher.{Cipher}
use Rattle.lru.specs.LruCache.{LruCache, lru_cache, demoted}
use Rattle.range_keys.specs.Keys.{numbered_key, first_part, second_part}
use Rattle.range_keys.specs.Kept.{AreKept, RemakesFront, front_remade, expanded_key}
use Rattle.range_keys.specs.Numbers.{room}
use Rattle.range_keys.specs.declared.expanded.RangeKey.{RangeKey}

keys_of-append : {V : Type 0} (xs ys : List (ℕ × V)) → keys_of (xs ++ ys) ≡ keys_of xs ++ keys_of ys
keys_of-append xs ys = map-append (λ e. e.0) xs ys

same-number : (n m : ℕ) → n ≡ m → nat_eq n m ≡ true
same-number n m h = grind (arith, common_steps)

-- a look-up finds the entry in front by its number
pub front-found : {R : Type 0} (n : ℕ) (key : RangeKey) (es : List (ℕ × RangeKey)) → slice_get es 0 ≡ Some (n, key) → None ≡ lookup (nat_eq n) es → R
front-found n key [] h missed = cc
front-found n key (e ∷ es) h missed =
    let number : n ≡ e.0 = cc in
    let none = rw (same-number n e.0 number) at missed in
    cc

module _ (cipher : Cipher) (keylen : ℕ) (base : List ℕ) where
  -- the keys in the bytes of a range key are those of its number
  pub is-expanded : (range : List ℕ) (n : ℕ) (key : RangeKey) → range ≡ numbered_key base n → key.first ≡ first_part keylen range → key.second ≡ second_part cipher keylen range →
      key ≡ expanded_key cipher keylen base n
  is-expanded range n key of_number first second =
      let one : key.first ≡ first_part keylen (numbered_key base n) = first ∙ ap (first_part keylen) of_number in
      let two : key.second ≡ second_part cipher keylen (numbered_key base n) = second ∙ ap (second_part cipher keylen) of_number in
      (λ i. record { first = one i; second = two i })

  -- the entry in front is overwritten where it stands, and put last
  entries-remade : (n : ℕ) (key made : RangeKey) (es : List (ℕ × RangeKey)) → slice_get es 0 ≡ Some (n, key) → made ≡ expanded_key cipher keylen base n
      → demoted (nat_eq n) (set_value (nat_eq n) es made) ≡ front_remade cipher keylen base es
  entries-remade n key made [] h right = cc
  entries-remade n key made (e ∷ es) h right =
      let number : n ≡ e.0 = cc in
      let made_of : made ≡ expanded_key cipher keylen base e.0 = right ∙ ap (expanded_key cipher keylen base) number in
      let test = same-number n e.0 number in
      rw test (rw test (ap (λ k. es ++ (e.0, k) ∷ []) made_of))

  pub front-is-remade : (n : ℕ) (key made : RangeKey) (old mid new : LruCache ℕ RangeKey) → slice_get old.entries 0 ≡ Some (n, key) → made ≡ expanded_key cipher keylen base n
      → mid ≡ lru_cache (set_value (nat_eq n) old.entries made) old.cap → new ≡ lru_cache (demoted (nat_eq n) mid.entries) mid.cap → RemakesFront cipher keylen base old new
  front-is-remade n key made old mid new h right written moved = record {
    entries = ap (λ c. c.entries) moved ∙ ap (λ (c : LruCache ℕ RangeKey). demoted (nat_eq n) c.entries) written ∙ entries-remade n key made old.entries h right;
    cap = ap (λ c. c.cap) moved ∙ ap (λ c. c.cap) written;
  }

  -- each entry has the key of its number, made of this range base
  abbrev pub AreMade : List (ℕ × RangeKey) → Type 0
  AreMade es = (number : ℕ) (key : RangeKey) → Contains es (number, key) → key ≡ expanded_key cipher keylen base number

  -- of the entries that a cache had, so many were made anew, and stand behind the others
  pub record IsRekeyed (old new : LruCache ℕ RangeKey) (done : ℕ) : Type 0 where
    pub left : List (ℕ × RangeKey)
    pub made : List (ℕ × RangeKey)
    pub is : new.entries ≡ left ++ made
    pub many : length left + done ≡ length old.entries
    pub right : AreMade made
    pub numbers : keys_of old.entries ≡ keys_of made ++ keys_of left
    pub cap : new.cap ≡ old.cap

  pub rekeyed-none : (old : LruCache ℕ RangeKey) → IsRekeyed old old 0
  rekeyed-none old = record { left = old.entries; made = []; is = sym (append-nil old.entries); many = omega arith; right = λ number key in_it. absurd (Contains-nil (number, key) in_it); numbers = refl; cap = refl }

  one-more : (made : List (ℕ × RangeKey)) (n : ℕ) → AreMade made → AreMade (made ++ (n, expanded_key cipher keylen base n) ∷ [])
  one-more made n right = λ number key in_it. elim (Contains-append_cases made ((n, expanded_key cipher keylen base n) ∷ []) (number, key) in_it) [
    | inl was ↦ right number key was
    | inr new ↦ elim (Contains-cons (n, expanded_key cipher keylen base n) [] (number, key) new) [
      | inl same ↦ sym (ap (λ e. e.1) same) ∙ ap (expanded_key cipher keylen base) (ap (λ e. e.0) same)
      | inr none ↦ absurd (Contains-nil _ none)
    ]
  ]

  next-by : (old mid new : LruCache ℕ RangeKey) (done : ℕ) (left made : List (ℕ × RangeKey)) → done < length old.entries → mid.entries ≡ left ++ made → length left + done ≡ length old.entries → AreMade made
      → keys_of old.entries ≡ keys_of made ++ keys_of left → mid.cap ≡ old.cap → RemakesFront cipher keylen base mid new → IsRekeyed old new (done + 1)
  next-by old mid new done [] made some is many right numbers cap turns = absurd (omega (arith, some, many))
  next-by old mid new done (e ∷ left) made some is many right numbers cap turns = record {
    left = left;
    made = made ++ (e.0, expanded_key cipher keylen base e.0) ∷ [];
    is = turns.entries ∙ ap (front_remade cipher keylen base) is ∙ append_assoc left made _;
    many = omega (arith, many);
    right = one-more made e.0 right;
    numbers = numbers ∙ sym (ap (λ l. l ++ keys_of left) (keys_of-append made _) ∙ append_assoc (keys_of made) _ _);
    cap = turns.cap ∙ cap;
  }

  pub rekeyed-next : (old mid new : LruCache ℕ RangeKey) (done : ℕ) → done < length old.entries → IsRekeyed old mid done → RemakesFront cipher keylen base mid new → IsRekeyed old new (done + 1)
  rekeyed-next old mid new done some so turns = next-by old mid new done so.left so.made some so.is so.many so.right so.numbers so.cap turns

  all-by : (old new : LruCache ℕ RangeKey) (left made : List (ℕ × RangeKey)) → new.entries ≡ left ++ made → length left + length old.entries ≡ length old.entries → AreMade made
      → keys_of old.entries ≡ keys_of made ++ keys_of left → AreMade new.entries × (keys_of new.entries ≡ keys_of old.entries)
  all-by old new [] made is many right numbers = (subst AreMade (sym is) right, ap keys_of is ∙ sym (numbers ∙ append-nil (keys_of made)))
  all-by old new (e ∷ left) made is many right numbers = absurd (omega (arith, many))

  -- all of them were made anew
  pub all-rekeyed : (old new : LruCache ℕ RangeKey) → old.cap ≡ room → IsRekeyed old new (length old.entries) → AreKept cipher keylen base new × (keys_of new.entries ≡ keys_of old.entries)
  all-rekeyed old new wide so = let all = all-by old new so.left so.made so.is so.many so.right so.numbers in (record { room = so.cap ∙ wide; each = all.0 }, all.1)
