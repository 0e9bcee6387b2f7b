-- The network transposes: row i of the result is column i of what goes in.
use Rattle.std.proofs.Common.{◌≡◌, ℕ, ◌+◌, ◌*◌, ◌/◌, ◌%◌, ◌^◌, ◌<◌, List, [], ◌∷◌, ◌++◌, map, get_or, length, min, bit_xor, bit_and, replicate, refl, sym, ap, ◌∙◌, arith, pow_pos, add-zero}
use lib.Bits.{xor_zero_r}
use Rattle.std.proofs.lemmas.Nat.{xor_shr, xor_mod, xor_block}
use Rattle.std.proofs.lemmas.Nat.Bits.{bit_at-lt, bit_at_and, bit_at_xor, same_from_bits}
use Rattle.std.proofs.lemmas.List.{get_or-replicate}
use Rattle.std.proofs.lemmas.List.FromFn.{fill_by_all}
use Rattle.std.proofs.lemmas.Simd.{length-zip2, get_or-zip2}
use Rattle.std.specs.List.{range_with_len}
use Rattle.std.specs.Simd.Lanes.{zip2}
use Rattle.aes_core.specs.Aes.{bit}
use Rattle.aes_core.proofs.Boxes.{agree_at}
use Rattle.aes_core.proofs.Inverse.{IsState, xor_swap}
use Rattle.aes_planes.specs.Planes.{planes_of}
use Rattle.aes_planes.specs.declared.vectors.Planes.{Planes}
use Rattle.aes_planes.specs.Transposition.{Operation, Add, Right, Left, Keep, Linear, operation_of, operations_of, places_of, on_bytes, on_vectors, transposing, transposed_places}
use Rattle.aes_planes.proofs.Truth.{bits_of, agree_lists}
use Rattle.aes_planes.proofs.Hom.{Every, Every-get, Every-push, get_or-map_default, map-push}
use Rattle.aes_planes.proofs.SubLaw.{from_bits, bit_in, block_at, bits_back}

-- ---- a map that keeps the operations keeps the network

module _ {A B : Type 0} where
  pub record IsLinearHom (f : Linear A) (g : Linear B) (h : A → B) (P : A → Type 0) : Type 0 where
    pub at_add : (a b : A) → P a → P b → (h (f.add a b) ≡ g.add (h a) (h b)) × P (f.add a b)
    pub at_right : (k : ℕ) (a : A) → P a → (h (f.right k a) ≡ g.right k (h a)) × P (f.right k a)
    pub at_left : (k : ℕ) (a : A) → P a → (h (f.left k a) ≡ g.left k (h a)) × P (f.left k a)
    pub at_keep : (k : ℕ) (a : A) → P a → (h (f.keep k a) ≡ g.keep k (h a)) × P (f.keep k a)
    pub at_none : (h f.none ≡ g.none) × P f.none

  module _ (f : Linear A) (g : Linear B) (h : A → B) (P : A → Type 0) (hom : IsLinearHom f g h P) where
    get-linear : (env : List A) (i : ℕ) → h (get_or env i f.none) ≡ get_or (map h env) i g.none
    get-linear env i = sym (get_or-map_default h env i f.none) ∙ ap (λ (d : B). get_or (map h env) i d) hom.at_none.0

    step-linear : (s : Operation) (env : List A) → Every P env → (h (operation_of f s env) ≡ operation_of g s (map h env)) × P (operation_of f s env)
    step-linear (Add i j) env all =
        let one = hom.at_add _ _ (Every-get P env i f.none all hom.at_none.1) (Every-get P env j f.none all hom.at_none.1) in
        (one.0 ∙ (λ k. g.add (get-linear env i k) (get-linear env j k)), one.1)
    step-linear (Right n i) env all =
        let one = hom.at_right n _ (Every-get P env i f.none all hom.at_none.1) in (one.0 ∙ ap (g.right n) (get-linear env i), one.1)
    step-linear (Left n i) env all =
        let one = hom.at_left n _ (Every-get P env i f.none all hom.at_none.1) in (one.0 ∙ ap (g.left n) (get-linear env i), one.1)
    step-linear (Keep n i) env all =
        let one = hom.at_keep n _ (Every-get P env i f.none all hom.at_none.1) in (one.0 ∙ ap (g.keep n) (get-linear env i), one.1)

    steps-linear : (ss : List Operation) (env : List A) → Every P env → map h (operations_of f ss env) ≡ operations_of g ss (map h env)
    steps-linear [] env all = refl
    steps-linear (s ∷ ss) env all =
        let one = step-linear s env all in
        steps-linear ss (env ++ operation_of f s env ∷ []) (Every-push P env (operation_of f s env) all one.1)
        ∙ ap (operations_of g ss) (map-push h env (operation_of f s env) ∙ ap (λ (x : B). map h env ++ x ∷ []) one.0)

    pub steps-keep : (ss : List Operation) (env : List A) → Every P env → Every P (operations_of f ss env)
    steps-keep [] env all = all
    steps-keep (s ∷ ss) env all = steps-keep ss (env ++ operation_of f s env ∷ []) (Every-push P env (operation_of f s env) all (step-linear s env all).1)

    pub places-keep : (places : List ℕ) (env : List A) → Every P env → Every P (places_of f places env)
    places-keep [] env all = tt
    places-keep (k ∷ places) env all = (Every-get P env k f.none all hom.at_none.1, places-keep places env all)

    places-linear : (places : List ℕ) (env : List A) → map h (places_of f places env) ≡ places_of g places (map h env)
    places-linear [] env = refl
    places-linear (k ∷ places) env = (λ i. get-linear env k i ∷ places-linear places env i)

    pub network-linear : (ss : List Operation) (places : List ℕ) (env : List A) → Every P env
        → map h (places_of f places (operations_of f ss env)) ≡ places_of g places (operations_of g ss (map h env))
    network-linear ss places env all = places-linear places (operations_of f ss env) ∙ ap (places_of g places) (steps-linear ss env all)

-- ---- it is additive: pairs, their parts and their sum

and-xor : (x y m : ℕ) → bit_and (bit_xor x y) m ≡ bit_xor (bit_and x m) (bit_and y m)
and-xor x y m = same_from_bits _ _ (λ i.
    rw (bit_at_and (bit_xor x y) m i, bit_at_xor x y i, bit_at_xor (bit_and x m) (bit_and y m) i, bit_at_and x m i, bit_at_and y m i)
    (three_bits _ _ _ (bit_at-lt x i) (bit_at-lt y i) (bit_at-lt m i)))
  where
    three_bits : (p q r : ℕ) → p < 2 → q < 2 → r < 2 → min ((p + q) % 2) r ≡ (min p r + min q r) % 2
    three_bits p q r lp lq lr = omega arith

xor-left : (x y k : ℕ) → bit_xor x y * 2 ^ k % 2 ^ 8 ≡ bit_xor (x * 2 ^ k % 2 ^ 8) (y * 2 ^ k % 2 ^ 8)
xor-left x y k =
    let shifted : bit_xor x y * 2 ^ k ≡ bit_xor (x * 2 ^ k) (y * 2 ^ k) = sym (simp add-zero at (xor_block k x y 0 0 (pow_pos k) (pow_pos k))) in
    ap (λ (n : ℕ). n % 2 ^ 8) shifted ∙ xor_mod (x * 2 ^ k) (y * 2 ^ k) 8

abbrev on_pairs : Linear (ℕ × ℕ)
on_pairs = record {
  add = λ a b. (bit_xor a.0 b.0, bit_xor a.1 b.1);
  right = λ k a. (a.0 / 2 ^ k, a.1 / 2 ^ k);
  left = λ k a. (a.0 * 2 ^ k % 2 ^ 8, a.1 * 2 ^ k % 2 ^ 8);
  keep = λ k a. (bit_and a.0 k, bit_and a.1 k);
  none = (0, 0);
}

abbrev Anything : ℕ × ℕ → Type 0
Anything a = Unit {0}

first_hom : IsLinearHom on_pairs on_bytes (λ a. a.0) Anything
first_hom = record { at_add = λ a b pa pb. (refl, tt); at_right = λ k a pa. (refl, tt); at_left = λ k a pa. (refl, tt); at_keep = λ k a pa. (refl, tt); at_none = (refl, tt) }

second_hom : IsLinearHom on_pairs on_bytes (λ a. a.1) Anything
second_hom = record { at_add = λ a b pa pb. (refl, tt); at_right = λ k a pa. (refl, tt); at_left = λ k a pa. (refl, tt); at_keep = λ k a pa. (refl, tt); at_none = (refl, tt) }

sum_hom : IsLinearHom on_pairs on_bytes (λ a. bit_xor a.0 a.1) Anything
sum_hom = record {
  at_add = λ a b pa pb. (xor_swap a.0 b.0 a.1 b.1, tt);
  at_right = λ k a pa. (sym (xor_shr a.0 a.1 k), tt);
  at_left = λ k a pa. (sym (xor-left a.0 a.1 k), tt);
  at_keep = λ k a pa. (sym (and-xor a.0 a.1 k), tt);
  at_none = (refl, tt);
}

every_pair : (env : List (ℕ × ℕ)) → Every Anything env
every_pair [] = tt
every_pair (x ∷ xs) = (tt, every_pair xs)

map-sum : (env : List (ℕ × ℕ)) → map (λ a. bit_xor a.0 a.1) env ≡ zip2 bit_xor (map (λ a. a.0) env) (map (λ a. a.1) env)
map-sum [] = refl
map-sum (x ∷ xs) = ap (λ (l : List ℕ). bit_xor x.0 x.1 ∷ l) (map-sum xs)

abbrev pub net : List ℕ → List ℕ
net xs = places_of on_bytes transposed_places (operations_of on_bytes transposing xs)

net-sum : (env : List (ℕ × ℕ)) → net (map (λ a. bit_xor a.0 a.1) env) ≡ zip2 bit_xor (net (map (λ a. a.0) env)) (net (map (λ a. a.1) env))
net-sum env =
    let all = every_pair env in
    sym (network-linear on_pairs on_bytes (λ a. bit_xor a.0 a.1) Anything sum_hom transposing transposed_places env all)
    ∙ map-sum (places_of on_pairs transposed_places (operations_of on_pairs transposing env))
    ∙ (λ i. zip2 bit_xor (network-linear on_pairs on_bytes (λ a. a.0) Anything first_hom transposing transposed_places env all i)
    (network-linear on_pairs on_bytes (λ a. a.1) Anything second_hom transposing transposed_places env all i))

-- ---- one row at a time

-- an additive function of a byte, known at its two halves
by_halves : (f g : ℕ → List ℕ) → ((x y : ℕ) → f (bit_xor x y) ≡ zip2 bit_xor (f x) (f y))
    → map (λ h. f (16 * h)) (range_with_len 0 16) ≡ map (λ h. g (16 * h)) (range_with_len 0 16) → map f (range_with_len 0 16) ≡ map g (range_with_len 0 16)
    → map (λ x. zip2 bit_xor (g (16 * (x / 16))) (g (x % 16))) (range_with_len 0 256) ≡ map g (range_with_len 0 256)
    → (x : ℕ) → x < 256 → f x ≡ g x
by_halves f g additive high low whole x lt =
    let apart = agree_at (λ x. bit_xor (16 * (x / 16)) (x % 16)) (λ x. x) 256 x halves_are lt in
    ap f (sym apart) ∙ additive (16 * (x / 16)) (x % 16)
    ∙ (λ i. zip2 bit_xor (agree_lists (λ h. f (16 * h)) (λ h. g (16 * h)) 16 (x / 16) high (omega arith) i) (agree_lists f g 16 (x % 16) low (omega arith) i))
    ∙ agree_lists (λ x. zip2 bit_xor (g (16 * (x / 16))) (g (x % 16))) g 256 x whole lt
  where
    halves_are : map (λ x. bit_xor (16 * (x / 16)) (x % 16)) (range_with_len 0 256) ≡ map (λ x. x) (range_with_len 0 256)
    halves_are = refl

column0 : (x : ℕ) → x < 256 → net (x ∷ 0 ∷ 0 ∷ 0 ∷ 0 ∷ 0 ∷ 0 ∷ 0 ∷ []) ≡ bit x 7 * 128 ∷ bit x 6 * 128 ∷ bit x 5 * 128 ∷ bit x 4 * 128 ∷ bit x 3 * 128 ∷ bit x 2 * 128 ∷ bit x 1 * 128 ∷ bit x 0 * 128 ∷ []
column0 = by_halves (λ x. net (x ∷ 0 ∷ 0 ∷ 0 ∷ 0 ∷ 0 ∷ 0 ∷ 0 ∷ [])) (λ x. bit x 7 * 128 ∷ bit x 6 * 128 ∷ bit x 5 * 128 ∷ bit x 4 * 128 ∷ bit x 3 * 128 ∷ bit x 2 * 128 ∷ bit x 1 * 128 ∷ bit x 0 * 128 ∷ []) (λ x y. net-sum ((x, y) ∷ (0, 0) ∷ (0, 0) ∷ (0, 0) ∷ (0, 0) ∷ (0, 0) ∷ (0, 0) ∷ (0, 0) ∷ [])) refl refl refl

column1 : (x : ℕ) → x < 256 → net (0 ∷ x ∷ 0 ∷ 0 ∷ 0 ∷ 0 ∷ 0 ∷ 0 ∷ []) ≡ bit x 7 * 64 ∷ bit x 6 * 64 ∷ bit x 5 * 64 ∷ bit x 4 * 64 ∷ bit x 3 * 64 ∷ bit x 2 * 64 ∷ bit x 1 * 64 ∷ bit x 0 * 64 ∷ []
column1 = by_halves (λ x. net (0 ∷ x ∷ 0 ∷ 0 ∷ 0 ∷ 0 ∷ 0 ∷ 0 ∷ [])) (λ x. bit x 7 * 64 ∷ bit x 6 * 64 ∷ bit x 5 * 64 ∷ bit x 4 * 64 ∷ bit x 3 * 64 ∷ bit x 2 * 64 ∷ bit x 1 * 64 ∷ bit x 0 * 64 ∷ []) (λ x y. net-sum ((0, 0) ∷ (x, y) ∷ (0, 0) ∷ (0, 0) ∷ (0, 0) ∷ (0, 0) ∷ (0, 0) ∷ (0, 0) ∷ [])) refl refl refl

column2 : (x : ℕ) → x < 256 → net (0 ∷ 0 ∷ x ∷ 0 ∷ 0 ∷ 0 ∷ 0 ∷ 0 ∷ []) ≡ bit x 7 * 32 ∷ bit x 6 * 32 ∷ bit x 5 * 32 ∷ bit x 4 * 32 ∷ bit x 3 * 32 ∷ bit x 2 * 32 ∷ bit x 1 * 32 ∷ bit x 0 * 32 ∷ []
column2 = by_halves (λ x. net (0 ∷ 0 ∷ x ∷ 0 ∷ 0 ∷ 0 ∷ 0 ∷ 0 ∷ [])) (λ x. bit x 7 * 32 ∷ bit x 6 * 32 ∷ bit x 5 * 32 ∷ bit x 4 * 32 ∷ bit x 3 * 32 ∷ bit x 2 * 32 ∷ bit x 1 * 32 ∷ bit x 0 * 32 ∷ []) (λ x y. net-sum ((0, 0) ∷ (0, 0) ∷ (x, y) ∷ (0, 0) ∷ (0, 0) ∷ (0, 0) ∷ (0, 0) ∷ (0, 0) ∷ [])) refl refl refl

column3 : (x : ℕ) → x < 256 → net (0 ∷ 0 ∷ 0 ∷ x ∷ 0 ∷ 0 ∷ 0 ∷ 0 ∷ []) ≡ bit x 7 * 16 ∷ bit x 6 * 16 ∷ bit x 5 * 16 ∷ bit x 4 * 16 ∷ bit x 3 * 16 ∷ bit x 2 * 16 ∷ bit x 1 * 16 ∷ bit x 0 * 16 ∷ []
column3 = by_halves (λ x. net (0 ∷ 0 ∷ 0 ∷ x ∷ 0 ∷ 0 ∷ 0 ∷ 0 ∷ [])) (λ x. bit x 7 * 16 ∷ bit x 6 * 16 ∷ bit x 5 * 16 ∷ bit x 4 * 16 ∷ bit x 3 * 16 ∷ bit x 2 * 16 ∷ bit x 1 * 16 ∷ bit x 0 * 16 ∷ []) (λ x y. net-sum ((0, 0) ∷ (0, 0) ∷ (0, 0) ∷ (x, y) ∷ (0, 0) ∷ (0, 0) ∷ (0, 0) ∷ (0, 0) ∷ [])) refl refl refl

column4 : (x : ℕ) → x < 256 → net (0 ∷ 0 ∷ 0 ∷ 0 ∷ x ∷ 0 ∷ 0 ∷ 0 ∷ []) ≡ bit x 7 * 8 ∷ bit x 6 * 8 ∷ bit x 5 * 8 ∷ bit x 4 * 8 ∷ bit x 3 * 8 ∷ bit x 2 * 8 ∷ bit x 1 * 8 ∷ bit x 0 * 8 ∷ []
column4 = by_halves (λ x. net (0 ∷ 0 ∷ 0 ∷ 0 ∷ x ∷ 0 ∷ 0 ∷ 0 ∷ [])) (λ x. bit x 7 * 8 ∷ bit x 6 * 8 ∷ bit x 5 * 8 ∷ bit x 4 * 8 ∷ bit x 3 * 8 ∷ bit x 2 * 8 ∷ bit x 1 * 8 ∷ bit x 0 * 8 ∷ []) (λ x y. net-sum ((0, 0) ∷ (0, 0) ∷ (0, 0) ∷ (0, 0) ∷ (x, y) ∷ (0, 0) ∷ (0, 0) ∷ (0, 0) ∷ [])) refl refl refl

column5 : (x : ℕ) → x < 256 → net (0 ∷ 0 ∷ 0 ∷ 0 ∷ 0 ∷ x ∷ 0 ∷ 0 ∷ []) ≡ bit x 7 * 4 ∷ bit x 6 * 4 ∷ bit x 5 * 4 ∷ bit x 4 * 4 ∷ bit x 3 * 4 ∷ bit x 2 * 4 ∷ bit x 1 * 4 ∷ bit x 0 * 4 ∷ []
column5 = by_halves (λ x. net (0 ∷ 0 ∷ 0 ∷ 0 ∷ 0 ∷ x ∷ 0 ∷ 0 ∷ [])) (λ x. bit x 7 * 4 ∷ bit x 6 * 4 ∷ bit x 5 * 4 ∷ bit x 4 * 4 ∷ bit x 3 * 4 ∷ bit x 2 * 4 ∷ bit x 1 * 4 ∷ bit x 0 * 4 ∷ []) (λ x y. net-sum ((0, 0) ∷ (0, 0) ∷ (0, 0) ∷ (0, 0) ∷ (0, 0) ∷ (x, y) ∷ (0, 0) ∷ (0, 0) ∷ [])) refl refl refl

column6 : (x : ℕ) → x < 256 → net (0 ∷ 0 ∷ 0 ∷ 0 ∷ 0 ∷ 0 ∷ x ∷ 0 ∷ []) ≡ bit x 7 * 2 ∷ bit x 6 * 2 ∷ bit x 5 * 2 ∷ bit x 4 * 2 ∷ bit x 3 * 2 ∷ bit x 2 * 2 ∷ bit x 1 * 2 ∷ bit x 0 * 2 ∷ []
column6 = by_halves (λ x. net (0 ∷ 0 ∷ 0 ∷ 0 ∷ 0 ∷ 0 ∷ x ∷ 0 ∷ [])) (λ x. bit x 7 * 2 ∷ bit x 6 * 2 ∷ bit x 5 * 2 ∷ bit x 4 * 2 ∷ bit x 3 * 2 ∷ bit x 2 * 2 ∷ bit x 1 * 2 ∷ bit x 0 * 2 ∷ []) (λ x y. net-sum ((0, 0) ∷ (0, 0) ∷ (0, 0) ∷ (0, 0) ∷ (0, 0) ∷ (0, 0) ∷ (x, y) ∷ (0, 0) ∷ [])) refl refl refl

column7 : (x : ℕ) → x < 256 → net (0 ∷ 0 ∷ 0 ∷ 0 ∷ 0 ∷ 0 ∷ 0 ∷ x ∷ []) ≡ bit x 7 * 1 ∷ bit x 6 * 1 ∷ bit x 5 * 1 ∷ bit x 4 * 1 ∷ bit x 3 * 1 ∷ bit x 2 * 1 ∷ bit x 1 * 1 ∷ bit x 0 * 1 ∷ []
column7 = by_halves (λ x. net (0 ∷ 0 ∷ 0 ∷ 0 ∷ 0 ∷ 0 ∷ 0 ∷ x ∷ [])) (λ x. bit x 7 * 1 ∷ bit x 6 * 1 ∷ bit x 5 * 1 ∷ bit x 4 * 1 ∷ bit x 3 * 1 ∷ bit x 2 * 1 ∷ bit x 1 * 1 ∷ bit x 0 * 1 ∷ []) (λ x y. net-sum ((0, 0) ∷ (0, 0) ∷ (0, 0) ∷ (0, 0) ∷ (0, 0) ∷ (0, 0) ∷ (0, 0) ∷ (x, y) ∷ [])) refl refl refl

sums : (x0 x1 x2 x3 x4 x5 x6 x7 : ℕ) → x0 < 256 → x1 < 256 → x2 < 256 → x3 < 256 → x4 < 256 → x5 < 256 → x6 < 256 → x7 < 256 → net (x0 ∷ x1 ∷ x2 ∷ x3 ∷ x4 ∷ x5 ∷ x6 ∷ x7 ∷ []) ≡ (zip2 bit_xor (bit x0 7 * 128 ∷ bit x0 6 * 128 ∷ bit x0 5 * 128 ∷ bit x0 4 * 128 ∷ bit x0 3 * 128 ∷ bit x0 2 * 128 ∷ bit x0 1 * 128 ∷ bit x0 0 * 128 ∷ []) (zip2 bit_xor (bit x1 7 * 64 ∷ bit x1 6 * 64 ∷ bit x1 5 * 64 ∷ bit x1 4 * 64 ∷ bit x1 3 * 64 ∷ bit x1 2 * 64 ∷ bit x1 1 * 64 ∷ bit x1 0 * 64 ∷ []) (zip2 bit_xor (bit x2 7 * 32 ∷ bit x2 6 * 32 ∷ bit x2 5 * 32 ∷ bit x2 4 * 32 ∷ bit x2 3 * 32 ∷ bit x2 2 * 32 ∷ bit x2 1 * 32 ∷ bit x2 0 * 32 ∷ []) (zip2 bit_xor (bit x3 7 * 16 ∷ bit x3 6 * 16 ∷ bit x3 5 * 16 ∷ bit x3 4 * 16 ∷ bit x3 3 * 16 ∷ bit x3 2 * 16 ∷ bit x3 1 * 16 ∷ bit x3 0 * 16 ∷ []) (zip2 bit_xor (bit x4 7 * 8 ∷ bit x4 6 * 8 ∷ bit x4 5 * 8 ∷ bit x4 4 * 8 ∷ bit x4 3 * 8 ∷ bit x4 2 * 8 ∷ bit x4 1 * 8 ∷ bit x4 0 * 8 ∷ []) (zip2 bit_xor (bit x5 7 * 4 ∷ bit x5 6 * 4 ∷ bit x5 5 * 4 ∷ bit x5 4 * 4 ∷ bit x5 3 * 4 ∷ bit x5 2 * 4 ∷ bit x5 1 * 4 ∷ bit x5 0 * 4 ∷ []) (zip2 bit_xor (bit x6 7 * 2 ∷ bit x6 6 * 2 ∷ bit x6 5 * 2 ∷ bit x6 4 * 2 ∷ bit x6 3 * 2 ∷ bit x6 2 * 2 ∷ bit x6 1 * 2 ∷ bit x6 0 * 2 ∷ []) (bit x7 7 * 1 ∷ bit x7 6 * 1 ∷ bit x7 5 * 1 ∷ bit x7 4 * 1 ∷ bit x7 3 * 1 ∷ bit x7 2 * 1 ∷ bit x7 1 * 1 ∷ bit x7 0 * 1 ∷ []))))))))
sums x0 x1 x2 x3 x4 x5 x6 x7 l0 l1 l2 l3 l4 l5 l6 l7 =
    let t6 : net (0 ∷ 0 ∷ 0 ∷ 0 ∷ 0 ∷ 0 ∷ x6 ∷ x7 ∷ []) ≡ (zip2 bit_xor (bit x6 7 * 2 ∷ bit x6 6 * 2 ∷ bit x6 5 * 2 ∷ bit x6 4 * 2 ∷ bit x6 3 * 2 ∷ bit x6 2 * 2 ∷ bit x6 1 * 2 ∷ bit x6 0 * 2 ∷ []) (bit x7 7 * 1 ∷ bit x7 6 * 1 ∷ bit x7 5 * 1 ∷ bit x7 4 * 1 ∷ bit x7 3 * 1 ∷ bit x7 2 * 1 ∷ bit x7 1 * 1 ∷ bit x7 0 * 1 ∷ [])) =
    ap (λ (n : ℕ). net (0 ∷ 0 ∷ 0 ∷ 0 ∷ 0 ∷ 0 ∷ n ∷ x7 ∷ [])) (sym (xor_zero_r x6)) ∙ net-sum ((0, 0) ∷ (0, 0) ∷ (0, 0) ∷ (0, 0) ∷ (0, 0) ∷ (0, 0) ∷ (x6, 0) ∷ (0, x7) ∷ [])
    ∙ (λ i. zip2 bit_xor (column6 x6 l6 i) (column7 x7 l7 i)) in
    let t5 : net (0 ∷ 0 ∷ 0 ∷ 0 ∷ 0 ∷ x5 ∷ x6 ∷ x7 ∷ []) ≡ (zip2 bit_xor (bit x5 7 * 4 ∷ bit x5 6 * 4 ∷ bit x5 5 * 4 ∷ bit x5 4 * 4 ∷ bit x5 3 * 4 ∷ bit x5 2 * 4 ∷ bit x5 1 * 4 ∷ bit x5 0 * 4 ∷ []) (zip2 bit_xor (bit x6 7 * 2 ∷ bit x6 6 * 2 ∷ bit x6 5 * 2 ∷ bit x6 4 * 2 ∷ bit x6 3 * 2 ∷ bit x6 2 * 2 ∷ bit x6 1 * 2 ∷ bit x6 0 * 2 ∷ []) (bit x7 7 * 1 ∷ bit x7 6 * 1 ∷ bit x7 5 * 1 ∷ bit x7 4 * 1 ∷ bit x7 3 * 1 ∷ bit x7 2 * 1 ∷ bit x7 1 * 1 ∷ bit x7 0 * 1 ∷ []))) =
    ap (λ (n : ℕ). net (0 ∷ 0 ∷ 0 ∷ 0 ∷ 0 ∷ n ∷ x6 ∷ x7 ∷ [])) (sym (xor_zero_r x5)) ∙ net-sum ((0, 0) ∷ (0, 0) ∷ (0, 0) ∷ (0, 0) ∷ (0, 0) ∷ (x5, 0) ∷ (0, x6) ∷ (0, x7) ∷ [])
    ∙ (λ i. zip2 bit_xor (column5 x5 l5 i) (t6 i)) in
    let t4 : net (0 ∷ 0 ∷ 0 ∷ 0 ∷ x4 ∷ x5 ∷ x6 ∷ x7 ∷ []) ≡ (zip2 bit_xor (bit x4 7 * 8 ∷ bit x4 6 * 8 ∷ bit x4 5 * 8 ∷ bit x4 4 * 8 ∷ bit x4 3 * 8 ∷ bit x4 2 * 8 ∷ bit x4 1 * 8 ∷ bit x4 0 * 8 ∷ []) (zip2 bit_xor (bit x5 7 * 4 ∷ bit x5 6 * 4 ∷ bit x5 5 * 4 ∷ bit x5 4 * 4 ∷ bit x5 3 * 4 ∷ bit x5 2 * 4 ∷ bit x5 1 * 4 ∷ bit x5 0 * 4 ∷ []) (zip2 bit_xor (bit x6 7 * 2 ∷ bit x6 6 * 2 ∷ bit x6 5 * 2 ∷ bit x6 4 * 2 ∷ bit x6 3 * 2 ∷ bit x6 2 * 2 ∷ bit x6 1 * 2 ∷ bit x6 0 * 2 ∷ []) (bit x7 7 * 1 ∷ bit x7 6 * 1 ∷ bit x7 5 * 1 ∷ bit x7 4 * 1 ∷ bit x7 3 * 1 ∷ bit x7 2 * 1 ∷ bit x7 1 * 1 ∷ bit x7 0 * 1 ∷ [])))) =
    ap (λ (n : ℕ). net (0 ∷ 0 ∷ 0 ∷ 0 ∷ n ∷ x5 ∷ x6 ∷ x7 ∷ [])) (sym (xor_zero_r x4)) ∙ net-sum ((0, 0) ∷ (0, 0) ∷ (0, 0) ∷ (0, 0) ∷ (x4, 0) ∷ (0, x5) ∷ (0, x6) ∷ (0, x7) ∷ [])
    ∙ (λ i. zip2 bit_xor (column4 x4 l4 i) (t5 i)) in
    let t3 : net (0 ∷ 0 ∷ 0 ∷ x3 ∷ x4 ∷ x5 ∷ x6 ∷ x7 ∷ []) ≡ (zip2 bit_xor (bit x3 7 * 16 ∷ bit x3 6 * 16 ∷ bit x3 5 * 16 ∷ bit x3 4 * 16 ∷ bit x3 3 * 16 ∷ bit x3 2 * 16 ∷ bit x3 1 * 16 ∷ bit x3 0 * 16 ∷ []) (zip2 bit_xor (bit x4 7 * 8 ∷ bit x4 6 * 8 ∷ bit x4 5 * 8 ∷ bit x4 4 * 8 ∷ bit x4 3 * 8 ∷ bit x4 2 * 8 ∷ bit x4 1 * 8 ∷ bit x4 0 * 8 ∷ []) (zip2 bit_xor (bit x5 7 * 4 ∷ bit x5 6 * 4 ∷ bit x5 5 * 4 ∷ bit x5 4 * 4 ∷ bit x5 3 * 4 ∷ bit x5 2 * 4 ∷ bit x5 1 * 4 ∷ bit x5 0 * 4 ∷ []) (zip2 bit_xor (bit x6 7 * 2 ∷ bit x6 6 * 2 ∷ bit x6 5 * 2 ∷ bit x6 4 * 2 ∷ bit x6 3 * 2 ∷ bit x6 2 * 2 ∷ bit x6 1 * 2 ∷ bit x6 0 * 2 ∷ []) (bit x7 7 * 1 ∷ bit x7 6 * 1 ∷ bit x7 5 * 1 ∷ bit x7 4 * 1 ∷ bit x7 3 * 1 ∷ bit x7 2 * 1 ∷ bit x7 1 * 1 ∷ bit x7 0 * 1 ∷ []))))) =
    ap (λ (n : ℕ). net (0 ∷ 0 ∷ 0 ∷ n ∷ x4 ∷ x5 ∷ x6 ∷ x7 ∷ [])) (sym (xor_zero_r x3)) ∙ net-sum ((0, 0) ∷ (0, 0) ∷ (0, 0) ∷ (x3, 0) ∷ (0, x4) ∷ (0, x5) ∷ (0, x6) ∷ (0, x7) ∷ [])
    ∙ (λ i. zip2 bit_xor (column3 x3 l3 i) (t4 i)) in
    let t2 : net (0 ∷ 0 ∷ x2 ∷ x3 ∷ x4 ∷ x5 ∷ x6 ∷ x7 ∷ []) ≡ (zip2 bit_xor (bit x2 7 * 32 ∷ bit x2 6 * 32 ∷ bit x2 5 * 32 ∷ bit x2 4 * 32 ∷ bit x2 3 * 32 ∷ bit x2 2 * 32 ∷ bit x2 1 * 32 ∷ bit x2 0 * 32 ∷ []) (zip2 bit_xor (bit x3 7 * 16 ∷ bit x3 6 * 16 ∷ bit x3 5 * 16 ∷ bit x3 4 * 16 ∷ bit x3 3 * 16 ∷ bit x3 2 * 16 ∷ bit x3 1 * 16 ∷ bit x3 0 * 16 ∷ []) (zip2 bit_xor (bit x4 7 * 8 ∷ bit x4 6 * 8 ∷ bit x4 5 * 8 ∷ bit x4 4 * 8 ∷ bit x4 3 * 8 ∷ bit x4 2 * 8 ∷ bit x4 1 * 8 ∷ bit x4 0 * 8 ∷ []) (zip2 bit_xor (bit x5 7 * 4 ∷ bit x5 6 * 4 ∷ bit x5 5 * 4 ∷ bit x5 4 * 4 ∷ bit x5 3 * 4 ∷ bit x5 2 * 4 ∷ bit x5 1 * 4 ∷ bit x5 0 * 4 ∷ []) (zip2 bit_xor (bit x6 7 * 2 ∷ bit x6 6 * 2 ∷ bit x6 5 * 2 ∷ bit x6 4 * 2 ∷ bit x6 3 * 2 ∷ bit x6 2 * 2 ∷ bit x6 1 * 2 ∷ bit x6 0 * 2 ∷ []) (bit x7 7 * 1 ∷ bit x7 6 * 1 ∷ bit x7 5 * 1 ∷ bit x7 4 * 1 ∷ bit x7 3 * 1 ∷ bit x7 2 * 1 ∷ bit x7 1 * 1 ∷ bit x7 0 * 1 ∷ [])))))) =
    ap (λ (n : ℕ). net (0 ∷ 0 ∷ n ∷ x3 ∷ x4 ∷ x5 ∷ x6 ∷ x7 ∷ [])) (sym (xor_zero_r x2)) ∙ net-sum ((0, 0) ∷ (0, 0) ∷ (x2, 0) ∷ (0, x3) ∷ (0, x4) ∷ (0, x5) ∷ (0, x6) ∷ (0, x7) ∷ [])
    ∙ (λ i. zip2 bit_xor (column2 x2 l2 i) (t3 i)) in
    let t1 : net (0 ∷ x1 ∷ x2 ∷ x3 ∷ x4 ∷ x5 ∷ x6 ∷ x7 ∷ []) ≡ (zip2 bit_xor (bit x1 7 * 64 ∷ bit x1 6 * 64 ∷ bit x1 5 * 64 ∷ bit x1 4 * 64 ∷ bit x1 3 * 64 ∷ bit x1 2 * 64 ∷ bit x1 1 * 64 ∷ bit x1 0 * 64 ∷ []) (zip2 bit_xor (bit x2 7 * 32 ∷ bit x2 6 * 32 ∷ bit x2 5 * 32 ∷ bit x2 4 * 32 ∷ bit x2 3 * 32 ∷ bit x2 2 * 32 ∷ bit x2 1 * 32 ∷ bit x2 0 * 32 ∷ []) (zip2 bit_xor (bit x3 7 * 16 ∷ bit x3 6 * 16 ∷ bit x3 5 * 16 ∷ bit x3 4 * 16 ∷ bit x3 3 * 16 ∷ bit x3 2 * 16 ∷ bit x3 1 * 16 ∷ bit x3 0 * 16 ∷ []) (zip2 bit_xor (bit x4 7 * 8 ∷ bit x4 6 * 8 ∷ bit x4 5 * 8 ∷ bit x4 4 * 8 ∷ bit x4 3 * 8 ∷ bit x4 2 * 8 ∷ bit x4 1 * 8 ∷ bit x4 0 * 8 ∷ []) (zip2 bit_xor (bit x5 7 * 4 ∷ bit x5 6 * 4 ∷ bit x5 5 * 4 ∷ bit x5 4 * 4 ∷ bit x5 3 * 4 ∷ bit x5 2 * 4 ∷ bit x5 1 * 4 ∷ bit x5 0 * 4 ∷ []) (zip2 bit_xor (bit x6 7 * 2 ∷ bit x6 6 * 2 ∷ bit x6 5 * 2 ∷ bit x6 4 * 2 ∷ bit x6 3 * 2 ∷ bit x6 2 * 2 ∷ bit x6 1 * 2 ∷ bit x6 0 * 2 ∷ []) (bit x7 7 * 1 ∷ bit x7 6 * 1 ∷ bit x7 5 * 1 ∷ bit x7 4 * 1 ∷ bit x7 3 * 1 ∷ bit x7 2 * 1 ∷ bit x7 1 * 1 ∷ bit x7 0 * 1 ∷ []))))))) =
    ap (λ (n : ℕ). net (0 ∷ n ∷ x2 ∷ x3 ∷ x4 ∷ x5 ∷ x6 ∷ x7 ∷ [])) (sym (xor_zero_r x1)) ∙ net-sum ((0, 0) ∷ (x1, 0) ∷ (0, x2) ∷ (0, x3) ∷ (0, x4) ∷ (0, x5) ∷ (0, x6) ∷ (0, x7) ∷ [])
    ∙ (λ i. zip2 bit_xor (column1 x1 l1 i) (t2 i)) in
    let t0 : net (x0 ∷ x1 ∷ x2 ∷ x3 ∷ x4 ∷ x5 ∷ x6 ∷ x7 ∷ []) ≡ (zip2 bit_xor (bit x0 7 * 128 ∷ bit x0 6 * 128 ∷ bit x0 5 * 128 ∷ bit x0 4 * 128 ∷ bit x0 3 * 128 ∷ bit x0 2 * 128 ∷ bit x0 1 * 128 ∷ bit x0 0 * 128 ∷ []) (zip2 bit_xor (bit x1 7 * 64 ∷ bit x1 6 * 64 ∷ bit x1 5 * 64 ∷ bit x1 4 * 64 ∷ bit x1 3 * 64 ∷ bit x1 2 * 64 ∷ bit x1 1 * 64 ∷ bit x1 0 * 64 ∷ []) (zip2 bit_xor (bit x2 7 * 32 ∷ bit x2 6 * 32 ∷ bit x2 5 * 32 ∷ bit x2 4 * 32 ∷ bit x2 3 * 32 ∷ bit x2 2 * 32 ∷ bit x2 1 * 32 ∷ bit x2 0 * 32 ∷ []) (zip2 bit_xor (bit x3 7 * 16 ∷ bit x3 6 * 16 ∷ bit x3 5 * 16 ∷ bit x3 4 * 16 ∷ bit x3 3 * 16 ∷ bit x3 2 * 16 ∷ bit x3 1 * 16 ∷ bit x3 0 * 16 ∷ []) (zip2 bit_xor (bit x4 7 * 8 ∷ bit x4 6 * 8 ∷ bit x4 5 * 8 ∷ bit x4 4 * 8 ∷ bit x4 3 * 8 ∷ bit x4 2 * 8 ∷ bit x4 1 * 8 ∷ bit x4 0 * 8 ∷ []) (zip2 bit_xor (bit x5 7 * 4 ∷ bit x5 6 * 4 ∷ bit x5 5 * 4 ∷ bit x5 4 * 4 ∷ bit x5 3 * 4 ∷ bit x5 2 * 4 ∷ bit x5 1 * 4 ∷ bit x5 0 * 4 ∷ []) (zip2 bit_xor (bit x6 7 * 2 ∷ bit x6 6 * 2 ∷ bit x6 5 * 2 ∷ bit x6 4 * 2 ∷ bit x6 3 * 2 ∷ bit x6 2 * 2 ∷ bit x6 1 * 2 ∷ bit x6 0 * 2 ∷ []) (bit x7 7 * 1 ∷ bit x7 6 * 1 ∷ bit x7 5 * 1 ∷ bit x7 4 * 1 ∷ bit x7 3 * 1 ∷ bit x7 2 * 1 ∷ bit x7 1 * 1 ∷ bit x7 0 * 1 ∷ [])))))))) =
    ap (λ (n : ℕ). net (n ∷ x1 ∷ x2 ∷ x3 ∷ x4 ∷ x5 ∷ x6 ∷ x7 ∷ [])) (sym (xor_zero_r x0)) ∙ net-sum ((x0, 0) ∷ (0, x1) ∷ (0, x2) ∷ (0, x3) ∷ (0, x4) ∷ (0, x5) ∷ (0, x6) ∷ (0, x7) ∷ [])
    ∙ (λ i. zip2 bit_xor (column0 x0 l0 i) (t1 i)) in
    t0

-- bits in their places, added
abbrev placed : List ℕ → ℕ
placed l = bit_xor (get_or l 0 0 * 128) (bit_xor (get_or l 1 0 * 64) (bit_xor (get_or l 2 0 * 32) (bit_xor (get_or l 3 0 * 16) (bit_xor (get_or l 4 0 * 8) (bit_xor (get_or l 5 0 * 4) (bit_xor (get_or l 6 0 * 2) (get_or l 7 0 * 1)))))))

placed_is : map (λ z. placed (bits_of z)) (range_with_len 0 256) ≡ map (λ z. z) (range_with_len 0 256)
placed_is = refl

placed-from_bits : (a b c d e f g h : ℕ) → a < 2 → b < 2 → c < 2 → d < 2 → e < 2 → f < 2 → g < 2 → h < 2 → placed (a ∷ b ∷ c ∷ d ∷ e ∷ f ∷ g ∷ h ∷ []) ≡ from_bits (a ∷ b ∷ c ∷ d ∷ e ∷ f ∷ g ∷ h ∷ [])
placed-from_bits a b c d e f g h la lb lc ld le lf lg lh =
    let z : ℕ = from_bits (a ∷ b ∷ c ∷ d ∷ e ∷ f ∷ g ∷ h ∷ []) in
    let lz : z < 256 = omega arith in
    ap placed (sym (bits_back a b c d e f g h la lb lc ld le lf lg lh)) ∙ agree_at (λ z. placed (bits_of z)) (λ z. z) 256 z placed_is lz

-- the network transposes
net_is : (x0 x1 x2 x3 x4 x5 x6 x7 : ℕ) → x0 < 256 → x1 < 256 → x2 < 256 → x3 < 256 → x4 < 256 → x5 < 256 → x6 < 256 → x7 < 256 → net (x0 ∷ x1 ∷ x2 ∷ x3 ∷ x4 ∷ x5 ∷ x6 ∷ x7 ∷ []) ≡ from_bits (bit x0 7 ∷ bit x1 7 ∷ bit x2 7 ∷ bit x3 7 ∷ bit x4 7 ∷ bit x5 7 ∷ bit x6 7 ∷ bit x7 7 ∷ []) ∷ from_bits (bit x0 6 ∷ bit x1 6 ∷ bit x2 6 ∷ bit x3 6 ∷ bit x4 6 ∷ bit x5 6 ∷ bit x6 6 ∷ bit x7 6 ∷ []) ∷ from_bits (bit x0 5 ∷ bit x1 5 ∷ bit x2 5 ∷ bit x3 5 ∷ bit x4 5 ∷ bit x5 5 ∷ bit x6 5 ∷ bit x7 5 ∷ []) ∷ from_bits (bit x0 4 ∷ bit x1 4 ∷ bit x2 4 ∷ bit x3 4 ∷ bit x4 4 ∷ bit x5 4 ∷ bit x6 4 ∷ bit x7 4 ∷ []) ∷ from_bits (bit x0 3 ∷ bit x1 3 ∷ bit x2 3 ∷ bit x3 3 ∷ bit x4 3 ∷ bit x5 3 ∷ bit x6 3 ∷ bit x7 3 ∷ []) ∷ from_bits (bit x0 2 ∷ bit x1 2 ∷ bit x2 2 ∷ bit x3 2 ∷ bit x4 2 ∷ bit x5 2 ∷ bit x6 2 ∷ bit x7 2 ∷ []) ∷ from_bits (bit x0 1 ∷ bit x1 1 ∷ bit x2 1 ∷ bit x3 1 ∷ bit x4 1 ∷ bit x5 1 ∷ bit x6 1 ∷ bit x7 1 ∷ []) ∷ from_bits (bit x0 0 ∷ bit x1 0 ∷ bit x2 0 ∷ bit x3 0 ∷ bit x4 0 ∷ bit x5 0 ∷ bit x6 0 ∷ bit x7 0 ∷ []) ∷ []
net_is x0 x1 x2 x3 x4 x5 x6 x7 l0 l1 l2 l3 l4 l5 l6 l7 =
    let row : (i : ℕ) → placed (bit x0 i ∷ bit x1 i ∷ bit x2 i ∷ bit x3 i ∷ bit x4 i ∷ bit x5 i ∷ bit x6 i ∷ bit x7 i ∷ []) ≡ from_bits (bit x0 i ∷ bit x1 i ∷ bit x2 i ∷ bit x3 i ∷ bit x4 i ∷ bit x5 i ∷ bit x6 i ∷ bit x7 i ∷ []) =
    λ i. placed-from_bits (bit x0 i) (bit x1 i) (bit x2 i) (bit x3 i) (bit x4 i) (bit x5 i) (bit x6 i) (bit x7 i) (bit_at-lt x0 i) (bit_at-lt x1 i) (bit_at-lt x2 i) (bit_at-lt x3 i) (bit_at-lt x4 i) (bit_at-lt x5 i) (bit_at-lt x6 i) (bit_at-lt x7 i) in
    sums x0 x1 x2 x3 x4 x5 x6 x7 l0 l1 l2 l3 l4 l5 l6 l7 ∙ (λ k. row 7 k ∷ row 6 k ∷ row 5 k ∷ row 4 k ∷ row 3 k ∷ row 2 k ∷ row 1 k ∷ row 0 k ∷ [])

-- ---- vectors

lane_hom : (p : ℕ) → p < 16 → IsLinearHom on_vectors on_bytes (λ v. get_or v p 0) (λ v. length v ≡ 16)
lane_hom p lp =
    let by : (f : ℕ → ℕ → ℕ) (k : ℕ) (v : List ℕ) → length v ≡ 16 → (get_or (zip2 f v (replicate 16 k)) p 0 ≡ f (get_or v p 0) k) × (length (zip2 f v (replicate 16 k)) ≡ 16) =
    λ f k v lv. (get_or-zip2 f v (replicate 16 k) p 0 0 0 (omega arith) lp ∙ ap (f (get_or v p 0)) (get_or-replicate {A = ℕ} 16 p k 0 lp), length-zip2 f v (replicate 16 k) lv ∙ lv) in
    record {
      at_add = λ a b la lb. (get_or-zip2 bit_xor a b p 0 0 0 (omega arith) (omega arith), length-zip2 bit_xor a b (la ∙ sym lb) ∙ la);
      at_right = λ k a la. by (λ x n. x / 2 ^ n) k a la;
      at_left = λ k a la. by (λ x n. x * 2 ^ n % 2 ^ 8) k a la;
      at_keep = λ k a la. by bit_and k a la;
      at_none = (get_or-replicate {A = ℕ} 16 p 0 0 lp, refl);
    }

-- lane p of the eight vectors
abbrev lane : List (List ℕ) → ℕ → List ℕ
lane ps p = map (λ v. get_or v p 0) ps

abbrev pub IsTransposed : Planes → Planes → Type 0
IsTransposed q r = planes_of r ≡ places_of on_vectors transposed_places (operations_of on_vectors transposing (planes_of q))

pub lane_is : (q r : Planes) (p : ℕ) → p < 16 → Every IsState (planes_of q) → IsTransposed q r → lane (planes_of r) p ≡ from_bits (map (bit_in p 7) (planes_of q)) ∷ from_bits (map (bit_in p 6) (planes_of q)) ∷ from_bits (map (bit_in p 5) (planes_of q)) ∷ from_bits (map (bit_in p 4) (planes_of q)) ∷ from_bits (map (bit_in p 3) (planes_of q)) ∷ from_bits (map (bit_in p 2) (planes_of q)) ∷ from_bits (map (bit_in p 1) (planes_of q)) ∷ from_bits (map (bit_in p 0) (planes_of q)) ∷ []
lane_is q r p lp states e =
    let g : List ℕ → ℕ = λ v. get_or v p 0 in
    let s0 : IsState q.b7 = states.0 in
    let s1 : IsState q.b6 = states.1.0 in
    let s2 : IsState q.b5 = states.1.1.0 in
    let s3 : IsState q.b4 = states.1.1.1.0 in
    let s4 : IsState q.b3 = states.1.1.1.1.0 in
    let s5 : IsState q.b2 = states.1.1.1.1.1.0 in
    let s6 : IsState q.b1 = states.1.1.1.1.1.1.0 in
    let s7 : IsState q.b0 = states.1.1.1.1.1.1.1.0 in
    let long : Every (λ v. length v ≡ 16) (planes_of q) = (s0.long, (s1.long, (s2.long, (s3.long, (s4.long, (s5.long, (s6.long, (s7.long, tt)))))))) in
    ap (λ (ps : List (List ℕ)). lane ps p) e
    ∙ network-linear on_vectors on_bytes g (λ v. length v ≡ 16) (lane_hom p lp) transposing transposed_places (planes_of q) long
    ∙ net_is (g q.b7) (g q.b6) (g q.b5) (g q.b4) (g q.b3) (g q.b2) (g q.b1) (g q.b0) (s0.bytes p) (s1.bytes p) (s2.bytes p) (s3.bytes p) (s4.bytes p) (s5.bytes p) (s6.bytes p) (s7.bytes p)

-- row i of the result is column i of what goes in: vector i is block i
pub transposed_vectors : (q r : Planes) → Every IsState (planes_of q) → Every IsState (planes_of r) → IsTransposed q r
    → planes_of r ≡ block_at (planes_of q) 7 ∷ block_at (planes_of q) 6 ∷ block_at (planes_of q) 5 ∷ block_at (planes_of q) 4 ∷ block_at (planes_of q) 3 ∷ block_at (planes_of q) 2 ∷ block_at (planes_of q) 1 ∷ block_at (planes_of q) 0 ∷ []
transposed_vectors q r states after e =
    let one : (i : ℕ) (v : List ℕ) → IsState v → ((p : ℕ) → p < 16 → get_or v p 0 ≡ from_bits (map (bit_in p i) (planes_of q))) → v ≡ block_at (planes_of q) i =
    λ i v sv same. fill_by_all (λ p. from_bits (map (bit_in p i) (planes_of q))) v 16 0 sv.long same in
    (λ k. one 7 r.b7 (after.0) (λ p lp. ap (λ (l : List ℕ). get_or l 0 0) (lane_is q r p lp states e)) k ∷ one 6 r.b6 (after.1.0) (λ p lp. ap (λ (l : List ℕ). get_or l 1 0) (lane_is q r p lp states e)) k ∷ one 5 r.b5 (after.1.1.0) (λ p lp. ap (λ (l : List ℕ). get_or l 2 0) (lane_is q r p lp states e)) k ∷ one 4 r.b4 (after.1.1.1.0) (λ p lp. ap (λ (l : List ℕ). get_or l 3 0) (lane_is q r p lp states e)) k ∷ one 3 r.b3 (after.1.1.1.1.0) (λ p lp. ap (λ (l : List ℕ). get_or l 4 0) (lane_is q r p lp states e)) k ∷ one 2 r.b2 (after.1.1.1.1.1.0) (λ p lp. ap (λ (l : List ℕ). get_or l 5 0) (lane_is q r p lp states e)) k ∷ one 1 r.b1 (after.1.1.1.1.1.1.0) (λ p lp. ap (λ (l : List ℕ). get_or l 6 0) (lane_is q r p lp states e)) k ∷ one 0 r.b0 (after.1.1.1.1.1.1.1.0) (λ p lp. ap (λ (l : List ℕ). get_or l 7 0) (lane_is q r p lp states e)) k ∷ [])
