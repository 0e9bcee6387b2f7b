-- What is done to vectors of 32 bytes is done to each of their two halves.
use Rattle.std.proofs.Common.{◌≡◌, ℕ, zero, suc, ◌+◌, ◌*◌, ◌/◌, ◌%◌, ◌^◌, ◌<◌, List, [], ◌∷◌, ◌++◌, map, get_or, length, take, drop, replicate, bit_xor, bit_and, bit_or, refl, sym, ap, subst, ◌∙◌, arith}
use Rattle.std.proofs.lemmas.List.FromFn.{fill_by_all}
use Rattle.std.proofs.lemmas.Simd.{length-zip2, length-chunk}
use Rattle.std.specs.List.{range_with_len}
use Rattle.std.specs.Simd.Lanes.{zip2}
use Rattle.aes_core.specs.Aes.{bytes_by}
use Rattle.aes_core.specs.Blocks.{block}
use Rattle.aes_planes.specs.Blocks.{vector_at}
use Rattle.aes_planes.specs.Circuit.{Gate, Ops, outputs, run}
use Rattle.aes_planes.specs.Planes.{planes_of, vector_ops}
use Rattle.aes_planes.specs.Transposition.{Linear, Operation, on_vectors, places_of, operations_of}
use Rattle.aes_planes.specs.Wide.{AreWide, side}
use Rattle.aes_planes.specs.declared.vectors.WidePlanes.{WidePlanes}
use Rattle.aes_planes.proofs.BlockLaws.{eight}
use Rattle.aes_planes.proofs.Hom.{Every, Every-get, IsHom, outputs-hom, run-hom}
use Rattle.aes_planes.proofs.TransposeLaw.{IsLinearHom, network-linear, places-keep, steps-keep}

pub two : (P : ℕ → Type 0) → P 0 → P 1 → (i : ℕ) → i < 2 → P i
two P a b zero lt = a
two P a b (suc zero) lt = b
two P a b (suc (suc n)) lt = absurd (omega arith)

-- ---- lanes two by two

take-zip2 : (f : ℕ → ℕ → ℕ) (n : ℕ) (a b : List ℕ) → take n (zip2 f a b) ≡ zip2 f (take n a) (take n b)
take-zip2 f zero a b = refl
take-zip2 f (suc n) [] b = refl
take-zip2 f (suc n) (x ∷ a) [] = refl
take-zip2 f (suc n) (x ∷ a) (y ∷ b) = ap (λ (l : List ℕ). f x y ∷ l) (take-zip2 f n a b)

zip2-nothing : (f : ℕ → ℕ → ℕ) (a : List ℕ) → [] ≡ zip2 f a []
zip2-nothing f [] = refl
zip2-nothing f (x ∷ a) = refl

drop-zip2 : (f : ℕ → ℕ → ℕ) (n : ℕ) (a b : List ℕ) → drop n (zip2 f a b) ≡ zip2 f (drop n a) (drop n b)
drop-zip2 f zero a b = refl
drop-zip2 f (suc n) [] b = refl
drop-zip2 f (suc n) (x ∷ a) [] = zip2-nothing f (drop n a)
drop-zip2 f (suc n) (x ∷ a) (y ∷ b) = drop-zip2 f n a b

pub block-zip2 : (f : ℕ → ℕ → ℕ) (i : ℕ) (a b : List ℕ) → block (zip2 f a b) i ≡ zip2 f (block a i) (block b i)
block-zip2 f i a b = ap (take 16) (drop-zip2 f (16 * i) a b) ∙ take-zip2 f 16 (drop (16 * i) a) (drop (16 * i) b)

-- the sum of two vectors, by what stands on a side of them
pub xored : (i : ℕ) (a b : List ℕ) (c d : List ℕ) → block a i ≡ c → block b i ≡ d → block (zip2 bit_xor a b) i ≡ zip2 bit_xor c d
xored i a b c d ea eb = block-zip2 bit_xor i a b ∙ (λ k. zip2 bit_xor (ea k) (eb k))

-- ---- 32 lanes

abbrev pub Long : List ℕ → Type 0
Long v = length v ≡ 32

pub long-zip2 : (f : ℕ → ℕ → ℕ) (a b : List ℕ) → Long a → Long b → Long (zip2 f a b)
long-zip2 f a b la lb = length-zip2 f a b (la ∙ sym lb) ∙ la

pub long-block : (v : List ℕ) → Long v → (i : ℕ) → i < 2 → length (block v i) ≡ 16
long-block v l i li = length-chunk (16 * i) 16 v (omega (arith, l))

-- the wide vectors as a list, that of bit 7 first
abbrev pub wide_of : WidePlanes → List (List ℕ)
wide_of q = q.b7 ∷ q.b6 ∷ q.b5 ∷ q.b4 ∷ q.b3 ∷ q.b2 ∷ q.b1 ∷ q.b0 ∷ []

every_long : (q : WidePlanes) → AreWide q → Every Long (wide_of q)
every_long q h = (h.l7, (h.l6, (h.l5, (h.l4, (h.l3, (h.l2, (h.l1, (h.l0, tt))))))))

wide_from : (q : WidePlanes) → Every Long (wide_of q) → AreWide q
wide_from q e = record { l7 = e.0; l6 = e.1.0; l5 = e.1.1.0; l4 = e.1.1.1.0; l3 = e.1.1.1.1.0; l2 = e.1.1.1.1.1.0; l1 = e.1.1.1.1.1.1.0; l0 = e.1.1.1.1.1.1.1.0 }

-- a vector of a side has 16 lanes
pub long_at : (q : WidePlanes) → AreWide q → (i j : ℕ) → i < 2 → j < 8 → length (vector_at (side i q) j) ≡ 16
long_at q h i j li lj =
    let at : (v : List ℕ) → Long v → length (block v i) ≡ 16 = λ v l. long-block v l i li in
    eight (λ j. length (vector_at (side i q) j) ≡ 16) (at q.b0 h.l0) (at q.b1 h.l1) (at q.b2 h.l2) (at q.b3 h.l3) (at q.b4 h.l4) (at q.b5 h.l5) (at q.b6 h.l6) (at q.b7 h.l7) j lj

-- ---- gates

-- gates on vectors of 32 bytes
abbrev pub wide_ops : Ops (List ℕ)
wide_ops = record { xor = zip2 bit_xor; and = zip2 bit_and; or = zip2 bit_or; none = replicate 32 0 }

splat : (k i : ℕ) → i < 2 → block (replicate 32 k) i ≡ replicate 16 k
splat k i li = two (λ i. block (replicate 32 k) i ≡ replicate 16 k) refl refl i li

side_hom : (i : ℕ) → i < 2 → IsHom wide_ops vector_ops (λ v. block v i) Long
side_hom i li = record {
  at_xor = λ a b la lb. block-zip2 bit_xor i a b;
  at_and = λ a b la lb. block-zip2 bit_and i a b;
  at_or = λ a b la lb. block-zip2 bit_or i a b;
  at_none = splat 0 i li;
  keeps_xor = long-zip2 bit_xor;
  keeps_and = long-zip2 bit_and;
  keeps_or = long-zip2 bit_or;
  keeps_none = refl;
}

outputs-long : (places : List ℕ) (env : List (List ℕ)) → Every Long env → Every Long (outputs wide_ops places env)
outputs-long [] env all = tt
outputs-long (k ∷ places) env all = (Every-get Long env k (replicate 32 0) all refl, outputs-long places env all)

-- a circuit on vectors of 32 bytes is the circuit on each side
pub gates_sides : (gates : List Gate) (places : List ℕ) (q r : WidePlanes) → AreWide q → wide_of r ≡ outputs wide_ops places (run wide_ops gates (wide_of q))
    → (i : ℕ) → i < 2 → planes_of (side i r) ≡ outputs vector_ops places (run vector_ops gates (planes_of (side i q)))
gates_sides gates places q r h e i li =
    let at : List ℕ → List ℕ = λ v. block v i in
    ap (map at) e
    ∙ outputs-hom wide_ops vector_ops at Long (side_hom i li) places (run wide_ops gates (wide_of q))
    ∙ ap (outputs vector_ops places) (run-hom wide_ops vector_ops at Long (side_hom i li) gates (wide_of q) (every_long q h)).0

pub gates_wide : (gates : List Gate) (places : List ℕ) (q r : WidePlanes) → AreWide q → wide_of r ≡ outputs wide_ops places (run wide_ops gates (wide_of q)) → AreWide r
gates_wide gates places q r h e =
    wide_from r (subst (Every Long) (sym e)
    (outputs-long places (run wide_ops gates (wide_of q)) ((run-hom wide_ops vector_ops (λ v. block v 0) Long (side_hom 0 (omega arith)) gates (wide_of q) (every_long q h)).1)))

-- ---- shifts, masks and sums

-- the operations of the network on vectors of 32 bytes
abbrev pub on_wide : Linear (List ℕ)
on_wide = record {
  add = zip2 bit_xor;
  right = λ k v. zip2 (λ x n. x / 2 ^ n) v (replicate 32 k);
  left = λ k v. zip2 (λ x n. x * 2 ^ n % 2 ^ 8) v (replicate 32 k);
  keep = λ k v. zip2 bit_and v (replicate 32 k);
  none = replicate 32 0;
}

side_linear : (i : ℕ) → i < 2 → IsLinearHom on_wide on_vectors (λ v. block v i) Long
side_linear i li =
    let by : (f : ℕ → ℕ → ℕ) (k : ℕ) (v : List ℕ) → Long v → (block (zip2 f v (replicate 32 k)) i ≡ zip2 f (block v i) (replicate 16 k)) × Long (zip2 f v (replicate 32 k)) =
    λ f k v l. (block-zip2 f i v (replicate 32 k) ∙ ap (zip2 f (block v i)) (splat k i li), long-zip2 f v (replicate 32 k) l refl) in
    record {
      at_add = λ a b la lb. (block-zip2 bit_xor i a b, long-zip2 bit_xor a b la lb);
      at_right = λ k a la. by (λ x n. x / 2 ^ n) k a la;
      at_left = λ k a la. by (λ x n. x * 2 ^ n % 2 ^ 8) k a la;
      at_keep = λ k a la. by bit_and k a la;
      at_none = (splat 0 i li, refl);
    }

-- a network on vectors of 32 bytes is the network on each side
pub network_sides : (steps : List Operation) (places : List ℕ) (q r : WidePlanes) → AreWide q → wide_of r ≡ places_of on_wide places (operations_of on_wide steps (wide_of q))
    → (i : ℕ) → i < 2 → planes_of (side i r) ≡ places_of on_vectors places (operations_of on_vectors steps (planes_of (side i q)))
network_sides steps places q r h e i li =
    let at : List ℕ → List ℕ = λ v. block v i in
    ap (map at) e ∙ network-linear on_wide on_vectors at Long (side_linear i li) steps places (wide_of q) (every_long q h)

pub network_wide : (steps : List Operation) (places : List ℕ) (q r : WidePlanes) → AreWide q → wide_of r ≡ places_of on_wide places (operations_of on_wide steps (wide_of q)) → AreWide r
network_wide steps places q r h e =
    let at : List ℕ → List ℕ = λ v. block v 0 in
    let hom = side_linear 0 (omega arith) in
    wide_from r (subst (Every Long) (sym e)
    (places-keep on_wide on_vectors at Long hom places (operations_of on_wide steps (wide_of q))
    (steps-keep on_wide on_vectors at Long hom steps (wide_of q) (every_long q h))))

-- ---- lanes that change places

by_index_32 : (s : List ℕ) → Long s → s ≡ bytes_by 32 (λ k. get_or s k 0)
by_index_32 s long = fill_by_all (λ k. get_or s k 0) s 32 0 long (λ k lt. refl)

-- a property of every 32 lanes by their places
pub explicit_32 : (P : List ℕ → Type 0) (s : List ℕ) → Long s → P (bytes_by 32 (λ k. get_or s k 0)) → P s
explicit_32 P s long here = subst P (sym (by_index_32 s long)) here

-- the lanes at these places, as vectors pick them
abbrev pub picked : List ℕ → List ℕ → List ℕ
picked places v = map (λ k. get_or (v ++ v) k 0) places

-- the places of each side, which stay on it
abbrev pub on_both : (ℕ → ℕ) → List ℕ
on_both f = map f (range_with_len 0 16) ++ map (λ k. 16 + f k) (range_with_len 0 16)

-- lanes that change places on each side alike, by any 32 lanes
pub moved_sides : (f : ℕ → ℕ) (g : List ℕ → List ℕ) (v : List ℕ) → Long v
    → ((h : ℕ → ℕ) → block (picked (on_both f) (bytes_by 32 h)) 0 ≡ g (block (bytes_by 32 h) 0))
    → ((h : ℕ → ℕ) → block (picked (on_both f) (bytes_by 32 h)) 1 ≡ g (block (bytes_by 32 h) 1))
    → (i : ℕ) → i < 2 → block (picked (on_both f) v) i ≡ g (block v i)
moved_sides f g v long first other i li =
    let h : ℕ → ℕ = λ k. get_or v k 0 in
    explicit_32 (λ s. block (picked (on_both f) s) i ≡ g (block s i)) v long
    (two (λ i. block (picked (on_both f) (bytes_by 32 h)) i ≡ g (block (bytes_by 32 h) i)) (first h) (other h) i li)
