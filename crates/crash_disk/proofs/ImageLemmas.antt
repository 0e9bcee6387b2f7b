-- The sectors of an image.
use Rattle.std.proofs.Common.{◌≡◌, ℕ, ◌+◌, ◌*◌, ◌<◌, ◌/◌, List, [], ◌∷◌, ◌++◌, length, take, drop, map, refl, ap, ◌∙◌, add-one, arith, suc, zero, length-append, length-drop, All}
use Rattle.std.proofs.lemmas.List.{map-append, length-take-le, length-map}
use Rattle.std.proofs.lemmas.List.Elements.{All-map, All-nil, All-push, All-weaker}
use Rattle.block_traits.specs.Content.{IsSector}
use Rattle.crash_disk.specs.Image.{numbers_below, sectors_of, zero_sector}

numbers_below-more : (n : ℕ) → numbers_below (n + 1) ≡ numbers_below n ++ n ∷ []
numbers_below-more n = rw add-one refl

pub map-numbers_below-more : {A : Type 0} (f : ℕ → A) (n : ℕ) → map f (numbers_below (n + 1)) ≡ map f (numbers_below n) ++ f n ∷ []
map-numbers_below-more f n = ap (map f) (numbers_below-more n) ∙ map-append f (numbers_below n) (n ∷ [])

pub length-numbers_below : (n : ℕ) → length (numbers_below n) ≡ n
length-numbers_below zero = refl
length-numbers_below (suc n) = length-append (numbers_below n) (n ∷ []) ∙ omega (arith, length-numbers_below n)

pub length-sectors_of : (image : List ℕ) → length (sectors_of image) ≡ length image / 512
length-sectors_of image = length-map (numbers_below (length image / 512)) (λ (n : ℕ). take 512 (drop (512 * n) image)) ∙ length-numbers_below (length image / 512)

All-numbers_below : (n : ℕ) → All (λ k. k < n) (numbers_below n)
All-numbers_below zero = All-nil (λ k. k < 0)
All-numbers_below (suc n) = All-push (λ k. k < suc n) (numbers_below n) n (All-weaker (λ k. k < n) (λ k. k < suc n) (λ k small. omega arith) (numbers_below n) (All-numbers_below n)) (omega arith)

IsSector-piece : (image : List ℕ) (n : ℕ) → n < length image / 512 → IsSector (take 512 (drop (512 * n) image))
IsSector-piece image n small = length-take-le 512 (drop (512 * n) image) (omega (arith, length-drop (512 * n) image))

pub All-sectors_of : (image : List ℕ) → All IsSector (sectors_of image)
All-sectors_of image =
    All-map IsSector (λ (n : ℕ). take 512 (drop (512 * n) image)) (numbers_below (length image / 512))
    (All-weaker (λ n. n < length image / 512) (λ n. IsSector (take 512 (drop (512 * n) image))) (IsSector-piece image) (numbers_below (length image / 512)) (All-numbers_below (length image / 512)))

pub IsSector-zero_sector : IsSector zero_sector
unfolding zero_sector
IsSector-zero_sector = refl
