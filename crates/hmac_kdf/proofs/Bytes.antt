-- Digests and codes are bytes, and so is what PBKDF2 derives.
use Rattle.std.proofs.Common.{◌≡◌, ℕ, zero, suc, ◌-◌, ◌<◌, inl, inr, List, ◌++◌, length, length-take, take, get_or, bit_xor, refl, arith, lit<}
use Rattle.std.proofs.lemmas.Bool.{cases_lt}
use Rattle.std.proofs.lemmas.List.{get_or_past, get_or_append_left, get_or-append_right, get_or-take}
use Rattle.std.proofs.lemmas.Nat.{xor_of_8}
use Rattle.std.proofs.lemmas.Simd.{get_or-zip2, length-zip2}
use Rattle.std.specs.Int.{byte_at, bytes_high_first}
use Rattle.sha2.specs.Sha256.{sha256, digest_bytes as digest_bytes_256}
use Rattle.sha2.specs.Sha512.{sha384, sha512, digest_bytes as digest_bytes_512}
use Rattle.sha2.proofs.Facts256.{length-sha256}
use Rattle.sha2.proofs.Facts512.{length-sha384, length-sha512}
use Rattle.hmac_kdf.specs.Bytes.{AreSoManyBytes}
use Rattle.hmac_kdf.specs.Hmac.{hmac256, hmac384, hmac512}
use Rattle.hmac_kdf.specs.Pbkdf2.{xor_lists, iterate, sum_of_iterates, pbkdf2}

-- each number of the list is a byte
abbrev pub AreSmall : List ℕ → Type 0
AreSmall xs = (k : ℕ) → get_or xs k 0 < 256

AreSmall-append : (xs ys : List ℕ) → AreSmall xs → AreSmall ys → AreSmall (xs ++ ys)
AreSmall-append xs ys hx hy k = elim (cases_lt k (length xs)) [
  | inl lt ↦ let e = get_or_append_left xs ys 0 k lt in let h = hx k in omega (arith, e, h)
  | inr ge ↦ let e = get_or-append_right xs ys (length xs) k 0 refl ge in let h = hy (k - length xs) in omega (arith, e, h)
]

AreSmall-take : (n : ℕ) (xs : List ℕ) → AreSmall xs → AreSmall (take n xs)
AreSmall-take n xs h k = elim (cases_lt k n) [
  | inl lt ↦ let e = get_or-take n xs k 0 lt in let small = h k in omega (arith, e, small)
  | inr ge ↦ let none : get_or (take n xs) k 0 ≡ 0 = get_or_past (take n xs) k 0 (omega (arith, length-take n xs)) in omega (arith, none)
]

byte_at-small : (i n : ℕ) → byte_at i n < 256
byte_at-small zero n = omega arith
byte_at-small (suc i) n = omega arith

AreSmall-high_first : (k n : ℕ) → AreSmall (bytes_high_first k n)
AreSmall-high_first zero n m = lit< tt
AreSmall-high_first (suc k) n zero = byte_at-small k n
AreSmall-high_first (suc k) n (suc m) = AreSmall-high_first k n m

AreSmall-digest_256 : (h : List ℕ) (n : ℕ) → AreSmall (digest_bytes_256 h n)
unfolding digest_bytes_256
AreSmall-digest_256 h zero = λ k. lit< tt
AreSmall-digest_256 h (suc n) = AreSmall-append (digest_bytes_256 h n) _ (AreSmall-digest_256 h n) (AreSmall-high_first 4 _)

AreSmall-digest_512 : (h : List ℕ) (n : ℕ) → AreSmall (digest_bytes_512 h n)
unfolding digest_bytes_512
AreSmall-digest_512 h zero = λ k. lit< tt
AreSmall-digest_512 h (suc n) = AreSmall-append (digest_bytes_512 h n) _ (AreSmall-digest_512 h n) (AreSmall-high_first 8 _)

small-sha256 : (m : List ℕ) → AreSmall (sha256 m)
unfolding sha256
small-sha256 m = AreSmall-digest_256 _ 8

small-sha384 : (m : List ℕ) → AreSmall (sha384 m)
unfolding sha384
small-sha384 m = AreSmall-take 48 _ (AreSmall-digest_512 _ 8)

small-sha512 : (m : List ℕ) → AreSmall (sha512 m)
unfolding sha512
small-sha512 m = AreSmall-digest_512 _ 8

-- ---- digests and codes

pub AreSoManyBytes-sha256 : (m : List ℕ) → AreSoManyBytes 32 (sha256 m)
AreSoManyBytes-sha256 m = record { long = length-sha256 m; small = small-sha256 m }

pub AreSoManyBytes-sha384 : (m : List ℕ) → AreSoManyBytes 48 (sha384 m)
AreSoManyBytes-sha384 m = record { long = length-sha384 m; small = small-sha384 m }

pub AreSoManyBytes-sha512 : (m : List ℕ) → AreSoManyBytes 64 (sha512 m)
AreSoManyBytes-sha512 m = record { long = length-sha512 m; small = small-sha512 m }

pub AreSoManyBytes-hmac256 : (key m : List ℕ) → AreSoManyBytes 32 (hmac256 key m)
unfolding hmac256
AreSoManyBytes-hmac256 key m = AreSoManyBytes-sha256 _

pub AreSoManyBytes-hmac384 : (key m : List ℕ) → AreSoManyBytes 48 (hmac384 key m)
unfolding hmac384
AreSoManyBytes-hmac384 key m = AreSoManyBytes-sha384 _

pub AreSoManyBytes-hmac512 : (key m : List ℕ) → AreSoManyBytes 64 (hmac512 key m)
unfolding hmac512
AreSoManyBytes-hmac512 key m = AreSoManyBytes-sha512 _

-- ---- what PBKDF2 derives

AreSoManyBytes-xor : (n : ℕ) (xs ys : List ℕ) → AreSoManyBytes n xs → AreSoManyBytes n ys → AreSoManyBytes n (xor_lists xs ys)
AreSoManyBytes-xor n xs ys hx hy =
    let lx = hx.long in
    let ly = hy.long in
    let len = length-zip2 bit_xor xs ys (omega arith) in
    record {
      long = omega arith;
      small = λ k. elim (cases_lt k n) [
        | inl lt ↦
            let e = get_or-zip2 bit_xor xs ys k 0 0 0 (omega arith) (omega arith) in
            let both = xor_of_8 (get_or xs k 0) (get_or ys k 0) (hx.small k) (hy.small k) in
            omega (arith, e, both)
        | inr ge ↦ let none : get_or (xor_lists xs ys) k 0 ≡ 0 = get_or_past (xor_lists xs ys) k 0 (omega arith) in omega (arith, none)
      ];
    }

AreSoManyBytes-iterate : (p s : List ℕ) (n : ℕ) → AreSoManyBytes 64 (iterate p s n)
unfolding iterate
AreSoManyBytes-iterate p s zero = AreSoManyBytes-hmac512 p _
AreSoManyBytes-iterate p s (suc n) = AreSoManyBytes-hmac512 p _

AreSoManyBytes-sum : (p s : List ℕ) (n : ℕ) → AreSoManyBytes 64 (sum_of_iterates p s n)
unfolding sum_of_iterates
AreSoManyBytes-sum p s zero = AreSoManyBytes-iterate p s 0
AreSoManyBytes-sum p s (suc n) = AreSoManyBytes-xor 64 (sum_of_iterates p s n) (iterate p s (suc n)) (AreSoManyBytes-sum p s n) (AreSoManyBytes-iterate p s (suc n))

pub AreSoManyBytes-pbkdf2 : (p s : List ℕ) (count : ℕ) → AreSoManyBytes 64 (pbkdf2 p s count)
AreSoManyBytes-pbkdf2 p s count = AreSoManyBytes-sum p s (count - 1)
