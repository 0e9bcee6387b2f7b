-- What is written is read back, and what is read is written back.
use Rattle.std.proofs.Common.{◌≡◌, ℕ, ◌+◌, ◌<◌, ◌≤◌, ◌^◌, List, [], ◌∷◌, ◌++◌, length, take, drop, get_or, slice_index, refl, ap, sym, ◌∙◌, arith, length-append, append_assoc, true, Ok, drop-cons, lit≤}
use Rattle.std.proofs.Math.ListN.{set, length-set}
use Rattle.std.proofs.Math.Seq.{take-add, drop-append_seam, take-append_seam}
use Rattle.std.proofs.lemmas.List.{drop-drop, get_or-drop, take_all, take_more_set}
use Rattle.std.proofs.lemmas.Int.{of_z-to_z, to_z-of_z}
use Rattle.std.proofs.lemmas.Slice.Eq.{bytes_eq-Decides}
use Rattle.std.specs.Prelude.{ℤ, pos, negsuc, FitsSigned}
use Rattle.std.specs.Int.{w32, cast_signed, cast_unsigned}
use Rattle.std.specs.Str.{bytes_eq}
use Rattle.byteorder.specs.Endian.{little_from}
use Rattle.byteorder.specs.Numbers.{little_from-take, little_number-reads_back, length-bytes_low_first}
use Rattle.md5.specs.Md5.{md5, digest_bytes}
use Rattle.eli_metadata.specs.declared.metadata.Metadata.{Metadata}
use Rattle.eli_metadata.specs.Format.{magic, field_at, number_at, number_bytes, signed_at, signed_bytes, fields, number_fields, field_bytes, encoded, is_served, metadata_in, HasFieldsInRange}
use Rattle.eli_metadata.proofs.Numbers.{AreBytes, number_bytes-number_at, number_at-fits}

-- the next bytes, with those in front of them
step : (b : List ℕ) (p n : ℕ) (front field : List ℕ) → front ≡ take p b → field ≡ field_at b p n → front ++ field ≡ take (p + n) b
step b p n front field before here = rw (before, here) (sym (take-add p n b))

-- one byte as a list
byte_at_place : (b : List ℕ) (p : ℕ) → p < length b → slice_index b p ∷ [] ≡ field_at b p 1
byte_at_place b p inside = rw (drop-cons b p 0) refl

-- the bytes of the numbers of a decoded record are those that were read
number_fields-fields : (b : List ℕ) → length b ≡ 512 → AreBytes b → take 16 b ≡ magic → number_fields (fields b) ≡ take 47 b
unfolding number_fields fields signed_bytes signed_at
number_fields-fields b long fit begins =
    let number : (p n : ℕ) → p + n ≤ 512 → number_bytes n (number_at b p n) ≡ field_at b p n = λ p n h. number_bytes-number_at b p n (rw long h) fit in
    let s1 = step b 16 4 _ _ (sym begins) (number 16 4 (lit≤ tt)) in
    let s2 = step b 20 4 _ _ s1 (number 20 4 (lit≤ tt)) in
    let s3 = step b 24 2 _ _ s2 (number 24 2 (lit≤ tt)) in
    let s4 = step b 26 2 _ _ s3 (number 26 2 (lit≤ tt)) in
    let s5 = step b 28 2 _ _ s4 (number 28 2 (lit≤ tt)) in
    let s6 = step b 30 8 _ _ s5 (number 30 8 (lit≤ tt)) in
    let s7 = step b 38 4 _ _ s6 (number 38 4 (lit≤ tt)) in
    let s8 = step b 42 1 _ _ s7 (byte_at_place b 42 (rw long (omega arith))) in
    let z = ap (number_bytes 4) (of_z-to_z w32 (number_at b 43 4) (number_at-fits b 43 4 fit)) in
    step b 43 4 _ _ s8 (z ∙ number 43 4 (lit≤ tt))

-- the bytes of a decoded record are those that were read
pub encoded-fields : (b : List ℕ) → length b ≡ 512 → AreBytes b → take 16 b ≡ magic → md5 (take 495 b) ≡ field_at b 495 16 → encoded (fields b) ≡ take 511 b ++ 0 ∷ []
unfolding encoded field_bytes fields
encoded-fields b long fit begins hash =
    let salted = step b 47 64 _ _ (number_fields-fields b long fit begins) refl in
    let whole = step b 111 384 _ _ salted refl in
    ap (λ (xs : List ℕ). xs ++ 0 ∷ []) (step b 495 16 _ _ whole (ap md5 whole ∙ hash))

-- a sector of 511 bytes that are those of the record, and a zero byte
pub encoded-taken : (m : Metadata) (b : List ℕ) → length b ≡ 512 → take 511 b ≡ field_bytes m ++ md5 (field_bytes m) → set b 511 0 ≡ encoded m
unfolding encoded
encoded-taken m b long before =
    let inside : 511 < length b = omega arith in
    sym (take_all 512 (set b 511 0) (omega (arith, length-set b 511 0))) ∙ take_more_set b 511 0 inside ∙ ap (λ (xs : List ℕ). xs ++ 0 ∷ []) before

-- the digest has sixteen bytes
length-md5 : (xs : List ℕ) → length (md5 xs) ≡ 16
unfolding md5 digest_bytes
length-md5 xs = refl

-- the bytes that follow a place
next : (b : List ℕ) (p n : ℕ) (field rest : List ℕ) → length field ≡ n → drop p b ≡ field ++ rest → drop (p + n) b ≡ rest
next b p n field rest long begins = sym (drop-drop n p b) ∙ ap (drop n) begins ∙ ap (λ (k : ℕ). drop k (field ++ rest)) (sym long) ∙ drop-append_seam field rest

-- the bytes at a place
here : (b : List ℕ) (p n : ℕ) (field rest : List ℕ) → length field ≡ n → drop p b ≡ field ++ rest → field_at b p n ≡ field
here b p n field rest long begins = ap (take n) begins ∙ ap (λ (k : ℕ). take k (field ++ rest)) (sym long) ∙ take-append_seam field rest

-- the number that is read at the place where its bytes stand
number_here : (b : List ℕ) (p n x : ℕ) (rest : List ℕ) → x < 256 ^ n → drop p b ≡ number_bytes n x ++ rest → number_at b p n ≡ x
unfolding number_at number_bytes
number_here b p n x rest small begins =
    little_from-take 0 n n (drop p b) (omega arith) ∙ ap (little_from 0 n) begins ∙ little_number-reads_back n x rest small

length-number_bytes : (n x : ℕ) → length (number_bytes n x) ≡ n
unfolding number_bytes
length-number_bytes n x = length-bytes_low_first 0 n x

length-signed_bytes : (z : ℤ) → length (signed_bytes z) ≡ 4
unfolding signed_bytes
length-signed_bytes z = length-number_bytes 4 (cast_unsigned w32 z)

cast_unsigned-lt : (z : ℤ) → FitsSigned w32 z → cast_unsigned w32 z < 2 ^ 32
cast_unsigned-lt (pos n) fits = let small = fits.sfits in omega arith
cast_unsigned-lt (negsuc n) fits = let small = fits.sfits in omega arith

-- the signed number that is read at the place where its bytes stand
signed_here : (b : List ℕ) (p : ℕ) (z : ℤ) (rest : List ℕ) → FitsSigned w32 z → drop p b ≡ signed_bytes z ++ rest → signed_at b p ≡ z
unfolding signed_at signed_bytes
signed_here b p z rest fits begins =
    ap (cast_signed w32) (number_here b p 4 (cast_unsigned w32 z) rest (cast_unsigned-lt z fits) begins) ∙ to_z-of_z w32 z fits

-- the bytes of a sector from a field on, if `rest` follows the fields
abbrev from_salt : Metadata → List ℕ → List ℕ
from_salt m rest = m.salt ++ (m.mkeys ++ rest)

abbrev from_provsize : Metadata → List ℕ → List ℕ
from_provsize m rest = number_bytes 8 m.provsize ++ (number_bytes 4 m.sectorsize ++ (m.keys ∷ [] ++ (signed_bytes m.iterations ++ from_salt m rest)))

abbrev from_version : Metadata → List ℕ → List ℕ
from_version m rest =
    number_bytes 4 m.version ++ (number_bytes 4 m.flags ++ (number_bytes 2 m.ealgo ++ (number_bytes 2 m.keylen ++ (number_bytes 2 m.aalgo ++ from_provsize m rest))))

field_bytes-from : (m : Metadata) (rest : List ℕ) → field_bytes m ++ rest ≡ magic ++ from_version m rest
unfolding field_bytes number_fields
field_bytes-from m rest = simp append_assoc

length-magic : length magic ≡ 16
unfolding magic
length-magic = refl

-- where each field stands in a sector
record Stands (b : List ℕ) (m : Metadata) (rest : List ℕ) : Type 0 where
  begins : take 16 b ≡ magic
  same : fields b ≡ m
  after : drop 495 b ≡ rest

stands : (b : List ℕ) (m : Metadata) (rest : List ℕ) → HasFieldsInRange m → length m.salt ≡ 64 → length m.mkeys ≡ 384 → b ≡ magic ++ from_version m rest → Stands b m rest
unfolding fields
stands b m rest range salt slots is =
    let d16 : drop 16 b ≡ from_version m rest = next b 0 16 magic _ length-magic is in
    let d20 = next b 16 4 _ _ (length-number_bytes 4 m.version) d16 in
    let d24 = next b 20 4 _ _ (length-number_bytes 4 m.flags) d20 in
    let d26 = next b 24 2 _ _ (length-number_bytes 2 m.ealgo) d24 in
    let d28 = next b 26 2 _ _ (length-number_bytes 2 m.keylen) d26 in
    let d30 = next b 28 2 _ _ (length-number_bytes 2 m.aalgo) d28 in
    let d38 = next b 30 8 _ _ (length-number_bytes 8 m.provsize) d30 in
    let d42 = next b 38 4 _ _ (length-number_bytes 4 m.sectorsize) d38 in
    let d43 = next b 42 1 (m.keys ∷ []) _ refl d42 in
    let d47 = next b 43 4 (signed_bytes m.iterations) _ (length-signed_bytes m.iterations) d43 in
    let d111 = next b 47 64 m.salt _ salt d47 in
    let d495 = next b 111 384 m.mkeys _ slots d111 in
    let key : slice_index b 42 ≡ m.keys = sym (get_or-drop 42 b 0 0) ∙ ap (λ (xs : List ℕ). get_or xs 0 0) d42 in
    record {
      begins = here b 0 16 magic _ length-magic is;
      same =
          rw (
            number_here b 16 4 _ _ range.version d16,
            number_here b 20 4 _ _ range.flags d20,
            number_here b 24 2 _ _ range.ealgo d24,
            number_here b 26 2 _ _ range.keylen d26,
            number_here b 28 2 _ _ range.aalgo d28,
            number_here b 30 8 _ _ range.provsize d30,
            number_here b 38 4 _ _ range.sectorsize d38,
            key,
            signed_here b 43 _ _ range.iterations d43,
            here b 47 64 _ _ salt d47,
            here b 111 384 _ _ slots d111,
          )
          refl;
      after = d495;
    }

length-field_bytes : (m : Metadata) → length m.salt ≡ 64 → length m.mkeys ≡ 384 → length (field_bytes m) ≡ 495
unfolding field_bytes number_fields
length-field_bytes m salt slots = simp (length-append, length-number_bytes, length-signed_bytes, length-magic, salt, slots) refl

same_bytes : (xs : List ℕ) → bytes_eq xs xs ≡ true
same_bytes xs = (bytes_eq-Decides xs xs).1 refl

-- the version by its place
pub version-fields : (b : List ℕ) → number_at b 16 4 ≡ (fields b).version
unfolding fields
version-fields b = refl

-- the flags by their place
pub flags-fields : (b : List ℕ) → number_at b 20 4 ≡ (fields b).flags
unfolding fields
flags-fields b = refl

-- a sector in which the fields of a record of a version that is served stand, with their digest, is that record
metadata_in-stands : (b : List ℕ) (m : Metadata) → Stands b m (md5 (field_bytes m) ++ 0 ∷ []) → take 495 b ≡ field_bytes m → is_served m.version m.flags ≡ true → metadata_in b ≡ Ok m
unfolding metadata_in
metadata_in-stands b m s front served =
    let versioned : number_at b 16 4 ≡ m.version = version-fields b ∙ ap (λ (r : Metadata). r.version) s.same in
    let flagged : number_at b 20 4 ≡ m.flags = flags-fields b ∙ ap (λ (r : Metadata). r.flags) s.same in
    let hash : field_at b 495 16 ≡ md5 (field_bytes m) = here b 495 16 _ (0 ∷ []) (length-md5 (field_bytes m)) s.after in
    rw (s.begins, same_bytes magic, versioned, flagged, served, front, hash, same_bytes (md5 (field_bytes m)), s.same) refl

-- a record of a version that is served is read back
pub metadata_in-encoded : (m : Metadata) → HasFieldsInRange m → length m.salt ≡ 64 → length m.mkeys ≡ 384 → is_served m.version m.flags ≡ true → metadata_in (encoded m) ≡ Ok m
unfolding encoded
metadata_in-encoded m range salt slots served =
    let hash = md5 (field_bytes m) in
    let is : encoded m ≡ field_bytes m ++ (hash ++ 0 ∷ []) = append_assoc (field_bytes m) hash (0 ∷ []) in
    let front : take 495 (encoded m) ≡ field_bytes m =
    rw (is, ← length-field_bytes m salt slots) (take-append_seam (field_bytes m) (hash ++ 0 ∷ [])) in
    metadata_in-stands (encoded m) m (stands (encoded m) m (hash ++ 0 ∷ []) range salt slots (is ∙ field_bytes-from m (hash ++ 0 ∷ []))) front served
