-- Units that are opened.
use Rattle.std.proofs.Common.{◌≡◌, ℕ, ◌+◌, ◌-◌, ◌<◌, List, length, take, drop, replicate, Bool, cond, true, false, Ok, Err, IsTrue, ◌↔◌, bytes_eq, is_ok, slice_index_or, refl, sym, ap, ◌∙◌, arith}
use Rattle.std.proofs.lemmas.List.{length-take-le, take_at}
use Rattle.std.proofs.lemmas.Slice.Eq.{bytes_eq-Decides}
use Rattle.std.specs.Borrow.{Bor}
use Rattle.eli_base.specs.Keying.{Keying}
use Rattle.eli_base.specs.Units.{tag_bytes}
use Rattle.eli_base.proofs.Units.{tag_and_unit}
use Rattle.range_keys.specs.Keys.{tag_key}
use Rattle.sealing.specs.Runs.{opened_run}
use Rattle.sealing.specs.TaggedUnits.{cipher_text_in, kept_tag, opened_tagged, tag_of}
use Rattle.sealing.proofs.Keys.{length-hmac_of}
use Rattle.sha_lanes.specs.Lanes.{bytes_of}
use Rattle.sha_lanes.proofs.LaneLaws.{bytes_of_is, nothing}
use Rattle.auth_sectors.specs.Tags.{padded}

same_front : (n : ℕ) (xs ys : List ℕ) → length xs ≡ n → length ys ≡ n → padded xs ≡ padded ys → xs ≡ ys
same_front n xs ys lx ly same =
    sym (take_at xs (replicate (64 - length xs) 0) n lx) ∙ ap (take n) same ∙ take_at ys (replicate (64 - length ys) 0) n ly

-- a unit is accepted if the test holds, and `same` is true exactly if it does
accepts : (test same : Bool) (plain : List ℕ) (offset : ℕ) → (IsTrue test → IsTrue same) → (IsTrue same → IsTrue test) → is_ok (cond test (Ok plain) (Err offset)) ≡ same
accepts true true plain offset to from = refl
accepts true false plain offset to from = let wrong = to refl in absurd cc
accepts false true plain offset to from = let wrong = from refl in absurd cc
accepts false false plain offset to from = refl

-- whether a device sector has the tag that was computed of its ciphertext is whether it reads as bytes
pub tag_tells : (k : Keying) (offset tag size : ℕ) (sector code : List ℕ) (same : Bool) → length sector ≡ 512 → tag ≡ tag_bytes k.auth
    → code ≡ padded (tag_of k offset (take (tag + size - tag) (drop tag sector))) → (IsTrue same ↔ (padded (kept_tag k sector) ≡ code))
    → is_ok (opened_tagged k offset size sector) ≡ same
tag_tells k offset tag size sector code same long wide is tells =
    let text : List ℕ = cipher_text_in k size sector in
    let kept : List ℕ = kept_tag k sector in
    let right : List ℕ = tag_of k offset text in
    let count : tag + size - tag ≡ size = omega arith in
    let is_right : code ≡ padded right = is ∙ (λ i. padded (tag_of k offset (take (count i) (drop (wide i) sector)))) in
    let front : length kept ≡ tag_bytes k.auth = length-take-le (tag_bytes k.auth) sector (omega (arith, tag_and_unit k.auth)) in
    accepts (bytes_eq kept right) same (opened_run k offset text) offset (λ t. tells.1 (ap padded ((bytes_eq-Decides kept right).0 t) ∙ sym is_right))
    (λ t. (bytes_eq-Decides kept right).1 (same_front (tag_bytes k.auth) kept right front (length-hmac_of k.auth (tag_key k offset) text) (tells.0 t ∙ is_right)))

-- what is deciphered of a unit that is accepted is what it reads as
opens_if : (same : Bool) (plain : List ℕ) (offset : ℕ) → is_ok (cond same (Ok plain) (Err offset)) ≡ true → cond same (Ok plain) (Err offset) ≡ Ok plain
opens_if true plain offset accepted = refl
opens_if false plain offset accepted = absurd cc

pub opens_accepted : (k : Keying) (offset tag size : ℕ) (sector plain : List ℕ) → is_ok (opened_tagged k offset size sector) ≡ true → tag ≡ tag_bytes k.auth
    → plain ≡ opened_run k offset (take (tag + size - tag) (drop tag sector)) → opened_tagged k offset size sector ≡ Ok plain
opens_accepted k offset tag size sector plain accepted wide is =
    let text : List ℕ = cipher_text_in k size sector in
    let count : tag + size - tag ≡ size = omega arith in
    opens_if (bytes_eq (kept_tag k sector) (tag_of k offset text)) (opened_run k offset text) offset accepted
    ∙ ap Ok (sym (is ∙ (λ i. opened_run k offset (take (count i) (drop (wide i) sector)))))

-- the length of each of four slices that are device sectors
pub sector_long : (from : List (Bor (List ℕ))) (j : ℕ) → ((i : ℕ) → i < 4 → length (bytes_of i from) ≡ 512) → j < 4 → length (slice_index_or from j nothing).now ≡ 512
sector_long from j all below = ap length (sym (bytes_of_is from j)) ∙ all j below
