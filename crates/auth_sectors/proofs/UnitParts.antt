-- A unit by its parts.
use Rattle.std.proofs.Common.{◌≡◌, ℕ, ◌+◌, ◌-◌, ◌<◌, List, [], ◌∷◌, ◌++◌, length, take, drop, replicate, slice_index_or, sym, ap, ◌∙◌, arith, append_assoc}
use Rattle.std.proofs.lemmas.List.{take_at, drop_at, take_all}
use Rattle.std.specs.Borrow.{Bor}
use Rattle.block_traits.specs.Parts.{parts}
use Rattle.eli_base.specs.Keying.{Keying}
use Rattle.eli_base.specs.Units.{tag_bytes, unit_bytes_of}
use Rattle.range_keys.specs.Keys.{tag_key}
use Rattle.sealing.specs.Runs.{sealed_run}
use Rattle.sealing.specs.TaggedUnits.{sealed_tagged, tag_of}
use Rattle.sealing.proofs.Keys.{length-hmac_of}
use Rattle.sha_lanes.specs.Lanes.{HaveOneLength}
use Rattle.sha_lanes.proofs.LaneLaws.{bytes_of_is, nothing}
use Rattle.auth_sectors.specs.Tags.{padded}

-- the length of each of four slices of one length
pub one_length : (slices : List (Bor (List ℕ))) (j : ℕ) → HaveOneLength slices → j < 4
    → length (slice_index_or slices j nothing).now ≡ length (slice_index_or slices 0 nothing).now
one_length slices j alike below = ap length (sym (bytes_of_is slices j)) ∙ alike j below ∙ ap length (bytes_of_is slices 0)

-- a tag in front of ciphertext with zeros after it is the unit
pub unit_with_tag : (k now later : Keying) (offset size n : ℕ) (plain text code sector : List ℕ) → now ≡ k → later ≡ k → size ≡ tag_bytes k.auth → length plain ≡ n
    → length (sealed_run now offset plain) ≡ length plain → drop (tag_bytes now.auth) text ≡ sealed_run now offset plain ++ replicate (unit_bytes_of now.auth - length plain) 0
    → code ≡ padded (tag_of later offset (take (size + n - size) (drop size text))) → sector ≡ take size code ++ drop (length (take size code)) text
    → sector ≡ sealed_tagged k offset plain
unit_with_tag k now later offset size n plain text code sector same still wide count long sealed coded put =
    let run : List ℕ = sealed_run k offset plain in
    let tag : List ℕ = tag_of k offset run in
    let zeros : List ℕ = replicate (unit_bytes_of k.auth - length plain) 0 in
    let behind : drop size text ≡ run ++ zeros =
    ap (λ (m : ℕ). drop m text) (wide ∙ sym (ap (λ (j : Keying). tag_bytes j.auth) same)) ∙ sealed
    ∙ ap (λ (j : Keying). sealed_run j offset plain ++ replicate (unit_bytes_of j.auth - length plain) 0) same in
    let counted : length run ≡ length plain = ap (λ (j : Keying). length (sealed_run j offset plain)) (sym same) ∙ long in
    let some : size + n - size ≡ n = omega arith in
    let cut : take (size + n - size) (drop size text) ≡ run = (λ i. take (some i) (behind i)) ∙ take_at run zeros n (counted ∙ count) in
    let wide_tag : length tag ≡ size = length-hmac_of k.auth (tag_key k offset) run ∙ sym wide in
    let front : take size code ≡ tag =
    ap (take size) (coded ∙ (λ i. padded (tag_of (still i) offset (cut i)))) ∙ take_at tag (replicate (64 - length tag) 0) size wide_tag in
    put
    ∙ (λ i. front i ++ drop ((ap (λ (l : List ℕ). length l) front ∙ wide_tag) i) text)
    ∙ ap (λ (l : List ℕ). tag ++ l) behind ∙ sym (append_assoc tag run zeros)
    ∙ ap (λ (m : ℕ). (tag ++ run) ++ replicate (unit_bytes_of k.auth - m) 0) (sym counted)

-- four device sectors are those of their bytes
pub parts_of_four : (a b c d : List ℕ) → length a ≡ 512 → length b ≡ 512 → length c ≡ 512 → length d ≡ 512 → parts 512 4 (a ++ (b ++ (c ++ d))) ≡ a ∷ b ∷ c ∷ d ∷ []
parts_of_four a b c d la lb lc ld =
    let second : drop 512 (a ++ (b ++ (c ++ d))) ≡ b ++ (c ++ d) = drop_at a (b ++ (c ++ d)) 512 la in
    let third : drop 512 (drop 512 (a ++ (b ++ (c ++ d)))) ≡ c ++ d = ap (drop 512) second ∙ drop_at b (c ++ d) 512 lb in
    let fourth : drop 512 (drop 512 (drop 512 (a ++ (b ++ (c ++ d))))) ≡ d = ap (drop 512) third ∙ drop_at c d 512 lc in
    let first_is : take 512 (a ++ (b ++ (c ++ d))) ≡ a = take_at a (b ++ (c ++ d)) 512 la in
    let second_is : take 512 (drop 512 (a ++ (b ++ (c ++ d)))) ≡ b = ap (take 512) second ∙ take_at b (c ++ d) 512 lb in
    let third_is : take 512 (drop 512 (drop 512 (a ++ (b ++ (c ++ d))))) ≡ c = ap (take 512) third ∙ take_at c d 512 lc in
    let fourth_is : take 512 (drop 512 (drop 512 (drop 512 (a ++ (b ++ (c ++ d)))))) ≡ d = ap (take 512) fourth ∙ take_all 512 d (omega arith) in
    λ i. first_is i ∷ second_is i ∷ third_is i ∷ fourth_is i ∷ []
