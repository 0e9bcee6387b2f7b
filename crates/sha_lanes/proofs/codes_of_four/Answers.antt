use Rattle.std.proofs.Common.{◌≡◌, ℕ, ◌<◌, List, [], ◌∷◌, ◌++◌, length, slice_index_or, ap, arith, refl, sym, ◌∙◌}
use Rattle.sha2.specs.Sha256.{sha256}
use Rattle.sha2.proofs.Facts256.{length-sha256}
use Rattle.hmac_kdf.specs.Hmac.{hmac256, key_block, masked}
use Rattle.sha_stream.proofs.LaneLaws.{below_four}
use Rattle.sha_lanes.proofs.codes_of_four.Goals as goal

pub hashes_under-requires-2 : goal.hashes_under-requires-2
hashes_under-requires-2 c =
    let inner : List (List ℕ) = c.hashes_under.result in
    let long : (k : ℕ) → k < 4 → length (slice_index_or inner k []) ≡ 32 = λ k below. ap length (c.hashes_under.ensures k below) ∙ length-sha256 _ in
    let first = sym (long 0 (omega arith)) in
    below_four _ refl (long 1 (omega arith) ∙ first) (long 2 (omega arith) ∙ first) (long 3 (omega arith) ∙ first)

pub returns : goal.returns
unfolding hmac256
returns c = λ j below.
    let inner : List (List ℕ) = c.hashes_under.result in
    let at = λ (k : ℕ). slice_index_or inner k [] in
    let same : slice_index_or (at 0 ∷ at 1 ∷ at 2 ∷ at 3 ∷ []) j [] ≡ at j =
    below_four (λ k. slice_index_or (at 0 ∷ at 1 ∷ at 2 ∷ at 3 ∷ []) k [] ≡ at k) refl refl refl refl j below in
    let block = key_block sha256 64 (slice_index_or c.args.keys.now j []) in
    c.hashes_under-2.ensures j below
    ∙ ap (λ (x : List ℕ). sha256 (masked 0x5C block ++ x)) (same ∙ c.hashes_under.ensures j below)
