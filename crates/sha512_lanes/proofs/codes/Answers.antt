use Rattle.std.proofs.Common.{◌≡◌, ℕ, ◌<◌, List, [], ◌∷◌, ◌++◌, length, slice_index_or, ap, arith, refl, sym, ◌∙◌}
use Rattle.hmac_kdf.specs.Hmac.{key_block, masked}
use Rattle.sha_stream.proofs.LaneLaws.{below_four}
use Rattle.sha512_lanes.specs.Hashes.{first_bytes}
use Rattle.sha512_lanes.proofs.HashLaws.{length_first_bytes}
use Rattle.sha512_lanes.proofs.codes.Goals as goal

pub hashes_under-requires-2 : goal.hashes_under-requires-2
hashes_under-requires-2 g c =
    let inner : List (List ℕ) = c.hashes_under.result in
    let long : (k : ℕ) → k < 4 → length (slice_index_or inner k []) ≡ g.row.N =
    λ k below. ap length (c.hashes_under.ensures k below) ∙ length_first_bytes g.row.N c.args.initial.now _ c.requires.size in
    let first = sym (long 0 (omega arith)) in
    let alike = below_four _ refl (long 1 (omega arith) ∙ first) (long 2 (omega arith) ∙ first) (long 3 (omega arith) ∙ first) in
    (omega (arith, c.requires.size), (omega (arith, c.requires.size), (c.requires.size, alike)))

pub returns : goal.returns
returns g c = λ j below.
    let hash : List ℕ → List ℕ = first_bytes g.row.N c.args.initial.now in
    let inner : List (List ℕ) = c.hashes_under.result in
    let at = λ (k : ℕ). slice_index_or inner k [] in
    let same : slice_index_or (at 0 ∷ at 1 ∷ at 2 ∷ at 3 ∷ []) j [] ≡ at j =
    below_four (λ k. slice_index_or (at 0 ∷ at 1 ∷ at 2 ∷ at 3 ∷ []) k [] ≡ at k) refl refl refl refl j below in
    let block = key_block hash 128 (slice_index_or c.args.keys.now j []) in
    c.hashes_under-2.ensures j below
    ∙ ap (λ (x : List ℕ). hash (masked 0x5C block ++ x)) (same ∙ c.hashes_under.ensures j below)
