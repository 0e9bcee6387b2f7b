use Rattle.std.proofs.Common.{◌≡◌, ℕ, List, [], ◌∷◌, length, slice_index_or, take, ap, arith, refl, ◌∙◌}
use Rattle.std.proofs.lemmas.List.{take_all}
use Rattle.sha2.specs.Sha256.{digest_bytes, initial_hash_256, sha256}
use Rattle.hmac_kdf.specs.Hmac.{key_block, masked}
use Rattle.sha_stream.proofs.LaneLaws.{below_four}
use Rattle.sha_lanes.proofs.hashes_under.Goals as goal

pub returns : goal.returns
unfolding sha256
returns c = λ j below.
    let blocks : List (List ℕ) = c.masked_key-a.result ∷ c.masked_key-b.result ∷ c.masked_key-c.result ∷ c.masked_key-d.result ∷ [] in
    let before : List ℕ = masked c.args.pad (key_block sha256 64 (slice_index_or c.args.keys.now j [])) in
    let block : slice_index_or blocks j [] ≡ before =
    below_four (λ k. slice_index_or blocks k [] ≡ masked c.args.pad (key_block sha256 64 (slice_index_or c.args.keys.now k [])))
    c.masked_key-a.ensures c.masked_key-b.ensures c.masked_key-c.ensures c.masked_key-d.ensures j below in
    let wide : length (slice_index_or blocks j []) ≡ 64 =
    below_four (λ k. length (slice_index_or blocks k []) ≡ 64) (omega arith) (omega arith) (omega arith) (omega arith) j below in
    let long : length before ≡ 64 = rw (← block) wide in
    let first : take 64 (slice_index_or blocks j []) ≡ before = take_all 64 (slice_index_or blocks j []) (omega arith) ∙ block in
    let keyed = c.compress-keyed.ensures j below ∙ rw (c.initial_states.ensures j below, first) refl in
    c.digests.ensures j below ∙ ap (λ (h : List ℕ). digest_bytes h 8) (c.finished.ensures j below initial_hash_256 before long keyed)
