use Rattle.std.proofs.Common.{◌≡◌, ℕ, List, [], ◌∷◌, length, slice_index_or, take, ap, arith, refl, ◌∙◌}
use Rattle.std.proofs.lemmas.List.{take_all}
use Rattle.sha2.specs.Sha512.{digest_bytes}
use Rattle.hmac_kdf.specs.Hmac.{key_block, masked}
use Rattle.sha_stream.proofs.LaneLaws.{below_four}
use Rattle.sha512_lanes.specs.Hashes.{first_bytes}
use Rattle.sha512_lanes.proofs.hashes_under.Goals as goal

pub returns : goal.returns
returns g c = λ j below.
    let hash : List ℕ → List ℕ = first_bytes g.row.N c.args.initial.now in
    let blocks : List (List ℕ) = c.masked_key-a.result ∷ c.masked_key-b.result ∷ c.masked_key-c.result ∷ c.masked_key-d.result ∷ [] in
    let before : List ℕ = masked c.args.pad (key_block hash 128 (slice_index_or c.args.keys.now j [])) in
    let block : slice_index_or blocks j [] ≡ before =
    below_four (λ k. slice_index_or blocks k [] ≡ masked c.args.pad (key_block hash 128 (slice_index_or c.args.keys.now k [])))
    (c.masked_key-a.ensures hash) (c.masked_key-b.ensures hash) (c.masked_key-c.ensures hash) (c.masked_key-d.ensures hash) j below in
    let wide : length (slice_index_or blocks j []) ≡ 128 =
    below_four (λ k. length (slice_index_or blocks k []) ≡ 128) (omega arith) (omega arith) (omega arith) (omega arith) j below in
    let long : length before ≡ 128 = rw (← block) wide in
    let first : take 128 (slice_index_or blocks j []) ≡ before = take_all 128 (slice_index_or blocks j []) (omega arith) ∙ block in
    let keyed = c.compress-keyed.ensures j below ∙ rw (c.initial_states.ensures j below, first) refl in
    c.digests.ensures j below
    ∙ ap (λ (h : List ℕ). take g.row.N (digest_bytes h 8)) (c.finished.ensures j below c.args.initial.now before long keyed)
