use Rattle.std.proofs.Common.{[], slice_index_or, ◌∙◌}
use Rattle.sha2.specs.Sha512.{final_hash, initial_hash_512, sha512}
use Rattle.hmac_kdf.specs.Hmac.{hmac, hmac512}
use Rattle.sha_lanes.specs.Lanes.{bytes_of}
use Rattle.sha512_lanes.proofs.HashLaws.{all_bytes}
use Rattle.sha512_lanes.proofs.codes_of_four_512.Goals as goal

pub returns : goal.returns
unfolding sha512 hmac512
returns c = λ j below.
    c.codes.ensures j below
    ∙ (λ i. hmac (λ m. all_bytes (final_hash initial_hash_512 m) i) 128 (slice_index_or c.args.keys.now j []) (bytes_of j c.args.messages))
