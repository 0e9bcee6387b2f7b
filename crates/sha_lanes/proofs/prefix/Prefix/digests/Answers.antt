use Rattle.std.proofs.Common.{ℕ, List, ap, ◌∙◌}
use Rattle.sha2.specs.Sha256.{digest_bytes, initial_hash_256, sha256}
use Rattle.sha_lanes.proofs.prefix.Prefix.digests.Goals as goal

pub returns : goal.returns
unfolding sha256
returns c = λ bytes begins j below.
    let state = c.in_each_lane.ensures j below ∙ begins.hashed in
    c.digests.ensures j below ∙ ap (λ (h : List ℕ). digest_bytes h 8) (c.finished.ensures j below initial_hash_256 bytes begins.long state)
