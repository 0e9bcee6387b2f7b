use Rattle.std.proofs.Common.{◌≡◌, ℕ, ◌+◌, ◌*◌, ◌<◌, List, ◌∷◌, [], get_or, length, slice_index_or, is_ok, ap, ◌∙◌, sym, arith}
use Rattle.sealing.specs.TaggedUnits.{opened_tagged}
use Rattle.sha_lanes.proofs.LaneLaws.{bytes_of_is, nothing}
use Rattle.auth_sectors.proofs.Openings.{sector_long, tag_tells}
use Rattle.auth_sectors.proofs.apart_accepted.Goals as goal

pub returns : goal.returns
returns c =
    let k = c.args.ring.now.keying in
    let tag = c.tag_size-tag.result in
    let size = c.args.size in
    let o = c.args.offset in
    let step = c.args.step in
    let from = c.args.from in
    let is = c.tags_of_four-tags.ensures in
    let sector = λ (j : ℕ). (slice_index_or from j nothing).now in
    let long : (j : ℕ) → j < 4 → length (sector j) ≡ 512 = λ j below. sector_long from j c.requires.sectors below in
    let code = λ (j : ℕ). ap (λ (l : List (List ℕ)). get_or l j []) is in
    let one = tag_tells k o tag size (sector 0) _ c.has_tag.result (long 0 (omega arith)) c.tag_size-tag.ensures (code 0) c.has_tag.ensures in
    let two = tag_tells k (o + step) tag size (sector 1) _ c.has_tag-2.result (long 1 (omega arith)) c.tag_size-tag.ensures (code 1) c.has_tag-2.ensures in
    let three = tag_tells k (o + 2 * step) tag size (sector 2) _ c.has_tag-3.result (long 2 (omega arith)) c.tag_size-tag.ensures (code 2) c.has_tag-3.ensures in
    let four = tag_tells k (o + 3 * step) tag size (sector 3) _ c.has_tag-4.result (long 3 (omega arith)) c.tag_size-tag.ensures (code 3) c.has_tag-4.ensures in
    let read = λ (p : ℕ) (j : ℕ). ap (λ (b : List ℕ). is_ok (opened_tagged k p size b)) (bytes_of_is from j) in
    sym (λ i. (read o 0 ∙ one) i ∷ (read (o + step) 1 ∙ two) i ∷ (read (o + 2 * step) 2 ∙ three) i ∷ (read (o + 3 * step) 3 ∙ four) i ∷ [])
