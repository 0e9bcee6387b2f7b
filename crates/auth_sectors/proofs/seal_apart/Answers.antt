use Rattle.std.proofs.Common.{◌≡◌, ℕ, ◌+◌, ◌*◌, ◌<◌, List, ◌∷◌, [], get_or, slice_index_or, length, ap, ◌∙◌, refl, sym, arith}
use Rattle.std.proofs.lemmas.Grind.{common_steps}
use Rattle.eli_base.specs.Keying.{Keying}
use Rattle.eli_base.specs.Units.{unit_bytes_of}
use Rattle.sealing.specs.TaggedUnits.{sealed_tagged}
use Rattle.sha_lanes.proofs.LaneLaws.{bytes_of_is, nothing}
use Rattle.auth_sectors.proofs.UnitParts.{one_length, unit_with_tag, parts_of_four}
use Rattle.auth_sectors.proofs.seal_apart.Goals as goal

pub encipher-requires-4 : goal.encipher-requires-4
encipher-requires-4 c =
    let long = one_length c.args.plain 3 c.requires.lengths (omega arith) in
    let first = ap length (bytes_of_is c.args.plain 0) in
    let unit = ap (λ (k : Keying). unit_bytes_of k.auth) (c.encipher-3.ensures.keying ∙ c.encipher-2.ensures.keying ∙ c.encipher.ensures.keying) in
    record { at_most = omega arith; blocks = omega arith; sector = omega arith }

pub returns-clause-sealed : goal.returns-clause-sealed
returns-clause-sealed c =
    let k = c.args.ring.now.keying in
    let size = c.tag_size-size.result in
    let offset = c.args.offset in
    let step = c.args.step in
    let wide = c.tag_size-size.ensures in
    let plain = λ (j : ℕ). (slice_index_or c.args.plain j nothing).now in
    let n : ℕ = length (plain 0) in
    let count : (j : ℕ) → j < 4 → length (plain j) ≡ n = λ j below. one_length c.args.plain j c.requires.lengths below in
    let one : c.encipher.new.ring.keying ≡ k = c.encipher.ensures.keying in
    let two : c.encipher-2.new.ring.keying ≡ k = c.encipher-2.ensures.keying ∙ one in
    let three : c.encipher-3.new.ring.keying ≡ k = c.encipher-3.ensures.keying ∙ two in
    let four : c.encipher-4.new.ring.keying ≡ k = c.encipher-4.ensures.keying ∙ three in
    let code = λ (j : ℕ). ap (λ (l : List (List ℕ)). get_or l j []) c.tags_of_four-tags.ensures in
    let first = unit_with_tag k k c.encipher-4.new.ring.keying offset size n (plain 0) c.encipher.new.sector _ c.put_tag.new.sector
    refl four wide refl c.encipher.ensures.long c.encipher.ensures.sealed (code 0) c.put_tag.ensures in
    let second = unit_with_tag k c.encipher.new.ring.keying c.encipher-4.new.ring.keying (offset + step) size n (plain 1) c.encipher-2.new.sector _ c.put_tag-2.new.sector
    one four wide (count 1 (omega arith)) c.encipher-2.ensures.long c.encipher-2.ensures.sealed (code 1) c.put_tag-2.ensures in
    let third = unit_with_tag k c.encipher-2.new.ring.keying c.encipher-4.new.ring.keying (offset + 2 * step) size n (plain 2) c.encipher-3.new.sector _ c.put_tag-3.new.sector
    two four wide (count 2 (omega arith)) c.encipher-3.ensures.long c.encipher-3.ensures.sealed (code 2) c.put_tag-3.ensures in
    let fourth = unit_with_tag k c.encipher-3.new.ring.keying c.encipher-4.new.ring.keying (offset + 3 * step) size n (plain 3) c.encipher-4.new.sector _ c.put_tag-4.new.sector
    three four wide (count 3 (omega arith)) c.encipher-4.ensures.long c.encipher-4.ensures.sealed (code 3) c.put_tag-4.ensures in
    let unit = λ (p : ℕ) (j : ℕ). ap (λ (b : List ℕ). sealed_tagged k p b) (sym (bytes_of_is c.args.plain j)) in
    parts_of_four c.put_tag.new.sector c.put_tag-2.new.sector c.put_tag-3.new.sector c.put_tag-4.new.sector (omega arith) (omega arith) (omega arith) (omega arith)
    ∙ (λ i. (first ∙ unit offset 0) i ∷ (second ∙ unit (offset + step) 1) i ∷ (third ∙ unit (offset + 2 * step) 2) i ∷ (fourth ∙ unit (offset + 3 * step) 3) i ∷ [])

pub returns-clause-keying : goal.returns-clause-keying
returns-clause-keying c = grind (arith, common_steps)
