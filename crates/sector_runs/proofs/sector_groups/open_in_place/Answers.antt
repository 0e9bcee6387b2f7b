use Rattle.std.proofs.Common.{◌≡◌, ◌+◌, ◌-◌, ◌*◌, ◌/◌, ◌<◌, ℕ, List, Ok, length, take, drop, subst, sym, ◌∙◌, arith}
use Rattle.sealing.specs.Sectors.{device_sectors, reading, units}
use Rattle.sector_runs.proofs.Data.{opened_next, rest_next}
use Rattle.sector_runs.proofs.Ranges.{bytes_inside, units-off}
use Rattle.sector_runs.proofs.Sealed.{number_at}
use Rattle.sector_runs.proofs.sector_groups.open_in_place.Goals as goal

pub loop-i-preserved : goal.loop-i-preserved
loop-i-preserved c =
    let k = c.args.ring.now.keying in
    let now = c.loop-i.ring.keying in
    let before = c.loop-i.invariant in
    let i = c.loop-i.i in
    let size = c.layout-size.result.size in
    let same = c.layout-size.ensures.size in
    let is = c.layout-size.ensures.keying in
    let some : 0 < size = omega (arith, same, is.at_least) in
    let count = units-off k size c.requires.off same some is.whole in
    let wide : size ≡ 512 * units k = omega (arith, count, same, is.whole) in
    let more = subst (λ (s : ℕ). i < length c.args.into.now / s) same c.loop-i-test.true in
    let inside = bytes_inside (length c.args.into.now) size i c.loop-i-test.true in
    let block = c.open_plain.new.block in
    let cut : i * size + size - i * size ≡ size = omega arith in
    let long : length block ≡ size = omega (arith, inside) in
    let all : List ℕ = c.args.into.now in
    let kept = same ∙ (λ o. (sym before.keying o).sectorsize) in
    let read : reading now (c.args.sector + i) (device_sectors now (take (i * size + size - i * size) (drop (i * size) all))) ≡ Ok block =
    (λ o. reading now (sym (number_at (c.args.sector + i) size now kept some) o) (device_sectors now (take (i * size + size - i * size) (sym before.rest o)))) ∙ c.open_plain.ensures.opened in
    record {
      keying = c.open_plain.ensures.keying ∙ before.keying;
      rest = rest_next i size _ c.loop-i.into all block cut (omega (arith, long)) (omega (arith, inside)) before.rest;
      opened = opened_next k now c.args.sector (length all / k.sectorsize) i size _ size _ all c.loop-i.into block before.keying more wide cut long (omega (arith, inside)) read before.opened;
    }
