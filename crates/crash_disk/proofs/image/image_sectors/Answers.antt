use Rattle.std.proofs.Common.{arith, ◌≡◌, ◌∙◌, ap, List, ℕ, ◌+◌, ◌-◌, ◌++◌, ◌∷◌, [], ◌*◌, take, drop}
use Rattle.crash_disk.proofs.ImageLemmas.{map-numbers_below-more}
use Rattle.crash_disk.proofs.image.image_sectors.Goals as goal

pub loop-n-preserved : goal.loop-n-preserved
loop-n-preserved c =
    let size : 512 * c.loop-n.n + 512 - 512 * c.loop-n.n ≡ 512 = omega arith in
    let piece = c.copy_from_slice.ensures.after ∙ ap (λ (n : ℕ). take n (drop (512 * c.loop-n.n) c.args.image.now)) size in
    record {
      items =
          rw (map-numbers_below-more (λ n. take 512 (drop (512 * n) c.args.image.now)) c.loop-n.n, ← c.loop-n.invariant.items)
          (c.push_reserved.ensures.items ∙ ap (λ (x : List ℕ). c.loop-n.sectors.items ++ x ∷ []) piece);
      len = omega (arith, c.push_reserved.ensures.len, c.loop-n.invariant.len);
      room = omega (arith, c.push_reserved.ensures.capacity, c.loop-n.invariant.room);
    }
