use Rattle.std.proofs.Common.{◌≡◌, ◌≤◌, ◌*◌, map, take, drop, vec_len, vec_capacity}
use Rattle.crash_disk.specs.Image.{numbers_below}
use Rattle.crash_disk.proofs.image.image_sectors.Given as goal

abbrev pub invariant-loop-n : goal.invariant-loop-n
invariant-loop-n l = record {
  items : l.sectors.items ≡ map (λ n. take 512 (drop (512 * n) l.image)) (numbers_below l.n);
  len : vec_len l.sectors ≡ l.n;
  room : l.count ≤ vec_capacity l.sectors;
}
