use Rattle.std.proofs.Common.{◌≡◌, ℕ, ◌<◌, List, ◌++◌, length, refl, ap, ◌∙◌}
use Rattle.std.specs.List.{range_with_len}
use Rattle.aes_core.specs.Blocks.{block}
use Rattle.aes_planes.proofs.RowLaws.{explicit}
use Rattle.aes_planes.proofs.WideLaws.{picked, two}
use Rattle.aes_planes.proofs.round_keys.wide_plane.Goals as goal

-- each side has all 16 lanes
twice_sides : (v : List ℕ) → length v ≡ 16 → (i : ℕ) → i < 2 → block (picked (range_with_len 0 16 ++ range_with_len 0 16) v) i ≡ v
twice_sides v long i li =
    two (λ i. block (picked (range_with_len 0 16 ++ range_with_len 0 16) v) i ≡ v)
    (explicit (λ s. block (picked (range_with_len 0 16 ++ range_with_len 0 16) s) 0 ≡ s) v long refl)
    (explicit (λ s. block (picked (range_with_len 0 16 ++ range_with_len 0 16) s) 1 ≡ s) v long refl) i li

pub returns-clause-sides : goal.returns-clause-sides
returns-clause-sides c = λ i li. twice_sides c.plane.result (ap length c.plane.ensures) i li ∙ c.plane.ensures

pub returns-clause-long : goal.returns-clause-long
returns-clause-long c = refl
