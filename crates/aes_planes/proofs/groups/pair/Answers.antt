use Rattle.std.proofs.Common.{◌≡◌, ◌++◌, map, get_or, refl}
use Rattle.std.specs.List.{range_with_len}
use Rattle.aes_core.specs.Aes.{bytes_by}
use Rattle.aes_core.specs.Blocks.{block}
use Rattle.aes_planes.proofs.RowLaws.{explicit}
use Rattle.aes_planes.proofs.groups.pair.Goals as goal

pub returns-clause-first : goal.returns-clause-first
returns-clause-first c = explicit (λ a. block (map (λ k. get_or (a ++ c.args.second) k 0) (range_with_len 0 32)) 0 ≡ a) c.args.first c.requires.first refl

pub returns-clause-second : goal.returns-clause-second
returns-clause-second c =
    explicit (λ a. block (map (λ k. get_or (a ++ c.args.second) k 0) (range_with_len 0 32)) 1 ≡ c.args.second) c.args.first c.requires.first
    (explicit (λ b. block (map (λ k. get_or (bytes_by 16 (λ n. get_or c.args.first n 0) ++ b) k 0) (range_with_len 0 32)) 1 ≡ b) c.args.second c.requires.second refl)

pub returns-clause-long : goal.returns-clause-long
returns-clause-long c = refl
