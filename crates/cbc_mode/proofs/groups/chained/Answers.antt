use Rattle.std.proofs.Common.{◌≡◌, ◌++◌, map, get_or, refl}
use Rattle.std.specs.List.{range_with_len}
use Rattle.aes_core.specs.Aes.{bytes_by}
use Rattle.aes_core.specs.Blocks.{block}
use Rattle.aes_planes.proofs.WideLaws.{explicit_32}
use Rattle.cbc_mode.proofs.groups.chained.Goals as goal

pub returns-clause-first : goal.returns-clause-first
returns-clause-first c =
    explicit_32 (λ a. block (map (λ k. get_or (a ++ c.args.v) k 0) (range_with_len 16 32)) 0 ≡ block a 1) c.args.before c.requires.before refl

pub returns-clause-second : goal.returns-clause-second
returns-clause-second c =
    explicit_32 (λ a. block (map (λ k. get_or (a ++ c.args.v) k 0) (range_with_len 16 32)) 1 ≡ block c.args.v 0) c.args.before c.requires.before
    (explicit_32 (λ b. block (map (λ k. get_or (bytes_by 32 (λ n. get_or c.args.before n 0) ++ b) k 0) (range_with_len 16 32)) 1 ≡ block b 0) c.args.v c.requires.vector refl)

pub returns-clause-long : goal.returns-clause-long
returns-clause-long c = refl
