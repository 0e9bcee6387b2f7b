use Rattle.std.proofs.Common.{◌≡◌, ◌∷◌, ◌++◌, [], List, ℕ, length, ap, ◌∙◌, arith}
use Rattle.block_traits.specs.Parts.{parts}
use Rattle.sector_runs.proofs.Cuts.{parts-put}
use Rattle.bio_queue.proofs.request.read_unit.Goals as goal

pub returns-clause-read : goal.returns-clause-read
returns-clause-read g c =
    let long : length c.copy_from_slice.new.self ≡ 512 = ap (λ (b : List ℕ). length b) c.copy_from_slice.ensures.after ∙ c.get_unit.array_long in
    let put = parts-put c.args.done _ c.args.device.now c.copy_from_slice.new.self long (omega (arith, c.requires.room)) in
    (c.get_unit.new.into, c.in_ok-get_unit.ensures.bytes, put ∙ ap (λ (b : List ℕ). parts 512 c.args.done c.args.device.now ++ b ∷ []) c.copy_from_slice.ensures.after)
