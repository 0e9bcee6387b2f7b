use Rattle.std.proofs.Common.{ℕ, List, ◌++◌, length, drop, replicate, ap}
use Rattle.xts_mode.specs.Halves.{of_halves}
use Rattle.xts_mode.specs.Ways.{aes_by}
use Rattle.xts_mode.proofs.GroupLaws.{rest_masked}
use Rattle.xts_mode.proofs.groups.cipher_few.Goals as goal

pub returns : goal.returns
returns c =
    λ j le.
    let behind : List ℕ = drop (length c.args.rest.now) (replicate 128 0) in
    rest_masked (aes_by c.args.way c.args.k1.now) c.args.rest.now behind _ c.cipher_group.new.group c.copy_from_slice-2.new.self (of_halves c.args.t) j 8 (ap (λ (l : List ℕ). l ++ behind) c.copy_from_slice.ensures.after)
    c.copy_from_slice-2.ensures.after c.cipher_group.ensures.done c.requires.few le
