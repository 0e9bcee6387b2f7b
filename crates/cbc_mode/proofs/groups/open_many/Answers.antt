use Rattle.std.proofs.Common.{ℕ, List, ◌++◌, length, drop, replicate, ap}
use Rattle.cbc_mode.proofs.GroupLaws.{rest_opened}
use Rattle.cbc_mode.proofs.groups.open_many.Goals as goal

pub returns : goal.returns
returns c =
    λ j le.
    let behind : List ℕ = drop (length c.args.rest.now) (replicate 256 0) in
    rest_opened c.args.k.now c.args.before.now c.args.rest.now behind _ c.open_sixteen.new.group c.copy_from_slice-2.new.self j 16 c.told-before (ap (λ (l : List ℕ). l ++ behind) c.copy_from_slice.ensures.after)
    c.copy_from_slice-2.ensures.after c.open_sixteen.ensures.opened c.requires le
