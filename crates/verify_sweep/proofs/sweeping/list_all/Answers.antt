use Rattle.std.proofs.Common.{◌≡◌, ◌+◌, ◌-◌, ◌*◌, ◌≤◌, ℕ, List, length, take, drop, subst, arith}
use Rattle.std.proofs.lemmas.List.{length-drop, take_all}
use Rattle.block_traits.specs.Parts.{parts}
use Rattle.verify_sweep.specs.Sweeping.{Lists, failing_units}
use Rattle.verify_sweep.proofs.Listing.{Lists-more, listed_few}
use Rattle.verify_sweep.proofs.sweeping.list_all.Goals as goal

pub groups-preserved : goal.groups-preserved
groups-preserved g c =
    let k = c.args.on.now.keying in
    let n = c.args.n in
    let device = c.args.device.now in
    let done = c.groups.done in
    let now = c.groups.now in
    let before = c.groups.invariant in
    let seen = c.list_next-many.ensures in
    let many = c.list_next-many.result.0 in
    let next = c.list_next-many.result.1 in
    let after = c.list_next-many.new.found in
    let rest : List ℕ = drop (512 * done) device in
    let long = length-drop (512 * done) device in
    let whole : take (length device - 512 * done) rest ≡ rest = take_all (length device - 512 * done) rest (omega (arith, long)) in
    let within : 512 * many ≤ length rest = subst (λ (d : List ℕ). 512 * many ≤ length d) whole seen.within in
    let lists = subst (λ (d : List ℕ). Lists (failing_units k (n + done) (parts 512 many d)) now next c.groups.found after) whole seen.lists in
    let few = listed_few k (n + done) many now next rest c.groups.found after lists in
    record {
      within = omega (arith, within, long);
      few = omega (arith, before.few, few);
      lists = Lists-more k n done many c.args.bad now next device c.args.found.now c.groups.found after (omega arith) before.lists lists;
    }
