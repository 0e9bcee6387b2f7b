use Rattle.std.proofs.Common.{◌≡◌, ℕ, None, inr, subst, rules, to_z, of_z, arith}
use Rattle.std.proofs.lemmas.Grind.{common_steps}
use Rattle.std.proofs.lemmas.Int.{to_z-of_z}
use Rattle.std.specs.Int.{w32}
use Rattle.std.specs.Prelude.{FitsSigned}
use Rattle.block_traits.specs.Disk.{FailsIn, Logs}
use Rattle.resize_kill.specs.Resizing.{grown, move_events, old_place, size_refusal}
use Rattle.resize_kill.proofs.Moved.{moves, moves_part}
use Rattle.resize_kill.proofs.resizing.resize.Goals as goal

pub returns-in-Ok-move_metadata : goal.returns-in-Ok-move_metadata
returns-in-Ok-move_metadata g c =
    let disk = g.D.Disk.state c.args.disk.now in
    let middle = g.D.Disk.state c.find_old.new.disk in
    let after = g.D.Disk.state c.move_metadata.new.disk in
    let oldsize = c.args.oldsize in
    let old = c.in_ok-old.old in
    let random = c.in-Ok.random in
    let same = c.sectors-sectors.ensures in
    let z = old.iterations in
    let range : FitsSigned w32 z = search rules in
    let signed : to_z w32 (of_z w32 z) ≡ z = to_z-of_z w32 z range in
    let sizes = subst (λ (n : ℕ). size_refusal n oldsize ≡ None) same c.in_ok-check_sizes.ensures.ok in
    let logs = subst (λ (n : ℕ). Logs (move_events middle (old_place oldsize) (grown old n) random) middle after) same (rw signed at c.in-Ok-move_metadata.ensures.ok) in
    moves oldsize disk middle after _ _ old random sizes c.in_ok-old.ensures.finds c.in-Ok.ensures.ok c.fits_types.ensures logs c.move_metadata.ensures.unasked

pub returns-in-Err : goal.returns-in-Err
returns-in-Err g c =
    let disk = g.D.Disk.state c.args.disk.now in
    let middle = g.D.Disk.state c.find_old.new.disk in
    let after = g.D.Disk.state c.move_metadata.new.disk in
    let oldsize = c.args.oldsize in
    let old = c.in_ok-old.old in
    let random = c.in-Ok.random in
    let same = c.sectors-sectors.ensures in
    let z = old.iterations in
    let range : FitsSigned w32 z = search rules in
    let signed : to_z w32 (of_z w32 z) ≡ z = to_z-of_z w32 z range in
    let sizes = subst (λ (n : ℕ). size_refusal n oldsize ≡ None) same c.in_ok-check_sizes.ensures.ok in
    let fails = subst (λ (n : ℕ). FailsIn (move_events middle (old_place oldsize) (grown old n) random) middle after) same (rw signed at c.in-Err.ensures.err) in
    inr (moves_part oldsize disk middle after _ _ old random sizes c.in_ok-old.ensures.finds c.in-Ok.ensures.ok c.fits_types.ensures fails c.move_metadata.ensures.unasked)

pub returns-in_err-check_sizes : goal.returns-in_err-check_sizes
returns-in_err-check_sizes g c = grind (arith, common_steps) steps 400000

pub returns-in_err-old : goal.returns-in_err-old
returns-in_err-old g c = grind (arith, common_steps)

pub returns-in_default : goal.returns-in_default
returns-in_default g c = grind (arith, common_steps) steps 400000
