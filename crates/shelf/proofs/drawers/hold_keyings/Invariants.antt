use Rattle.std.proofs.Common.{All, take}
use Rattle.command_rows.specs.Rows.{HoldsKeying}
use Rattle.shelf.specs.Shelved.{holding_of}
use Rattle.shelf.proofs.drawers.hold_keyings.Given as goal

-- what is attached on the drawers up to this place has a keying that a provider may have
abbrev pub invariant-loop-drawer : goal.invariant-loop-drawer
invariant-loop-drawer g l = All (λ d. HoldsKeying (holding_of d.held)) (take l.drawer-index l.drawers)
