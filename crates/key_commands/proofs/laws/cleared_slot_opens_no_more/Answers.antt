use Rattle.std.proofs.Common.{◌≡◌, true, false}
use Rattle.eli_metadata.specs.Checks.{is_set}
use Rattle.key_commands.specs.Overwriting.{without_keys}
use Rattle.key_commands.proofs.Passes.{is_set-without}
use Rattle.key_commands.proofs.laws.cleared_slot_opens_no_more.Goals as goal

pub returns : goal.returns
returns c = λ m which bytes s u master there named opens.
    let clear : is_set (without_keys m which bytes) s ≡ false = is_set-without m which bytes s there named in
    let set : is_set (without_keys m which bytes) s ≡ true = opens.set in
    cc
