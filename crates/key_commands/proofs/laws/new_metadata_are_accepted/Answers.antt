use Rattle.key_slots.specs.Slots.{wrapped}
use Rattle.key_commands.specs.Random.{salt_in, master_key_in, filler_in}
use Rattle.key_commands.proofs.Usable.{IsAccepted-metadata_of}
use Rattle.key_commands.proofs.laws.new_metadata_are_accepted.Goals as goal

pub returns : goal.returns
returns c = λ options sectors random u allowed sized small.
    IsAccepted-metadata_of options sectors (salt_in random) (wrapped (master_key_in random) u options.keylen) (filler_in random) allowed sized small
