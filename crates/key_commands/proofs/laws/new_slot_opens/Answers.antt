use Rattle.key_commands.proofs.Making.{OpensFirst-new_metadata}
use Rattle.key_commands.proofs.laws.new_slot_opens.Goals as goal

pub returns : goal.returns
returns c = OpensFirst-new_metadata
