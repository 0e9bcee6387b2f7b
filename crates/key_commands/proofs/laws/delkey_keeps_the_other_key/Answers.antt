use Rattle.key_commands.proofs.Passes.{HasOtherKeys-Deletes}
use Rattle.key_commands.proofs.laws.delkey_keeps_the_other_key.Goals as goal

pub returns : goal.returns
returns c = λ asked disk disk' entropy entropy' m h. HasOtherKeys-Deletes asked disk entropy m disk' entropy' h
