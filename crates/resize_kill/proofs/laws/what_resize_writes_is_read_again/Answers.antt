use Rattle.resize_kill.proofs.Moved.{read_again}
use Rattle.resize_kill.proofs.laws.what_resize_writes_is_read_again.Goals as goal

pub returns : goal.returns
returns c = read_again
