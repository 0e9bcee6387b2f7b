-- Events that are logged after others are logged after them.
use Rattle.std.proofs.Common.{ap, ◌∙◌}
use Rattle.block_traits.specs.Content.{logged}
use Rattle.block_traits.proofs.Logs.{logged-append}
use Rattle.disk_layers.specs.WriteBehind.{order}
use Rattle.disk_layers.proofs.laws.orders_add_up.Goals as goal

pub returns : goal.returns
returns c = λ events more old middle new one two. two ∙ ap (logged more) one ∙ logged-append events more (order old)
