-- A name that isn't `behind:` and more.
use Rattle.std.proofs.Common.{◌≡◌, ◌↔◌, ℕ, List, subst}
use Rattle.disk_layers.specs.declared.layer.Layer.TheVariants.{Join}
use Rattle.disk_layers.specs.Names.{IsJoin}
use Rattle.disk_layers.proofs.layer.layer_of.Goals as goal

pub returns-in_default-clause-join : goal.returns-in_default-clause-join
returns-in_default-clause-join c =
    λ middle.
    let P : List ℕ → Type 0 = λ name. (c.join_of.result ≡ Join middle) ↔ IsJoin middle name in
    subst P c.as_bytes-bytes.ensures.value (c.join_of.ensures.join middle)
