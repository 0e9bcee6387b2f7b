use Rattle.std.proofs.Common.{◌≡◌, ◌⊎◌, inl, inr, true, false, is_some, sym, rules, to_z, of_z}
use Rattle.std.specs.Prelude.{FitsSigned}
use Rattle.std.specs.Int.{w32}
use Rattle.std.proofs.lemmas.Int.{to_z-of_z}
use Rattle.key_commands.specs.NewKey.{KeyChange, is_only_key}
use Rattle.key_commands.proofs.Changing.{IsKeyBits-supported, MakesKey-with}
use Rattle.key_commands.proofs.set_key.changed.Goals.{else-is_some-via-then-is_some+else-not-is_only_key, else-is_some-via-else-is_some}
use Rattle.key_commands.proofs.set_key.changed.Goals as goal

pub with_key-requires-clause-keylen : goal.with_key-requires-clause-keylen
with_key-requires-clause-keylen c = IsKeyBits-supported c.args.meta.now c.requires.checked

pub returns-clause-ok : goal.returns-clause-ok
returns-clause-ok c =
    let asked : KeyChange =
    record { meta = c.args.meta.now; master = c.args.master.now.bytes; slot = c.args.slot; iterations = c.args.iterations; parts = c.args.parts.now } in
    let count = c.new_iterations-count.result in
    let kept = c.args.meta.now.iterations in
    let fits : FitsSigned w32 count = search rules in
    let same : to_z w32 (of_z w32 count) ≡ count = to_z-of_z w32 count fits in
    let fits_kept : FitsSigned w32 kept = search rules in
    let same_kept : to_z w32 (of_z w32 kept) ≡ kept = to_z-of_z w32 kept fits_kept in
    let either : (is_some asked.iterations ≡ false) ⊎ (is_only_key asked.meta asked.slot ≡ true) = elim c.else-is_some.branch [
      | else-is_some-via-then-is_some+else-not-is_only_key w ↦ inr (search rules)
      | else-is_some-via-else-is_some w ↦ inl (search rules)
    ] in
    let made = c.with_key.ensures in
    MakesKey-with asked c.in_ok-key.key c.with_key.result count (record { whole = made.before; checked = c.requires.checked; there = c.requires.slot; master = made.master })
    (rw same_kept at c.new_iterations-count.ensures) either (rw same at (sym c.in_ok-key.ensures)) (rw same at made.fields) made.whole
