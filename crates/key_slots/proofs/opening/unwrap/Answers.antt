use Rattle.std.proofs.Common.{◌≡◌, length, true, sym, ◌∙◌, arith, rules}
use Rattle.eli_metadata.specs.Checks.{is_set}
use Rattle.key_slots.proofs.Texts.{master_of_text, text_of_master}
use Rattle.key_slots.proofs.opening.unwrap.Goals as goal

pub returns-then-is_set-clause-opens : goal.returns-then-is_set-clause-opens
returns-then-is_set-clause-opens c =
    let u = c.args.key.now.bytes in
    let long : length c.deciphered.result ≡ 192 = omega arith in
    let set : is_set c.args.meta.now c.args.slot ≡ true = sym c.is_set.ensures ∙ c.if-is_set.true in
    λ master. (
      λ held. c.master_in.ensures ∙ master_of_text u _ master long (c.deciphered.ensures ∙ held.slot.text),
      λ e. record { set = search rules; slot = record { text = sym c.deciphered.ensures ∙ text_of_master u _ master (sym c.master_in.ensures ∙ e) } },
    )
