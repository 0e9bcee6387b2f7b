use Rattle.std.proofs.Common.{◌≡◌, take, drop, length-drop, arith, ◌∙◌}
use Rattle.std.proofs.lemmas.List.{take_all}
use Rattle.std.specs.Str.{bytes_eq}
use Rattle.key_slots.proofs.opening.has_code.Goals as goal

pub returns : goal.returns
returns c =
    let back : take 64 (drop 128 c.args.text.now) ≡ drop 128 c.args.text.now = take_all 64 _ (omega (arith, length-drop 128 c.args.text.now)) in
    let code = c.as_slice.ensures ∙ c.check_code.ensures in
    c.eq.ensures ∙ (λ i. bytes_eq (back i) (code i))
