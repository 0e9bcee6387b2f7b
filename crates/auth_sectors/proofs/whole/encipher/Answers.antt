use Rattle.std.proofs.Common.{rules, ◌≡◌, ◌-◌, ◌++◌, ℕ, List, length, replicate, ap, ◌∙◌, sym, arith}
use Rattle.std.proofs.lemmas.Grind.{common_steps}
use Rattle.std.proofs.lemmas.List.{drop_at}
use Rattle.eli_base.specs.Units.{tag_bytes, unit_bytes_of}
use Rattle.eli_base.proofs.Units.{tag_and_unit}
use Rattle.sealing.specs.Runs.{sealed_run}
use Rattle.auth_sectors.proofs.whole.encipher.Goals as goal

pub returns-clause-sealed : goal.returns-clause-sealed
returns-clause-sealed c =
    let k = c.args.ring.now.keying in
    let text = c.seal_run.new.block in
    let size = c.tag_size-size.result in
    let n : ℕ = length c.split_at_mut-text.result.1.now in
    let wide : size ≡ tag_bytes k.auth = c.tag_size-size.ensures in
    let sealed : text ≡ sealed_run k c.args.offset c.args.plain.now =
    c.seal_run.ensures.sealed ∙ ap (λ (b : List ℕ). sealed_run k c.args.offset b) c.copy_from_slice.ensures.after in
    let filled : c.fill.new.self ≡ replicate n 0 = search rules in
    let count : n ≡ unit_bytes_of k.auth - length c.args.plain.now = omega (arith, tag_and_unit k.auth) in
    drop_at _ (text ++ c.fill.new.self) (tag_bytes k.auth) (omega (arith, wide, tag_and_unit k.auth))
    ∙ (λ i. sealed i ++ (filled ∙ ap (λ (m : ℕ). replicate m 0) count) i)

pub returns-clause-long : goal.returns-clause-long
returns-clause-long c =
    let k = c.args.ring.now.keying in
    let sealed : c.seal_run.new.block ≡ sealed_run k c.args.offset c.args.plain.now =
    c.seal_run.ensures.sealed ∙ ap (λ (b : List ℕ). sealed_run k c.args.offset b) c.copy_from_slice.ensures.after in
    ap (λ (l : List ℕ). length l) (sym sealed) ∙ (let same : length c.seal_run.new.block ≡ length c.args.plain.now = omega arith in same)

pub returns-clause-keying : goal.returns-clause-keying
returns-clause-keying c = grind (arith, common_steps) steps 400000
