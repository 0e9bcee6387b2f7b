use Rattle.std.proofs.Common.{◌≡◌, ◌-◌, ℕ, Bool, false, List, [], ◌∷◌, get_or, length, take, drop, refl, sym, ap, ◌∙◌, arith}
use Rattle.std.proofs.lemmas.List.{length-drop, length-take-le}
use Rattle.eli_base.specs.Units.{unit_bytes_of}
use Rattle.sector_runs.proofs.FourSectors.{each_of_four}
use Rattle.sector_runs.proofs.Fours.{whole_size}
use Rattle.sector_runs.proofs.Verdicts.{judged_at, judges_four}
use Rattle.sector_runs.proofs.judging.judge_four.Goals as goal

pub slice_bounds-four-end : goal.slice_bounds-four-end
slice_bounds-four-end c = sym (length-take-le 512 c.args.device.now (omega (arith, c.requires.four)))

pub apart_accepted-requires-clause-sectors : goal.apart_accepted-requires-clause-sectors
apart_accepted-requires-clause-sectors c =
    let device = c.args.device.now in
    each_of_four (λ (j : ℕ). length (get_or (take 512 device ∷ take (1024 - 512) (drop 512 device) ∷ take (1536 - 1024) (drop 1024 device) ∷ take (2048 - 1536) (drop 1536 device) ∷ []) j []) ≡ 512)
    (length-take-le 512 device (omega (arith, c.requires.four))) (length-take-le 512 (drop 512 device) (omega (arith, length-drop 512 device, c.requires.four)))
    (length-take-le 512 (drop 1024 device) (omega (arith, length-drop 1024 device, c.requires.four))) (length-take-le 512 (drop 1536 device) (omega (arith, length-drop 1536 device, c.requires.four)))

pub returns : goal.returns
returns c =
    let k = c.args.ring.now.keying in
    let n = c.args.n in
    let wide : c.layout-size.result.unit_bytes ≡ unit_bytes_of k.auth = c.layout-size.ensures.unit_bytes in
    let whole = c.requires.whole in
    let call = c.apart_accepted.ensures in
    judges_four k n c.args.device.now _ refl (omega (arith, c.requires.four))
    (ap (λ (l : List Bool). get_or l 0 false) call ∙ judged_at k n 0 _ _ c.args.device.now _ (omega arith) (wide ∙ sym (whole_size k n 0 whole (omega arith))) refl)
    (ap (λ (l : List Bool). get_or l 1 false) call ∙ judged_at k n 1 _ _ c.args.device.now _ (omega arith) (wide ∙ sym (whole_size k n 1 whole (omega arith))) refl)
    (ap (λ (l : List Bool). get_or l 2 false) call ∙ judged_at k n 2 _ _ c.args.device.now _ (omega arith) (wide ∙ sym (whole_size k n 2 whole (omega arith))) refl)
    (ap (λ (l : List Bool). get_or l 3 false) call ∙ judged_at k n 3 _ _ c.args.device.now _ (omega arith) (wide ∙ sym (whole_size k n 3 whole (omega arith))) refl)
