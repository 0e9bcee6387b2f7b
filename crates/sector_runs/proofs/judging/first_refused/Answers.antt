use Rattle.std.proofs.Common.{◌+◌, ◌-◌, ◌*◌, ℕ, List, length, drop, subst, sym, ◌∙◌, arith}
use Rattle.std.proofs.lemmas.List.{length-drop, take_all}
use Rattle.sector_runs.specs.Verdicts.{Judges}
use Rattle.sector_runs.proofs.Verdicts.{accepted_behind, accepted_on}
use Rattle.sector_runs.proofs.judging.first_refused.Goals as goal

pub returns-in-Some : goal.returns-in-Some
returns-in-Some c =
    let k = c.args.ring.now.keying in
    let n = c.args.n in
    let device = c.args.device.now in
    let done = c.groups.done in
    let m = c.in-Some.m in
    let rest : List ℕ = drop (512 * done) device in
    let long = length-drop (512 * done) device in
    let judges = subst (λ (d : List ℕ). Judges k (n + done) d c.judge-judged.result) (take_all (length device - 512 * done) rest (omega (arith, long))) c.judge-judged.ensures in
    let found = c.in-Some.ensures in
    let within = judges.within in (
      omega (arith, found.0, within, long),
      sym (accepted_behind k n done m device) ∙ sym (judges.each m found.0) ∙ found.1,
      accepted_on k n done m device c.judge-judged.result c.groups.invariant.accepted judges (omega (arith, found.0)) found.2,
    )

pub groups-preserved : goal.groups-preserved
groups-preserved c =
    let k = c.args.ring.now.keying in
    let n = c.args.n in
    let device = c.args.device.now in
    let done = c.groups.done in
    let rest : List ℕ = drop (512 * done) device in
    let long = length-drop (512 * done) device in
    let judges = subst (λ (d : List ℕ). Judges k (n + done) d c.judge-judged.result) (take_all (length device - 512 * done) rest (omega (arith, long))) c.judge-judged.ensures in
    let within = judges.within in
    record {
      within = omega (arith, within, long);
      accepted = accepted_on k n done c.judge-judged.result.count device c.judge-judged.result c.groups.invariant.accepted judges (omega arith) c.in-None.ensures;
    }
