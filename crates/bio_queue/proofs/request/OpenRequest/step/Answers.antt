use Rattle.std.proofs.Common.{◌≡◌, ◌+◌, ◌*◌, ◌++◌, ◌∷◌, [], ℕ, List, length, take, drop, vec_len, ap, ◌∙◌, sym, subst, arith}
use Rattle.block_traits.specs.Disk.{FailsIn}
use Rattle.block_traits.specs.declared.disk.Event.{Event}
use Rattle.std.proofs.lemmas.List.{take_at}
use Rattle.block_traits.specs.Parts.{parts}
use Rattle.sector_runs.proofs.UnitLists.{on_err_so}
use Rattle.bio_queue.specs.Requests.{Request, step_events}
use Rattle.bio_queue.specs.declared.request.OpenRequest.TheInside.{Inside}
use Rattle.bio_queue.proofs.Held.{StepGives, events-flush, events-read, events-write, logs_as, seen, stepped-flush, stepped-read, stepped-write}
use Rattle.bio_queue.proofs.request.OpenRequest.step.Goals as goal
use Rattle.bio_queue.proofs.request.OpenRequest.step.Goals.{in-Read+in_ok-read_unit-in-Read, in-Write+in_ok-put_unit-in-Write, in-Flush+in_ok-flush-in-Flush}

pub returns-in_err-put_unit-in-Write-clause-err : goal.returns-in_err-put_unit-in-Write-clause-err
returns-in_err-put_unit-in-Write-clause-err g c =
    let state = g.D.Disk.state in
    let r = c.self.inside in
    let more = rw (← c.self.view_is) at c.requires.more in
    let P : List Event → Type 0 = λ events. FailsIn events (state c.args.on.now.disk) (state c.put_unit.new.self.disk) in
    let cut = c.unit_of.ensures ∙ ap (λ (b : List ℕ). take 512 (drop (512 * r.done) b)) c.deref.ensures.value in
    let events = sym (ap step_events c.self.view_is) ∙ events-write r.tag r.job c.in-Write.sector c.in-Write.count r.done r.units r.first _ r.device.items c.unit_of.result c.in-Write.is c.self.invariant.place (ap (λ (m : ℕ). r.first + m) c.from.ensures) more cut in
    on_err_so _ c.from_residual-in_err-put_unit-in-Write.result (subst P (sym events) c.in_err-put_unit-in-Write.ensures.err)

pub returns-clause-ok : goal.returns-clause-ok
returns-clause-ok g c =
    let state = g.D.Disk.state in
    let r = c.self.inside in
    let seen_so = sym (ap step_events c.self.view_is) in
    let more = rw (← c.self.view_is) at c.requires.more in
    elim c.match-self.branch [
      | in-Read+in_ok-read_unit-in-Read w ↦ logs_as state c.args.on.now c.match-self.on w.read_unit.new.on _ _ w.on-is (seen_so ∙ events-read r.tag r.job w.in-Read.sector w.in-Read.count r.done r.units r.device.items w.in-Read.is) w.in_ok-read_unit-in-Read.ensures.ok
      | in-Write+in_ok-put_unit-in-Write w ↦
          let cut = w.unit_of.ensures ∙ ap (λ (b : List ℕ). take 512 (drop (512 * r.done) b)) w.deref.ensures.value in
          logs_as state c.args.on.now c.match-self.on w.put_unit.new.self _ _ w.on-is
          (seen_so ∙ events-write r.tag r.job w.in-Write.sector w.in-Write.count r.done r.units r.first _ r.device.items w.unit_of.result w.in-Write.is c.self.invariant.place (ap (λ (m : ℕ). r.first + m) c.from.ensures) more cut) w.in_ok-put_unit-in-Write.ensures.ok
      | in-Flush+in_ok-flush-in-Flush w ↦ logs_as state c.args.on.now c.match-self.on w.flush.new.self _ _ w.on-is (seen_so ∙ events-flush r.tag r.job r.done r.units r.device.items w.in-Flush.is) w.in_ok-flush-in-Flush.ensures.ok
    ]

pub returns-clause-stepped : goal.returns-clause-stepped
returns-clause-stepped g c =
    let d = g.D.Disk.state c.args.on.now.disk in
    let r = c.self.inside in
    let more = rw (← c.self.view_is) at c.requires.more in
    let here = c.match-self.self-inside in
    subst (λ (q : Request). StepGives d q (seen here.tag here.job (here.done + 1) here.units here.device.items)) c.self.view_is
    (elim c.match-self.branch [
      | in-Read+in_ok-read_unit-in-Read w ↦
          let read = w.in_ok-read_unit-in-Read.ensures.read in
          let written : List ℕ = w.read_unit.new.device in
          let front = w.deref_mut.ensures.value in
          let long : length written ≡ vec_len r.device = omega arith in
          let whole : take (vec_len r.device) (written ++ drop (length written) r.device.items) ≡ written = take_at written (drop (length written) r.device.items) (vec_len r.device) long in
          let put = ap (parts 512 (r.done + 1)) whole ∙ read.2 ∙ ap (λ (b : List ℕ). parts 512 r.done b ++ read.0 ∷ []) front in
          subst (λ (s : Inside). StepGives d (seen r.tag r.job r.done r.units r.device.items) (seen s.tag s.job (s.done + 1) s.units s.device.items)) (sym w.self-inside-is)
          (stepped-read d r.tag r.job w.in-Read.sector w.in-Read.count r.done r.units r.first _ r.device.items (take (vec_len r.device) (written ++ drop (length written) r.device.items)) read.0 w.in-Read.is c.self.invariant.place
          (ap (λ (m : ℕ). r.first + m) c.from.ensures) read.1 put)
      | in-Write+in_ok-put_unit-in-Write w ↦
          subst (λ (s : Inside). StepGives d (seen r.tag r.job r.done r.units r.device.items) (seen s.tag s.job (s.done + 1) s.units s.device.items)) (sym w.self-inside-is)
          (stepped-write d r.tag r.job w.in-Write.sector w.in-Write.count r.done r.units r.device.items w.in-Write.is)
      | in-Flush+in_ok-flush-in-Flush w ↦
          subst (λ (s : Inside). StepGives d (seen r.tag r.job r.done r.units r.device.items) (seen s.tag s.job (s.done + 1) s.units s.device.items)) (sym w.self-inside-is)
          (stepped-flush d r.tag r.job r.done r.units r.device.items w.in-Flush.is)
    ])
