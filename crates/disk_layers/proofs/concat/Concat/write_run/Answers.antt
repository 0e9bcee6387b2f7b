-- The bytes are cut where the second disk begins.
use Rattle.std.proofs.Common.{rules, ◌≡◌, ◌+◌, ◌*◌, ◌-◌, ◌/◌, min, length, take, drop, List, ℕ, sym, subst, OnOk, OnErr}
use Rattle.block_traits.specs.declared.disk.Event.{Event}
use Rattle.block_traits.specs.Disk.{FailsIn, Logs, write_events}
use Rattle.block_traits.proofs.Logs.{FailsIn-more, FailsIn-then, Logs-then}
use Rattle.disk_layers.specs.Concat.{FailedLast, LogsOnly, FailsToDo}
use Rattle.disk_layers.specs.ConcatDisk.{concat_disk_of}
use Rattle.disk_layers.proofs.Failing.{failed_since}
use Rattle.disk_layers.proofs.JoinedLemmas.{on_err, on_ok}
use Rattle.disk_layers.proofs.Runs.{first-failed, run-parts, run-split, second-answered}
use Rattle.disk_layers.proofs.concat.Concat.write_run.Goals as goal

pub returns-in_err-run_first-clause-answer : goal.returns-in_err-run_first-clause-answer
returns-in_err-run_first-clause-answer g c =
    let k : ℕ = c.min-inside.result in
    let bytes = c.args.from.now in
    let P : List ℕ → Type 0 = λ before. FailsToDo g.A.Disk.state (write_events c.args.first before) c.args.self.now.first c.run_first.new.self.first in
    let failed : P (take (512 * k) bytes) = subst P {y = take (512 * k) bytes} c.split_at.ensures.front c.in_err-run_first.ensures.failed in
    let is : k ≡ min (c.sectors-size.result - c.args.first) (length bytes / 512) = search rules in
    first-failed g.A.Disk.state g.B.Disk.state c.sectors-size.result c.args.first k bytes c.args.self.now.first c.run_first.new.self.first c.args.self.now.second c.run_first.new.self.second
    c.from_residual.result c.from_residual.ensures.0 c.sectors-size.ensures is failed c.run_first.ensures.beside

pub returns-in_err-run_first-clause-err : goal.returns-in_err-run_first-clause-err
returns-in_err-run_first-clause-err g c =
    let k : ℕ = c.min-inside.result in
    let bytes = c.args.from.now in
    let size : ℕ = c.sectors-size.result in
    let is : k ≡ min (size - c.args.first) (length bytes / 512) = search rules in
    let P : List ℕ → Type 0 = λ before. FailsIn (write_events c.args.first before) (concat_disk_of c.args.self.now) (concat_disk_of c.run_first.new.self) in
    let failed : P (take (512 * k) bytes) = subst P {y = take (512 * k) bytes} c.split_at.ensures.front c.in_err-run_first.ensures.err in
    let Q : List Event → Type 0 = λ events. FailsIn events (concat_disk_of c.args.self.now) (concat_disk_of c.run_first.new.self) in
    let all = subst Q (run-split size c.args.first k bytes is) (FailsIn-more (write_events c.args.first (take (512 * k) bytes)) (write_events (c.args.first - size + size) (drop (512 * k) bytes)) failed) in
    search (rules, all)

pub returns-clause-answer : goal.returns-clause-answer
returns-clause-answer g c =
    let k : ℕ = c.min-inside.result in
    let bytes = c.args.from.now in
    let size : ℕ = c.sectors-size.result in
    let n : ℕ = c.args.first in
    let front : List ℕ = take (512 * k) bytes in
    let back : List ℕ = drop (512 * k) bytes in
    let a = g.A.Disk.state in
    let b = g.B.Disk.state in
    let middle = c.run_first.new.self in
    let last = c.run_second.new.self in
    let is : k ≡ min (size - n) (length bytes / 512) = search rules in
    let one : LogsOnly a (write_events n front) c.args.self.now.first middle.first =
    subst (λ (l : List ℕ). LogsOnly a (write_events n l) c.args.self.now.first middle.first) {y = front} c.split_at.ensures.front c.in_ok-run_first.ensures.did in
    let did : LogsOnly a (write_events n front) c.args.self.now.first last.first =
    subst (λ (x : g.row.A.Denot). LogsOnly a (write_events n front) c.args.self.now.first x) (sym c.run_second.ensures.beside) one in
    let X = λ (m : ℕ) (l : List ℕ) (x : g.row.B.Denot). OnOk c.run_second.result (LogsOnly b (write_events m l) x last.second) in
    let Y = λ (m : ℕ) (l : List ℕ) (x : g.row.B.Denot). OnErr c.run_second.result (FailsToDo b (write_events m l) x last.second) in
    let m : ℕ = c.saturating_sub-2.result in
    let ok : X (n - size) back c.args.self.now.second =
    subst (X (n - size) back) c.run_first.ensures.beside
    (subst (λ (l : List ℕ). X (n - size) l middle.second) {y = back} c.split_at.ensures.back (subst (λ (j : ℕ). X j c.split_at.result.1.now middle.second) c.saturating_sub-2.ensures c.run_second.ensures.did)) in
    let err : Y (n - size) back c.args.self.now.second =
    subst (Y (n - size) back) c.run_first.ensures.beside
    (subst (λ (l : List ℕ). Y (n - size) l middle.second) {y = back} c.split_at.ensures.back (subst (λ (j : ℕ). Y j c.split_at.result.1.now middle.second) c.saturating_sub-2.ensures c.run_second.ensures.failed)) in
    second-answered a b size n k bytes c.args.self.now.first last.first c.args.self.now.second last.second c.run_second.result c.sectors-size.ensures is did ok err

pub returns-clause-ok : goal.returns-clause-ok
returns-clause-ok g c =
    let bytes = c.args.from.now in
    let size : ℕ = c.sectors-size.result in
    let n : ℕ = c.args.first in
    let is : c.min-inside.result ≡ min (size - n) (length bytes / 512) = search rules in
    let front = c.split_at.result.0.now in
    let back = c.split_at.result.1.now in
    let m : ℕ = c.saturating_sub-2.result in
    let all = run-parts size n m c.min-inside.result bytes front back is c.saturating_sub-2.ensures c.split_at.ensures.front c.split_at.ensures.back in
    on_ok c.run_second.result
    (λ (h : Logs (write_events (m + size) back) (concat_disk_of c.run_first.new.self) (concat_disk_of c.run_second.new.self)).
    subst (λ (l : List Event). Logs l (concat_disk_of c.args.self.now) (concat_disk_of c.run_second.new.self)) all
    (Logs-then (write_events n front) (write_events (m + size) back) c.in_ok-run_first.ensures.ok h)) c.run_second.ensures.ok

pub returns-clause-err : goal.returns-clause-err
returns-clause-err g c =
    let bytes = c.args.from.now in
    let size : ℕ = c.sectors-size.result in
    let n : ℕ = c.args.first in
    let is : c.min-inside.result ≡ min (size - n) (length bytes / 512) = search rules in
    let front = c.split_at.result.0.now in
    let back = c.split_at.result.1.now in
    let m : ℕ = c.saturating_sub-2.result in
    let all = run-parts size n m c.min-inside.result bytes front back is c.saturating_sub-2.ensures c.split_at.ensures.front c.split_at.ensures.back in
    on_err c.run_second.result
    (λ (h : FailsIn (write_events (m + size) back) (concat_disk_of c.run_first.new.self) (concat_disk_of c.run_second.new.self)).
    subst (λ (l : List Event). FailsIn l (concat_disk_of c.args.self.now) (concat_disk_of c.run_second.new.self)) all
    (FailsIn-then (write_events n front) (write_events (m + size) back) c.in_ok-run_first.ensures.ok h)) c.run_second.ensures.err

pub returns-clause-failed_last : goal.returns-clause-failed_last
returns-clause-failed_last g c =
    let a = g.A.Disk.state in
    let b = g.B.Disk.state in
    let middle = c.run_first.new.self in
    let last = c.run_second.new.self in
    let X : g.row.B.Denot → Type 0 = λ x. OnErr c.run_second.result (FailedLast last.failed_second (a middle.first) (a last.first) (b x) (b last.second)) in
    let failed : X c.args.self.now.second = subst X c.run_first.ensures.beside c.run_second.ensures.failed_last in
    on_err c.run_second.result (failed_since last.failed_second (a c.args.self.now.first) (a middle.first) (a last.first) (b c.args.self.now.second) (b last.second) c.in_ok-run_first.ensures.did.logs.faults) failed
