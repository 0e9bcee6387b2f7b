use Rattle.std.proofs.Common.{◌≡◌, sym, ap, ◌∙◌}
use Rattle.std.proofs.lemmas.Result.{err_from_is_err_and}
use Rattle.provider.proofs.Checked.{checked}
use Rattle.provider.specs.Answers.{Means, Target}
use Rattle.suspend.proofs.Resumed.{bytes_eq-false, not_resumed, opens_to, same_so}
use Rattle.suspend.specs.Suspension.{Suspension}
use Rattle.suspend.proofs.suspended.Suspended.open_again.Goals as goal

pub returns-in_err-found : goal.returns-in_err-found
returns-in_err-found g c =
    let t : Target = record { meta = c.args.meta.now; params = c.args.params.now; disk = g.D.Disk.state c.args.self.now.disk } in
    let by : Means = record { key = c.args.key.now.bytes; named = c.args.slot; readonly = c.args.self.now.readonly } in
    let is = checked t.meta t.params t.disk.size c.requires.checked c.requires.size in
    let p = err_from_is_err_and c.from_residual.result c.from_residual.ensures.1 in
    rw (p.1, p.2) (not_resumed t by c.args.self.now.mark c.in_err-found.field-0.0 is c.in_err-found.ensures)

pub returns-then-ne : goal.returns-then-ne
returns-then-ne g c =
    let t : Target = record { meta = c.args.meta.now; params = c.args.params.now; disk = g.D.Disk.state c.args.self.now.disk } in
    let by : Means = record { key = c.args.key.now.bytes; named = c.args.slot; readonly = c.args.self.now.readonly } in
    let is = checked t.meta t.params t.disk.size c.requires.checked c.requires.size in
    record {
      slot = c.in_ok-found.found.slot;
      master = c.in_ok-found.found.master.bytes;
      opens = opens_to t by c.in_ok-found.found.slot c.in_ok-found.found.master.bytes is c.in_ok-found.ensures;
      kept_is = ap (λ (s : Suspension _). s.mark) c.self.view_is;
      found_is = c.digest_of-opened.ensures;
      differ = bytes_eq-false c.digest_of-opened.result c.self.inside.kept.mark c.ne.result c.ne.ensures c.if-ne.true;
    }

pub returns : goal.returns
returns g c =
    let t : Target = record { meta = c.args.meta.now; params = c.args.params.now; disk = g.D.Disk.state c.args.self.now.disk } in
    let by : Means = record { key = c.args.key.now.bytes; named = c.args.slot; readonly = c.args.self.now.readonly } in
    let is = checked t.meta t.params t.disk.size c.requires.checked c.requires.size in
    let mark : c.self.inside.kept.mark ≡ c.args.self.now.mark = ap (λ (s : Suspension _). s.mark) c.self.view_is in (
      opens_to t by c.in_ok-found.found.slot c.in_ok-found.found.master.bytes is c.in_ok-found.ensures,
      sym c.digest_of-opened.ensures ∙ same_so c.digest_of-opened.result c.self.inside.kept.mark c.ne.result c.ne.ensures c.if-ne.false ∙ mark,
    )
