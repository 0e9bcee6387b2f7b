-- One more write waits, and is reported.
use Rattle.std.proofs.Common.{◌≡◌, ◌∙◌, ◌<◌, List, [], ◌∷◌, arith, rules, length, refl, ap, sym, subst, subst₂, All}
use Rattle.std.proofs.lemmas.List.Elements.{All-cons, All-nil, All-push}
use Rattle.block_traits.specs.declared.disk.Event.{Event}
use Rattle.block_traits.specs.declared.disk.Event.TheVariants.{Write}
use Rattle.block_traits.specs.Content.{IsEventOf, logged}
use Rattle.block_traits.specs.Disk.{FitsSize}
use Rattle.disk_layers.specs.declared.write_behind.Waiting.{Waiting}
use Rattle.disk_layers.specs.Covering.{CoversTold}
use Rattle.disk_layers.specs.History.{with_history}
use Rattle.disk_layers.specs.Waiting.{FitBelow, writes_of}
use Rattle.disk_layers.proofs.BehindLemmas.{anew-more, more-fits, push-covers}
use Rattle.disk_layers.proofs.write_behind.WriteBehind.put.Goals as goal

pub invariant_of-self-clause-fit : goal.invariant_of-self-clause-fit
invariant_of-self-clause-fit g c =
    let d = g.D.Disk.state c.args.self.now.under in
    let write : Waiting = record { n = c.args.n; bytes = c.args.from.now } in
    subst (FitBelow d.size) (sym c.push_back_reserved.ensures.items) (All-push (λ (w : Waiting). w.n < d.size) c.args.self.now.waiting.items write c.args.self.now.fit c.requires.inside)

pub invariant_of-self-clause-fits : goal.invariant_of-self-clause-fits
invariant_of-self-clause-fits g c =
    let d = g.D.Disk.state c.args.self.now.under in
    let past = c.args.self.now.past.events in
    let bytes = c.args.from.now in
    let sector : length bytes ≡ 512 = search rules in
    let fit : All (IsEventOf d.size) (Write c.args.n bytes ∷ []) = All-cons (IsEventOf d.size) (Write c.args.n bytes) [] (c.requires.inside, sector) (All-nil (IsEventOf d.size)) in
    subst (λ (l : List Event). FitsSize d.size (with_history l d.content)) (sym c.written-self.ensures) (more-fits d.size past (Write c.args.n bytes ∷ []) d.content fit c.args.self.now.fits)

pub invariant_of-self-clause-covered : goal.invariant_of-self-clause-covered
invariant_of-self-clause-covered g c =
    let d = g.D.Disk.state c.args.self.now.under in
    let past = c.args.self.now.past.events in
    let write : Waiting = record { n = c.args.n; bytes = c.args.from.now } in
    let P = λ (w : List Waiting) (l : List Event). CoversTold (logged (writes_of w) d.content) (with_history l d.content) in
    subst₂ P (sym c.push_back_reserved.ensures.items) (sym c.written-self.ensures) (push-covers past d.content c.args.self.now.waiting.items write c.args.self.now.covered)

pub returns-clause-logs : goal.returns-clause-logs
returns-clause-logs g c =
    let d = g.D.Disk.state c.args.self.now.under in
    record {
      content = ap (λ (l : List Event). with_history l d.content) c.written-self.ensures ∙ anew-more c.args.self.now.past.events (Write c.args.n c.args.from.now ∷ []) d.content;
      size = refl;
      shows = refl;
      faults = omega arith;
    }
