use Rattle.std.proofs.Common.{◌≡◌, ◌∙◌, subst, rules, to_z, of_z, FitsSigned, ℤ}
use Rattle.std.proofs.lemmas.Int.{to_z-of_z}
use Rattle.std.specs.Int.{w32}
use Rattle.command_rows.specs.Rows.{Idle, reach_of}
use Rattle.command_rows.specs.Vocabulary.{InitOptions}
use Rattle.command_rows.specs.verbs.Init.{InitRow}
use Rattle.shelf.proofs.new_provider.serve_init.Goals as goal

pub returns-clause-serves : goal.returns-clause-serves
returns-clause-serves g c =
    let i = c.in-Init in
    let asked : ℤ → InitOptions = λ (n : ℤ). record { cipher = i.cipher; auth = i.auth; keylen = i.keylen; sectorsize = i.sectorsize; iterations = n; autoresize = i.autoresize } in
    let start = reach_of (g.D.Disk.state c.args.disk) Idle (g.C.Cabinet.state c.args.files.now) (g.E.Entropy.state c.args.entropy.now) in
    let end = reach_of (g.D.Disk.state c.init-answer.new.disk) Idle (g.C.Cabinet.state c.init-answer.new.files) (g.E.Entropy.state c.init-answer.new.entropy) in
    let range : FitsSigned w32 c.iterations_of.result = search rules in
    let kept : to_z w32 (of_z w32 c.iterations_of.result) ≡ c.iterations_of.result = to_z-of_z w32 c.iterations_of.result range in
    let row : InitRow c.args.line.now (asked (to_z w32 (of_z w32 c.iterations_of.result))) i.fresh i.backup start c.init-answer.result end = c.init-answer.ensures in
    rw i.is (λ bytes. record {
      answer = c.init-answer.result;
      row = subst (λ (n : ℤ). InitRow c.args.line.now (asked n) i.fresh i.backup start c.init-answer.result end) (kept ∙ c.iterations_of.ensures) row;
      replied = c.done_or.ensures.reply bytes;
    })
