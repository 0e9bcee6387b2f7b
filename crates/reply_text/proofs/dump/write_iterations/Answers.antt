use Rattle.std.proofs.Common.{rules, FitsSigned, w32}
use Rattle.std.proofs.lemmas.Int.{to_z-of_z}
use Rattle.reply_text.proofs.dump.write_iterations.Goals as goal

pub returns : goal.returns
returns g c =
    let fits : FitsSigned w32 c.args.meta.now.iterations = search rules in
    rw (to_z-of_z w32 c.args.meta.now.iterations fits) at c.write_number_line.ensures
