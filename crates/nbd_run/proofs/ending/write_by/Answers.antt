use Rattle.text_page.proofs.Printing.{Prints-given}
use Rattle.nbd_run.proofs.ending.write_by.Goals as goal

pub returns : goal.returns
returns g c =
    let whole = rw c.requires at c.in_ok-write_lines.ensures in
    Prints-given _ _ _ _ _ _ whole c.give_page.ensures.printed
