use Rattle.text_page.proofs.Printing.{Prints-given}
use Rattle.reply_text.proofs.reply.write_by.Goals as goal

pub returns : goal.returns
returns g c =
    let whole = rw c.requires.blank at c.in_ok-write_whole.ensures in
    Prints-given _ _ _ _ _ _ whole c.give_page.ensures.printed
