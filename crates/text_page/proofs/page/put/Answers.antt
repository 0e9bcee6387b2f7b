use Rattle.std.proofs.Common.{◌≡◌, [], rules}
use Rattle.text_page.proofs.Printing.{Puts-given}
use Rattle.text_page.proofs.page.put.Goals as goal

pub returns : goal.returns
returns g c =
    let none : c.try_extend_from_slice-2.new.self.items ≡ [] = search rules in
    let same : c.try_extend_from_slice.new.self ≡ c.args.page.now = search rules in
    Puts-given _ _ _ _ _ _ _ (rw same at c.in_ok-give_page.ensures.printed) c.write_text.ensures none
