use Rattle.std.proofs.Common.{◌∙◌}
use Rattle.nbd_run.proofs.ending.write_first.Goals as goal

pub returns : goal.returns
returns g c =
    let writes = c.as_bytes.ensures.value ∙ c.format.ensures.text in
    let zeros = c.as_bytes-2.ensures.value ∙ c.format-2.ensures.text in
    let flushes = c.as_bytes-3.ensures.value ∙ c.format-3.ensures.text in
    let offset = c.as_bytes-4.ensures.value ∙ c.format-4.ensures.text in
    let place = rw offset at c.place_words.ensures in
    rw (writes, zeros, flushes, c.kind_words.ensures, place, c.cause_words.ensures, c.flush_words.ensures) at c.write_pieces.ensures
