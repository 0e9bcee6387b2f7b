use Rattle.std.proofs.Common.{[], ◌∷◌}
use Rattle.hex.specs.Hex.{encode_lower}
use Rattle.text_page.proofs.Printing.{Puts-failed, Puts-then, PutsAll-then, PutsPart-more, PutsPart-then}
use Rattle.reply_text.proofs.bytes.write_ok_bytes.Goals as goal

pub returns-in_err-put : goal.returns-in_err-put
returns-in_err-put g c =
    Puts-failed _ _ _ _ _ _ c.from_residual.ensures.0 (PutsPart-more _ (10 ∷ []) (PutsPart-more _ (encode_lower c.args.bytes.now) c.in_err-put.ensures))

pub returns-in_err-write_bytes : goal.returns-in_err-write_bytes
returns-in_err-write_bytes g c =
    Puts-failed _ _ _ _ _ _ c.from_residual-in_err-write_bytes.ensures.0 (PutsPart-more _ (10 ∷ []) (PutsPart-then _ _ c.in_ok-put.ensures c.in_err-write_bytes.ensures))

pub returns : goal.returns
returns g c = Puts-then _ _ _ _ _ _ _ _ _ (PutsAll-then _ _ c.in_ok-put.ensures c.in_ok-write_bytes.ensures) c.put-2.ensures
