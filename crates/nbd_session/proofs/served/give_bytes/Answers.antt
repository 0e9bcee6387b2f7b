use Rattle.std.proofs.Common.{◌∙◌, ℕ, ◌≤◌, List, length, refl, subst, arith}
use Rattle.nbd_words.specs.Transmission.{reply_head}
use Rattle.nbd_words.specs.declared.transmission.ReplyError.TheVariants.{Done}
use Rattle.nbd_negotiation.specs.Streams.{GivesBytes}
use Rattle.nbd_session.proofs.Serving.{given_of}
use Rattle.nbd_session.proofs.served.give_bytes.Goals as goal

pub returns : goal.returns
returns g c =
    let head : List ℕ = reply_head Done c.args.request.now.cookie in
    let room = c.args.room.now in
    let inside : c.args.start ≤ length room = omega (arith, c.requires.room, c.requires.within) in
    record {
      gives = subst (λ (l : List ℕ). GivesBytes l (g.K.Sink.state c.args.output.now) c.give_all.result (g.K.Sink.state c.give_all.new.output))
          (given_of c.args.start c.args.many room c.copy_from_slice.new.self head (c.copy_from_slice.ensures.after ∙ c.reply_head.ensures) refl inside) c.give_all.ensures;
    }
