use Rattle.std.proofs.Common.{refl}
use Rattle.sha_stream.proofs.ScheduleLaws.{next_words_at}
use Rattle.sha_stream.proofs.rounds.next_words.Goals as goal

pub returns : goal.returns
returns c = λ block t room ha hb hc hd.
    next_words_at block t c.args.a c.args.b c.args.c c.args.d c.add-known.result c.add-first.result c.add-2.result room ha hb hc hd
    (λ j h. rw (c.add-known.ensures j h, c.add.ensures j h, c.small_sigma0.ensures j h, c.one_on.ensures, c.one_on-2.ensures) refl)
    (λ j h. rw (c.add-first.ensures j h, c.small_sigma1.ensures j h, c.last_two.ensures) refl)
    (λ j h. rw (c.add-2.ensures j h, c.small_sigma1-2.ensures j h, c.first_two.ensures) refl)
