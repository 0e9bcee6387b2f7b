use Rattle.sha_stream.proofs.ScheduleLaws.{first_words_at}
use Rattle.sha_stream.proofs.rounds.words_at.Goals as goal

pub returns : goal.returns
returns c = first_words_at c.args.block.now c.args.t _ _ _ _ c.requires.there c.word_at.ensures c.word_at-2.ensures c.word_at-3.ensures c.word_at-4.ensures
