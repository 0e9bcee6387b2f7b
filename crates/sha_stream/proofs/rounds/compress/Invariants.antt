use Rattle.std.proofs.Common.{◌≡◌, ◌+◌, ◌*◌}
use Rattle.sha2.specs.Sha256.{rounds, schedule}
use Rattle.sha_stream.specs.Schedule.{AreWordsAt}
use Rattle.sha_stream.proofs.rounds.compress.Given as goal

abbrev pub invariant-schedule : goal.invariant-schedule
invariant-schedule l =
    let ws = schedule l.block 48 in
    (l.v ≡ rounds l.state ws (16 * l.turn))
    × AreWordsAt ws (16 * l.turn) l.a × AreWordsAt ws (16 * l.turn + 4) l.b × AreWordsAt ws (16 * l.turn + 8) l.c × AreWordsAt ws (16 * l.turn + 12) l.d
