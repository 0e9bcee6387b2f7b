-- All that is said of a run of the words of the command line.
use Rattle.std.specs.Prelude.{ℕ, List, [], ◌∷◌, ◌++◌}
use Rattle.command_rows.specs.Rows.{World}
use Rattle.geli_core.specs.Bounded.{CountsAll}
use Rattle.geli_core.specs.Kinds.{kind_read}
use Rattle.geli_core.specs.Laws.{LineKeepsLaws}
use Rattle.geli_core.specs.ReadsBack.{LineReads}
use Rattle.geli_core.specs.Script.{Runs, Whole}
use Rattle.geli_core.specs.Survivors.{EachSurvives, EachSurvivesRun}
use Rattle.geli_core.specs.Suspensions.{AreSuspended, LineResumes}
use Rattle.geli_core.specs.Sweeps.{Course, EachBegins}
use Rattle.geli_core.specs.Trace.{EachLine, IsTrace, ServedLine, Trace}
use Rattle.geli_core.specs.Vocabulary.{Sep, line_reading}
use Rattle.run_status.specs.declared.status.Status.{Status}

-- What holds of each drawer that is there after these lines. `survivors`: it was there at entry and did steps line by
-- line. If its disk reports its content, and power fails at any moment of them, each image that is left reads unit by
-- unit from what the lines' writes placed and what was there. The moment may be before or within any write of a device
-- sector. A torn or altered image may also read as a named fault, as strange bytes if nothing authenticates them, or
-- as forged ones (docs/THEOREM.md). `suspended`: the disk of a suspended drawer has logged nothing since a line
-- suspended it, or since entry; so no line wrote it, whatever lines named it.
pub record DrawersSince (sep : Sep) (entry : World) (served : List ServedLine) (now : World) : Type 0 where
  pub survivors : EachSurvives sep entry served now
  pub suspended : AreSuspended sep entry served now

-- What holds of a line, after those that were served before it. `laws`: if the line says a command, a refusal has its
-- cause. If the drawer that it names has what its verb needs and nothing fails, it is served or there was no memory,
-- which only the verbs that may lack it report. Only the drawer that it names changes or is taken out, and its disk
-- logs events of the line. A line that changes metadata leaves the old or the new whenever power fails: `setkey` the
-- old slot or the new, `delkey` the old slots or some without a key, and `kill` no metadata once a flush landed.
-- `reads`: what you write is what you read. This is said if the disk of the drawer reported its content at entry. The
-- bytes that a `read` returns are what the writings say that stand there last, of those that the lines before it placed
-- and of what was there. A `sum` returns their SHA-256, and a refusal for a tag names the offset that they say.
-- `resumes`: after a `resume` that is done the given key opens the master key, whose digest is the one that was kept.
-- If a line suspended the drawer, it is the master key that was let go, or the two collide under SHA-256.
pub record LineHolds (sep : Sep) (entry : World) (served : List ServedLine) (start : World) (l : ServedLine) : Type 0 where
  pub laws : LineKeepsLaws (line_reading sep l.line) l.line start l.answer l.next
  pub reads : LineReads sep entry served start (kind_read (line_reading sep l.line)) l.line l.answer
  pub resumes : LineResumes sep entry served start (kind_read (line_reading sep l.line)) l.line l.answer l.next
  pub drawers : DrawersSince sep entry (served ++ l ∷ []) l.next

-- There is a trace of the run, from the world at entry to the world at exit. `runs`: which bytes were taken, which
-- lines of them are those of the trace, and what was printed, by the status. `entry`, `lines`, `exit`: what holds of
-- the drawers at entry, of each line and of the drawers after it, and of the drawers at exit. So at each of these each
-- drawer has its steps, and what every image of a crash after them reads as, also before a line that takes it away.
-- `counts`: the replies that the cabinet failed are at most as many as the count of its faults rose by. The replies
-- that a file was absent, or longer than a file may be, and those that the entropy failed are bounded by their counts
-- in the same way. The lines that name a drawer and are answered that its disk failed, and one more if its closing
-- failed, are bounded by that disk's count of faults, until the end or until a line took the drawer out. Each refusal
-- of the closing has its drawer. Each of these holds unless the count stands at 2^64 - 1. `sweeps`: a course begins if
-- a `verify -r` on an attached drawer is answered that a part was swept and the cabinet reports its files. The lines
-- after it that are `verify` on this drawer and file then go on where those before them ended. This goes on as long as
-- each finds the drawer under the same keying, none begins anew, and no other line stores the file. Each lists just the
-- units that fail in its sectors, and all together go over each sector before the last place once. If their counts,
-- each cut to the sectors of a part, reach the end, the last place is the end.
pub record RunsLawfully (words : List (List ℕ)) (old : Whole) (status : Status) (new : Whole) : Type 0 where
  pub trace : Trace
  pub is_trace : IsTrace old.world trace new.world
  pub runs : Runs words old trace status new
  pub entry : DrawersSince trace.sep old.world [] old.world
  pub lines : EachLine (LineHolds trace.sep old.world) [] old.world trace.lines
  pub exit : EachSurvivesRun old.world trace new.world
  pub counts : CountsAll old.world trace new.world
  pub sweeps : (course : Course) → EachBegins course trace.sep old.world trace.lines
