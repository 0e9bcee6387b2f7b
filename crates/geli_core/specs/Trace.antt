-- A run as a value: the lines that were served, the replies to them, and the worlds between them.
use Rattle.std.specs.Prelude.{◌≡◌, ℕ, List, [], ◌∷◌, ◌++◌, map, Option, Some, None}
use Rattle.command_rows.specs.Rows.{Answer, World}
use Rattle.geli_core.specs.Run.{ServesLine}
use Rattle.geli_core.specs.Vocabulary.{ClosesWorld, Sep}

-- a line that was served, the reply to it, and the world after it
pub record ServedLine : Type 0 where
  pub line : List ℕ
  pub answer : Option Answer
  pub next : World

abbrev pub lines_of : List ServedLine → List (List ℕ)
lines_of lines = map (λ (l : ServedLine). l.line) lines

abbrev pub answers_of : List ServedLine → List (Option Answer)
answers_of lines = map (λ (l : ServedLine). l.answer) lines

-- the world after some lines
abbrev pub world_behind : World → List ServedLine → World
world_behind entry [] = entry
world_behind entry (l ∷ lines) = world_behind l.next lines

-- each line is served in the world after those before it
abbrev pub EachServed : Sep → World → List ServedLine → Type 0
EachServed sep start [] = Unit {0}
EachServed sep start (l ∷ lines) = ServesLine sep l.line start l.answer l.next × EachServed sep l.next lines

-- lines are served from the one world to the other
abbrev pub Run : Sep → World → List ServedLine → World → Type 0
Run sep old lines new = EachServed sep old lines × (new ≡ world_behind old lines)

-- this holds of each line, after those that were served before it and in the world there
abbrev pub EachLine : (List ServedLine → World → ServedLine → Type 0) → List ServedLine → World → List ServedLine → Type 0
EachLine P served start [] = Unit {0}
EachLine P served start (l ∷ lines) = P served start l × EachLine P (served ++ l ∷ []) l.next lines

-- how lines are cut into words, the lines, and how many drawers failed to close; if nothing was done, none were closed
pub record Trace : Type 0 where
  pub sep : Sep
  pub lines : List ServedLine
  pub closing : Option ℕ

-- the drawers were closed, and so many failed in that; or nothing was done
abbrev pub ClosesBy : Option ℕ → World → World → Type 0
ClosesBy None behind exit = exit ≡ behind
ClosesBy (Some failed) behind exit = ClosesWorld behind failed exit

-- each line was served, from the world at entry on, and the drawers were closed after them, up to the world at exit
pub record IsTrace (entry : World) (trace : Trace) (exit : World) : Type 0 where
  pub served : EachServed trace.sep entry trace.lines
  pub closes : ClosesBy trace.closing (world_behind entry trace.lines) exit

-- no line was served, and no drawer closed
abbrev pub IsNothing : Trace → Type 0
IsNothing trace = (trace.lines ≡ []) × (trace.closing ≡ None)
