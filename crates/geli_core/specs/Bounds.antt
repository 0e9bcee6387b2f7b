-- How many refusals for a failure a run may print: at most as many as the count of such failures rose by.
use Rattle.std.specs.Prelude.{◌≡◌, ◌⊎◌, ℕ, ◌+◌, ◌-◌, ◌^◌, ◌<◌, ◌≤◌, ◌==◌, ◌&&◌, not, if◌then◌else◌, Bool, true, false, List, [], ◌∷◌, ◌++◌, Option, Some, IfSome, Result, Ok, slice_get}
use Rattle.command_rows.specs.Rows.{Answer, DrawerState, World, is_idle, place_of}
use Rattle.command_rows.specs.Vocabulary.{Command, Rose, passphrase_limit}
use Rattle.eli_base.specs.declared.refusals.Refusal.TheVariants as refusals
use Rattle.reply_text.specs.Answer as answers
use Rattle.geli_core.specs.Histories.{ejected, names}
use Rattle.geli_core.specs.Trace.{ServedLine, Trace, world_behind}
use Rattle.geli_core.specs.Vocabulary.{Sep, Usage, takes_out}

-- the drawer was attached or suspended, and its disk's count of faults rose, or stands at its last value
pub record FailedHeld (old new : DrawerState) : Type 0 where
  pub held : is_idle old.holding ≡ false
  pub rose : Rose old.disk.faults new.disk.faults

-- one drawer more failed than among those after it, since this one failed
pub record FailedToo (Behind : ℕ → Type 0) (many : ℕ) (old new : DrawerState) : Type 0 where
  pub behind : ℕ
  pub one_more : many ≡ 1 + behind
  pub failed : FailedHeld old new
  pub others : Behind behind

-- so many of these drawers, before and after, failed, each counted once
abbrev pub ManyFailed : ℕ → List DrawerState → List DrawerState → Type 0
ManyFailed many [] [] = many ≡ 0
ManyFailed many (old ∷ olds) (new ∷ news) = ManyFailed many olds news ⊎ FailedToo (λ behind. ManyFailed behind olds news) many old new
ManyFailed many [] (new ∷ news) = ⊥
ManyFailed many (old ∷ olds) [] = ⊥

-- as many of the drawers that were there after the lines failed as the trace says
abbrev pub ClosesWithFailures : World → Trace → World → Type 0
ClosesWithFailures entry trace exit = IfSome trace.closing (λ failed. ManyFailed failed (world_behind entry trace.lines).drawers exit.drawers)

-- ---- the replies to lines

-- whether a line is answered that a disk failed
abbrev pub is_device_fault : Option Answer → Bool
is_device_fault (Some (answers.Refused refusals.DeviceFault)) = true
is_device_fault answer = false

-- how many lines that name a drawer are answered with a failure of a disk
abbrev pub device_faults : Sep → List ℕ → List ServedLine → ℕ
device_faults sep name [] = 0
device_faults sep name (l ∷ lines) = (if names sep l.line name && is_device_fault l.answer then 1 else 0) + device_faults sep name lines

-- a line takes no drawer out
abbrev pub KeepsAll : Result (Option Command) Usage → Type 0
KeepsAll (Ok (Some command)) = takes_out command ≡ false
KeepsAll read = Unit {0}

-- the drawer stands where it stood, and its disk's count of faults rose by at least so many, unless it stands at its
-- last value
pub record RisesBy (many : ℕ) (before : DrawerState) (place : ℕ) (new : World) : Type 0 where
  pub after : DrawerState
  pub there : slice_get new.drawers place ≡ Some after
  pub later : before.disk.faults ≤ after.disk.faults
  pub bound : after.disk.faults < 2 ^ 64 - 1 → before.disk.faults + many ≤ after.disk.faults

-- ---- drawers that lines may take out

-- the drawer still has its name, wherever it stands, and its disk's count of faults rose by at least so many
pub record RisesNamed (many : ℕ) (before : DrawerState) (name : List ℕ) (new : World) : Type 0 where
  pub place : ℕ
  pub named : place_of name new.drawers ≡ Some place
  pub rises : RisesBy many before place new

-- one of the lines took the drawer out, and before that line its disk's count of faults rose by at least so many
pub record RisesUntilOut (sep : Sep) (entry : World) (lines : List ServedLine) (many : ℕ) (before : DrawerState) (name : List ℕ) : Type 0 where
  pub served : List ServedLine
  pub out : ServedLine
  pub behind : List ServedLine
  pub are : lines ≡ served ++ out ∷ behind
  pub took_out : ejected sep out name ≡ true
  pub rises : RisesNamed many before name (world_behind entry served)

-- ---- the cabinet and the entropy

-- whether a line is answered that the cabinet failed
abbrev pub is_cabinet_fault : Option Answer → Bool
is_cabinet_fault (Some (answers.Refused (refusals.CabinetFault word))) = true
is_cabinet_fault answer = false

-- whether a line is answered that the entropy failed
abbrev pub is_entropy_fault : Option Answer → Bool
is_entropy_fault (Some (answers.Refused refusals.EntropyFault)) = true
is_entropy_fault answer = false

-- whether a line is answered that a file was absent, or longer than a file may be; passphrases have a limit of their
-- own
abbrev pub is_miss : Option Answer → Bool
is_miss (Some (answers.Refused (refusals.FileAbsent word))) = true
is_miss (Some (answers.Refused (refusals.FileTooLong word limit))) = not (limit == passphrase_limit)
is_miss answer = false

-- how many replies are of this kind
abbrev pub how_many : (Option Answer → Bool) → List (Option Answer) → ℕ
how_many is [] = 0
how_many is (answer ∷ answers) = (if is answer then 1 else 0) + how_many is answers

-- a count didn't fall, and rose by at least so many, unless it stands at its last value
pub record RoseBy (many before now : ℕ) : Type 0 where
  pub later : before ≤ now
  pub bound : now < 2 ^ 64 - 1 → before + many ≤ now

-- the counts of the cabinet and the entropy each rose by at least as many as there are replies for their failures
pub record CountsOutside (answers : List (Option Answer)) (old new : World) : Type 0 where
  pub cabinet : RoseBy (how_many is_cabinet_fault answers) old.cabinet.faults new.cabinet.faults
  pub misses : RoseBy (how_many is_miss answers) old.cabinet.misses new.cabinet.misses
  pub entropy : RoseBy (how_many is_entropy_fault answers) old.entropy.faults new.entropy.faults
