-- What the lines of a run do with suspended drawers.
use Rattle.std.proofs.Common.{◌≡◌, ◌∙◌, ◌⊎◌, inl, inr, ℕ, List, [], ◌∷◌, ◌++◌, refl, ap, sym, subst, append_assoc, Option, None, Some, Result, Ok, Err, slice_get}
use Rattle.block_traits.proofs.Logs.{Logs-nothing}
use Rattle.command_rows.specs.Rows.{Answer, Attachment, DrawerState, Holding, IsAmong, IsSuspended, Kept, Reach, World, place_of}
use Rattle.command_rows.specs.Vocabulary.{Command, KeyWords, Logs, Refusal, Span, bytes_at, sha256}
use Rattle.command_words.specs.declared.commands.Command.TheVariants as commands
use Rattle.suspend.proofs.Resumed.{same_or_collision}
use Rattle.reply_text.specs.Answer as answers
use Rattle.command_rows.specs.Becoming as becoming
use Rattle.command_rows.specs.verbs.Attach.{OpensWith}
use Rattle.command_rows.specs.verbs.Resume.{ResumeRow}
use Rattle.command_rows.proofs.Becoming.{Resumes, resume_done}
use Rattle.command_rows.proofs.Gate.{by_passed_gate, with_suspended}
use Rattle.command_rows.proofs.Turns.{by_each_turn}
use Rattle.command_rows.proofs.Untouched.{get-set, get-set_other}
use Rattle.command_rows.proofs.LineBecomes.{serves_becomes}
use Rattle.geli_core.specs.Run.{ServesLine, ServesReading}
use Rattle.geli_core.specs.Suspensions.{AreSuspended, HadMaster, LineResumes, OpensSameMaster, StaysSuspendedThrough, SuspendedBefore, SuspendedSince}
use Rattle.geli_core.specs.Kinds.{kind_read}
use Rattle.geli_core.specs.Trace.{ServedLine, world_behind}
use Rattle.geli_core.specs.Vocabulary.{Becomes, BecomesBy, ChangesAt, Replies, Sep, Serves, TakesOutDrawer, Turn, Usage, done_or, line_reading, reach}
use Rattle.geli_core.proofs.Drawn.{here_or, same_some}
use Rattle.geli_core.proofs.Keyings.{among_removed}
use Rattle.geli_core.proofs.ReadsBack.{turned}
use Rattle.geli_core.proofs.SlotKeys.{tried_opens}

-- ---- a drawer after a line

-- the line names the drawer, and what the drawer does with its disk came about by it
record IsNamed (sep : Sep) (line : List ℕ) (start next : World) (before drawer : DrawerState) : Type 0 where
  command : Command
  asked : line_reading sep line ≡ Ok (Some command)
  said : Answer
  becomes : Becomes line command (reach before start) said (reach drawer next)

-- the drawer was as it is, or the line names it
record Behind (sep : Sep) (line : List ℕ) (start next : World) (drawer : DrawerState) : Type 0 where
  before : DrawerState
  was : IsAmong start.drawers before
  name : drawer.name ≡ before.name
  how : (drawer ≡ before) ⊎ IsNamed sep line start next before drawer

as_it_was : (sep : Sep) (line : List ℕ) (start next : World) (drawer : DrawerState) → IsAmong start.drawers drawer → Behind sep line start next drawer
as_it_was sep line start next drawer was = record { before = drawer; was = was; name = refl; how = inl refl }

all_as_they_were : (sep : Sep) (line : List ℕ) (start next : World) (drawer : DrawerState) → next ≡ start → IsAmong next.drawers drawer → Behind sep line start next drawer
all_as_they_were sep line start next drawer is there = as_it_was sep line start next drawer (subst (λ (w : World). IsAmong w.drawers drawer) is there)

put_behind : (sep : Sep) (line : List ℕ) (command : Command) (said : Answer) (start next : World) (drawer : DrawerState) (n place : ℕ) → line_reading sep line ≡ Ok (Some command) → slice_get next.drawers n ≡ Some drawer
    → ChangesAt (Serves line command) start said next place → (place ≡ n) ⊎ (place ≡ n → ⊥) → Behind sep line start next drawer
put_behind sep line command said start next drawer n place asked there h (inl here) =
    let put : slice_get next.drawers place ≡ Some h.after = rw h.others (get-set start.drawers place h.before h.after h.found) in
    let same : h.after ≡ drawer = same_some h.after drawer (sym put ∙ ap (slice_get next.drawers) here ∙ there) in
    record {
      before = h.before;
      was = (place, h.found);
      name = ap (λ (d : DrawerState). d.name) (sym same) ∙ h.name;
      how = inr (record {
        command = command;
        asked = asked;
        said = said;
        becomes = subst (λ (d : DrawerState). Becomes line command (reach h.before start) said (reach d next)) same (serves_becomes line command (reach h.before start) said (reach h.after next) h.step);
      });
    }
put_behind sep line command said start next drawer n place asked there h (inr other) =
    as_it_was sep line start next drawer (n, sym (ap (λ (l : List DrawerState). slice_get l n) h.others ∙ get-set_other start.drawers place n h.after other) ∙ there)

left_behind : (sep : Sep) (line : List ℕ) (said : Answer) (start next : World) (drawer : DrawerState) (place : ℕ) → TakesOutDrawer start said next place → IsAmong next.drawers drawer → Behind sep line start next drawer
left_behind sep line said start next drawer place h there =
    as_it_was sep line start next drawer (among_removed start.drawers place drawer (there.0, ap (λ (w : World). slice_get w.drawers there.0) (sym h.left) ∙ there.1))

turn_behind : (sep : Sep) (line : List ℕ) (command : Command) (said : Answer) (start next : World) (drawer : DrawerState) → line_reading sep line ≡ Ok (Some command) → Turn line command start said next → IsAmong next.drawers drawer
    → Behind sep line start next drawer
turn_behind sep line command said start next drawer asked h there =
    by_each_turn line command start said next (Behind sep line start next drawer) (λ lists. all_as_they_were sep line start next drawer lists.unchanged there) (λ unknown. all_as_they_were sep line start next drawer unknown.unchanged there)
    (λ place left. left_behind sep line said start next drawer place left there)
    (λ place changed. put_behind sep line command said start next drawer there.0 place asked there.1 changed (here_or place there.0)) h

read_behind : (sep : Sep) (line : List ℕ) (read : Result (Option Command) Usage) (start : World) (answer : Option Answer) (next : World) (drawer : DrawerState) → line_reading sep line ≡ read → ServesReading read line start answer next
    → IsAmong next.drawers drawer → Behind sep line start next drawer
read_behind sep line (Err usage) start answer next drawer asked h there = all_as_they_were sep line start next drawer h.1 there
read_behind sep line (Ok None) start answer next drawer asked h there = all_as_they_were sep line start next drawer h.1 there
read_behind sep line (Ok (Some command)) start None next drawer asked h there = absurd h
read_behind sep line (Ok (Some command)) start (Some said) next drawer asked h there = turn_behind sep line command said start next drawer asked h there

behind : (sep : Sep) (line : List ℕ) (start : World) (answer : Option Answer) (next : World) (drawer : DrawerState) → ServesLine sep line start answer next → IsAmong next.drawers drawer → Behind sep line start next drawer
behind sep line start answer next drawer h there = read_behind sep line (line_reading sep line) start answer next drawer refl h there

-- ---- the drawer stays suspended, one line more

stays_more : (kept : Kept) (lines : List ServedLine) (l : ServedLine) (old before drawer : DrawerState) → StaysSuspendedThrough kept lines old before → IsAmong l.next.drawers drawer → drawer.name ≡ before.name → Logs [] before.disk drawer.disk
    → drawer.holding ≡ IsSuspended kept → StaysSuspendedThrough kept (lines ++ l ∷ []) old drawer
stays_more kept [] l old before drawer h there name logs is =
    (drawer, there, name ∙ ap (λ (d : DrawerState). d.name) h.0, h.1, subst (λ (d : DrawerState). Logs [] d.disk drawer.disk) h.0 logs, (refl, is))
stays_more kept (first ∷ lines) l old before drawer h there name logs is = (h.0, h.1, h.2, h.3, h.4, stays_more kept lines l h.0 before drawer h.5 there name logs is)

-- the drawer is suspended since entry, or since a line
abbrev Came : Sep → World → List ServedLine → DrawerState → Kept → Type 0
Came sep entry served drawer kept = SuspendedBefore entry served drawer kept ⊎ ((a : Attachment) × SuspendedSince sep entry served drawer kept a)

came_more : (sep : Sep) (entry : World) (served : List ServedLine) (l : ServedLine) (before drawer : DrawerState) (kept : Kept) → Came sep entry served before kept → IsAmong l.next.drawers drawer → drawer.name ≡ before.name → Logs [] before.disk drawer.disk
    → drawer.holding ≡ IsSuspended kept → Came sep entry (served ++ l ∷ []) drawer kept
came_more sep entry served l before drawer kept (inl b) there name logs is =
    inl (record { before = b.before; there = b.there; stays = stays_more kept served l b.before before drawer b.stays there name logs is })
came_more sep entry served l before drawer kept (inr (a, s)) there name logs is = inr (
  a,
  record {
    earlier = s.earlier;
    suspend = s.suspend;
    later = s.later ++ l ∷ [];
    are = ap (λ (ls : List ServedLine). ls ++ l ∷ []) s.are ∙ append_assoc s.earlier (s.suspend ∷ s.later) (l ∷ []);
    prov = s.prov;
    asked = s.asked;
    before = s.before;
    there = s.there;
    attached = s.attached;
    after = s.after;
    among = s.among;
    name = s.name;
    flushes = s.flushes;
    keeps = s.keeps;
    stays = stays_more kept s.later l s.after before drawer s.stays there name logs is;
  },
)

-- a `suspend` that came just now
came_now : (sep : Sep) (entry : World) (served : List ServedLine) (start : World) (l : ServedLine) (before drawer : DrawerState) (kept : Kept) (command : Command) → start ≡ world_behind entry served → IsAmong start.drawers before
    → line_reading sep l.line ≡ Ok (Some command) → IsAmong l.next.drawers drawer → drawer.name ≡ before.name → drawer.holding ≡ IsSuspended kept → becoming.IsSuspendedBy command kept (reach before start) (reach drawer l.next)
    → Came sep entry (served ++ l ∷ []) drawer kept
came_now sep entry served start l before drawer kept command behind was asked there name is h = inr (
  h.a,
  record {
    earlier = served;
    suspend = l;
    later = [];
    are = refl;
    prov = h.prov;
    asked = asked ∙ ap (λ (c : Command). Ok (Some c)) h.said;
    before = before;
    there = subst (λ (w : World). IsAmong w.drawers before) behind was;
    attached = h.was;
    after = drawer;
    among = there;
    name = name;
    flushes = h.flushes;
    keeps = h.keeps;
    stays = (refl, is);
  },
)

named_came : (sep : Sep) (entry : World) (served : List ServedLine) (start : World) (l : ServedLine) (before drawer : DrawerState) (kept : Kept) (command : Command) → start ≡ world_behind entry served → IsAmong start.drawers before
    → line_reading sep l.line ≡ Ok (Some command) → IsAmong l.next.drawers drawer → drawer.name ≡ before.name → drawer.holding ≡ IsSuspended kept → AreSuspended sep entry served start
    → becoming.StaysSuspended kept (reach before start) (reach drawer l.next) ⊎ becoming.IsSuspendedBy command kept (reach before start) (reach drawer l.next) → Came sep entry (served ++ l ∷ []) drawer kept
named_came sep entry served start l before drawer kept command behind was asked there name is all (inl h) = came_more sep entry served l before drawer kept (all before kept was h.was) there name h.logs is
named_came sep entry served start l before drawer kept command behind was asked there name is all (inr h) = came_now sep entry served start l before drawer kept command behind was asked there name is h

line_came : (sep : Sep) (entry : World) (served : List ServedLine) (start : World) (l : ServedLine) (before drawer : DrawerState) (kept : Kept) → start ≡ world_behind entry served → IsAmong start.drawers before → IsAmong l.next.drawers drawer
    → drawer.name ≡ before.name → drawer.holding ≡ IsSuspended kept → AreSuspended sep entry served start → (drawer ≡ before) ⊎ IsNamed sep l.line start l.next before drawer → Came sep entry (served ++ l ∷ []) drawer kept
line_came sep entry served start l before drawer kept reached was there name is all (inl same) =
    came_more sep entry served l before drawer kept (all before kept was (ap (λ (d : DrawerState). d.holding) (sym same) ∙ is)) there name
    (subst (λ (d : DrawerState). Logs [] before.disk d.disk) (sym same) (Logs-nothing before.disk)) is
line_came sep entry served start l before drawer kept reached was there name is all (inr h) =
    named_came sep entry served start l before drawer kept h.command reached was h.asked there name is all
    (subst (λ (x : Holding). BecomesBy x l.line h.command (reach before start) h.said (reach drawer l.next)) is h.becomes)

pub line_suspends : (sep : Sep) (entry : World) (served : List ServedLine) (start : World) (l : ServedLine) → start ≡ world_behind entry served → ServesLine sep l.line start l.answer l.next → AreSuspended sep entry served start
    → AreSuspended sep entry (served ++ l ∷ []) l.next
line_suspends sep entry served start l reached serves all drawer kept there is =
    let b = behind sep l.line start l.answer l.next drawer serves there in
    line_came sep entry served start l b.before drawer kept reached b.was there b.name is all b.how

pub entry_suspends : (sep : Sep) (entry : World) → AreSuspended sep entry [] entry
entry_suspends sep entry drawer kept there is = inl (record { before = drawer; there = there; stays = (refl, is) })

-- ---- `resume`

opens_slot : (line : List ℕ) (words : KeyWords) (kept : Kept) (old : Reach) (a : Attachment) → OpensWith line None kept.readonly words old a → OpensSameMaster line words kept old a
opens_slot line words kept old a found =
    let by = tried_opens found.m found.settings kept.readonly _ a found.opens in
    record { found = found; key = by.key; derived = by.is; opens = by.opens }

had_master : (sep : Sep) (entry : World) (served : List ServedLine) (drawer : DrawerState) (kept : Kept) (master : List ℕ) → sha256 master ≡ kept.mark → Came sep entry served drawer kept
    → SuspendedBefore entry served drawer kept ⊎ HadMaster sep entry served drawer kept master
had_master sep entry served drawer kept master digest (inl b) = inl b
had_master sep entry served drawer kept master digest (inr (a, s)) =
    inr (record { a = a; since = s; same = same_or_collision a.keying.master master kept.mark (ap (λ (k : Kept). k.mark) s.keeps) digest })

done_is : (answer : Result (Unit {0}) Refusal) → answers.Done ≡ done_or answer → answer ≡ Ok tt
done_is (Ok done) is = refl
done_is (Err refusal) is = absurd (let none : ⊥ = cc is in none)

resumed : (line : List ℕ) (prov : Span) (words : KeyWords) (old new : Reach) → Serves line (commands.Resume prov words) old answers.Done new → (kept : Kept) × (old.holding ≡ IsSuspended kept) × Resumes line words kept old new
resumed line prov words old new h =
    by_passed_gate line (commands.Resume prov words) old answers.Done new ((kept : Kept) × (old.holding ≡ IsSuspended kept) × Resumes line words kept old new)
    (λ gate row. with_suspended old.holding (λ kept. Replies done_or (ResumeRow line words kept) old answers.Done new) ((kept : Kept) × (old.holding ≡ IsSuspended kept) × Resumes line words kept old new)
    (λ kept is replies. (kept, is, resume_done line words kept old new (subst (λ (r : Result (Unit {0}) Refusal). ResumeRow line words kept old r new) (done_is replies.answer replies.replied) replies.row))) row)
    (λ refusal is refused. absurd (let none : ⊥ = cc (refused.refused) in none)) h

pub resumes_line : (sep : Sep) (entry : World) (served : List ServedLine) (start : World) (read : Result (Option Command) Usage) (line : List ℕ) (answer : Option Answer) (next : World)
    → ServesReading read line start answer next → AreSuspended sep entry served start → LineResumes sep entry served start (kind_read read) line answer next
resumes_line sep entry served start (Ok (Some (commands.Resume prov words))) line (Some answers.Done) next h all =
    let t = turned line (commands.Resume prov words) (bytes_at line prov) start answers.Done next (place_of (bytes_at line prov) start.drawers) refl h (λ u. (let no : ⊥ = cc (u.refused) in no)) in
    let r = resumed line prov words (reach t.2.before start) (reach t.2.after next) t.2.step in
    record {
      place = t.0;
      named = t.1;
      before = t.2.before;
      found = t.2.found;
      kept = r.0;
      suspended = r.1;
      after = t.2.after;
      there = ap (λ (l : List DrawerState). slice_get l t.0) t.2.others ∙ get-set start.drawers t.0 t.2.before t.2.after t.2.found;
      a = r.2.a;
      attached = r.2.attached;
      opens = opens_slot line words r.0 (reach t.2.before start) r.2.a r.2.opens;
      digest = r.2.digest;
      same = had_master sep entry served t.2.before r.0 r.2.a.keying.master r.2.digest (all t.2.before r.0 (t.0, t.2.found) r.1);
    }
resumes_line sep entry served start read line answer next h all = tt
