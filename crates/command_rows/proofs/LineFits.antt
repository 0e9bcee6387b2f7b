-- That nothing refuses a line that finds what it needs.
use Rattle.std.proofs.Common.{List, Option, Some, refl, subst, ℕ, ◌≡◌, IsTrue, MatchOption}
use Rattle.eli_base.specs.declared.refusals.Refusal.TheVariants as refusals
use Rattle.reply_text.specs.Answer as answers
use Rattle.command_rows.specs.Causes.{Caused, CausedAt, CausedBy, LineHasCause, may_lack_memory}
use Rattle.command_rows.specs.Fits.{FailsNowhere, FindsAt, Fits}
use Rattle.command_rows.specs.Rows.{DrawerState, Reach, World, place_of}
use Rattle.command_rows.specs.Turn.{Turn, reach}
use Rattle.command_rows.specs.Vocabulary.{Command, Refusal, Span, bytes_at, provider_of}
use Rattle.command_rows.proofs.Fitting.{RulesOut, RulesOutTags, not_some}
use Rattle.command_rows.proofs.LineCauses.{refusal_caused}
use Rattle.command_rows.proofs.verbs.{lawful}

only_memory : (line : List ℕ) (command : Command) (old : Reach) (refusal : Refusal) (new : Reach) → RulesOut line command old → RulesOutTags command old → FailsNowhere old new → LineHasCause line command old refusal new → refusal ≡ refusals.NoMemory
only_memory line command old refusals.NotAttached new out tags fails h = absurd (not_some _ refusals.NotAttached out.gate h)
only_memory line command old refusals.StillAttached new out tags fails h = absurd (not_some _ refusals.StillAttached out.gate h)
only_memory line command old refusals.Suspended new out tags fails h = absurd (not_some _ refusals.Suspended out.gate h)
only_memory line command old refusals.NotSuspended new out tags fails h = absurd (not_some _ refusals.NotSuspended out.gate h)
only_memory line command old refusals.ReadOnly new out tags fails h = absurd (out.readonly h.0 h.1)
only_memory line command old (refusals.OutOfRange sector count there) new out tags fails h = absurd (out.range sector count there h)
only_memory line command old (refusals.BadLength given size) new out tags fails h = absurd (out.bytes given size h)
only_memory line command old (refusals.Integrity offset) new out tags fails h = absurd (out.faults offset h)
only_memory line command old refusals.NotAuthenticated new out tags fails h = absurd (tags h.0 h.1)
only_memory line command old refusals.DeviceFault new out tags fails h = absurd (fails.disk h)
only_memory line command old refusals.EntropyFault new out tags fails h = absurd (fails.entropy h)
only_memory line command old (refusals.CabinetFault word) new out tags fails h = absurd (fails.cabinet h)
only_memory line command old (refusals.FileAbsent word) new out tags fails h = absurd (out.files (refusals.FileAbsent word) new.cabinet h)
only_memory line command old (refusals.FileTooLong word limit) new out tags fails h = absurd (out.files (refusals.FileTooLong word limit) new.cabinet h)
only_memory line command old refusals.NoMemory new out tags fails h = refl
only_memory line command old refusals.QueueFull new out tags fails h = absurd (out.requests refusals.QueueFull h)
only_memory line command old (refusals.NoRequest tag) new out tags fails h = absurd (out.requests (refusals.NoRequest tag) h)
only_memory line command old (refusals.RequestNotDone tag left) new out tags fails h = absurd (out.requests (refusals.RequestNotDone tag left) h)
only_memory line command old (refusals.RequestDone tag) new out tags fails h = absurd (out.requests (refusals.RequestDone tag) h)
only_memory line command old (refusals.RequestsOpen count) new out tags fails h = absurd (out.requests (refusals.RequestsOpen count) h)
only_memory line command old refusal new out tags fails h = absurd (out.ground refusal h.1)

fits_out : (line : List ℕ) (command : Command) (old : Reach) → Fits line command old → RulesOut line command old
fits_out line command old f = (lawful command).out line old f.gate f.row

fits_cause : (line : List ℕ) (command : Command) (old : Reach) (refusal : Refusal) (new : Reach) → Fits line command old → FailsNowhere old new → LineHasCause line command old refusal new → refusal ≡ refusals.NoMemory
fits_cause line command old refusal new f fails h = only_memory line command old refusal new (fits_out line command old f) ((lawful command).tags line old f.row) fails h

caused_at : (line : List ℕ) (command : Command) (name : List ℕ) (Finds : Reach → Type 0) (refusal : Refusal) (old new : World) (f : FindsAt name Finds old new)
    → MatchOption (place_of name old.drawers) (refusal ≡ refusals.UnknownProvider) (CausedAt line command refusal old new) → LineHasCause line command (reach f.before old) refusal (reach f.after new)
caused_at line command name Finds refusal old new f h =
    let at : CausedAt line command refusal old new f.place = subst (λ (o : Option ℕ). MatchOption o (refusal ≡ refusals.UnknownProvider) (CausedAt line command refusal old new)) f.named h in
    let before : at.before ≡ f.before = cc (at.found, f.found) in
    let after : at.after ≡ f.after = cc (at.there, f.there) in
    subst (λ (d : DrawerState). LineHasCause line command (reach d old) refusal (reach f.after new)) before
    (subst (λ (d : DrawerState). LineHasCause line command (reach at.before old) refusal (reach d new)) after at.cause)

pub fits_unrefused : (line : List ℕ) (command : Command) (prov : Span) (refusal : Refusal) (old new : World) → provider_of command ≡ Some prov → FindsAt (bytes_at line prov) (Fits line command) old new → Caused line command refusal old new
    → refusal ≡ refusals.NoMemory
fits_unrefused line command prov refusal old new names f h =
    let caused : CausedBy (Some prov) line command refusal old new = subst (λ (o : Option Span). CausedBy o line command refusal old new) names h in
    fits_cause line command (reach f.before old) refusal (reach f.after new) f.finds f.unfailed (caused_at line command (bytes_at line prov) (Fits line command) refusal old new f caused)

pub fits_refused : (line : List ℕ) (command : Command) (prov : Span) (refusal : Refusal) (old new : World) → provider_of command ≡ Some prov → FindsAt (bytes_at line prov) (Fits line command) old new
    → Turn line command old (answers.Refused refusal) new → (refusal ≡ refusals.NoMemory) × IsTrue (may_lack_memory command)
fits_refused line command prov refusal old new names f h =
    let caused : CausedBy (Some prov) line command refusal old new = subst (λ (o : Option Span). CausedBy o line command refusal old new) names (refusal_caused line command old refusal new h) in
    let cause = caused_at line command (bytes_at line prov) (Fits line command) refusal old new f caused in
    let is : refusal ≡ refusals.NoMemory = fits_cause line command (reach f.before old) refusal (reach f.after new) f.finds f.unfailed cause in
    (is, subst (λ (r : Refusal). LineHasCause line command (reach f.before old) r (reach f.after new)) is cause)
