-- What is kept of a suspended provider: that of the provider, and it stays.
use Rattle.std.proofs.Common.{◌≡◌, ◌<◌, ◌≤◌, List, [], ◌∷◌, length, arith, refl, sym, Result, Ok, Err}
use Rattle.command_rows.specs.Rows.{Attachment, IsSuspended, Reach}
use Rattle.command_rows.specs.Vocabulary.{Attached, DiskState, Refusal, Request}
use Rattle.eli_base.specs.declared.refusals.Refusal.TheVariants as refusals
use Rattle.command_rows.specs.verbs.Suspend.{SuspendRow, Suspends, if_none_open, kept_by}
use Rattle.shelf.specs.Shelved.{attachment_of, kept_of}
use Rattle.suspend.specs.Suspension.{KeepsOfProvider, Suspension}

pub kept_of_provider : {D : Type 0} (state : D → DiskState) (queue : List Request) (p : Attached D) (s : Suspension D) → KeepsOfProvider state p s → IsSuspended (kept_of s) ≡ IsSuspended (kept_by (attachment_of queue p) (state p.disk))
kept_of_provider state queue p s keeps = cc (keeps.sectorsize, keeps.sectors, keeps.slot, keeps.readonly, keeps.mark)

pub kept_same : {D : Type 0} (old new : Suspension D) → new.slot ≡ old.slot → new.sectorsize ≡ old.sectorsize → new.sectors ≡ old.sectors → new.readonly ≡ old.readonly → new.mark ≡ old.mark → kept_of new ≡ kept_of old
kept_same old new slot sectorsize sectors readonly mark = cc (slot, sectorsize, sectors, readonly, mark)

-- ---- open requests

some_open : (queue : List Request) → 0 < length queue → if_none_open queue ≡ Err (refusals.RequestsOpen (length queue))
some_open [] some = absurd (omega (arith, some))
some_open (r ∷ queue) some = refl

none_open : (queue : List Request) → length queue ≤ 0 → if_none_open queue ≡ Ok tt
none_open [] none = refl
none_open (r ∷ queue) none = absurd (omega (arith, none))

-- requests are open, and nothing changes
pub refused_open : (a : Attachment) (old : Reach) → 0 < length a.queue → SuspendRow a old (Err (refusals.RequestsOpen (length a.queue))) old
refused_open a old some = record { given = Err (refusals.RequestsOpen (length a.queue)); middle = old; first = (sym (some_open a.queue some), refl); next = (refl, refl) }

-- no request is open, and the provider is suspended
pub suspended_so : (a : Attachment) (old : Reach) (answer : Result (Unit {0}) Refusal) (new : Reach) → length a.queue ≤ 0 → Suspends a old answer new → SuspendRow a old answer new
suspended_so a old answer new none h = record { given = Ok tt; middle = old; first = (sym (none_open a.queue none), refl); next = h }
