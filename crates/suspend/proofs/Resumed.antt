-- Digests that were compared, and the master keys that have them.
use Rattle.std.proofs.Common.{◌≡◌, ◌≢◌, ◌⊎◌, inl, inr, ℕ, Bool, true, false, not, List, Option, Some, None, bytes_eq, true≢false, refl, sym, ap, subst, ◌∙◌}
use Rattle.std.proofs.lemmas.Slice.Eq.{bytes_eq-Decides}
use Rattle.std.proofs.lemmas.Bool.{cases_Bool}
use Rattle.eli_metadata.specs.declared.metadata.Metadata.{Metadata}
use Rattle.key_slots.specs.Slots.{Opens, OpensAsNamed}
use Rattle.eli_base.specs.declared.parameters.MasterKey.{MasterKey}
use Rattle.provider.specs.Answers.{Means, Target}
use Rattle.provider.specs.Attached.{Attached, attached_with}
use Rattle.provider.specs.Opening.{SlotFails, SlotOpens, params_media}
use Rattle.provider.specs.declared.faults.AttachFault.{AttachFault}
use Rattle.provider.specs.declared.faults.AttachFault.TheVariants as attach
use Rattle.provider.proofs.Checked.{IsChecked}
use Rattle.provider.proofs.OpenedSlots.{has_sector, made_of, none_attached}
use Rattle.sha2.specs.Sha256.{sha256}
use Rattle.suspend.specs.Refusals.{resume_fault_of}
use Rattle.suspend.specs.Resuming.{AreCollision, IsResumed, OpensTo, ResumeFails}
use Rattle.suspend.specs.Suspension.{Suspension}

-- ---- two digests that were compared

pub bytes_eq-false : (xs ys : List ℕ) (r : Bool) → r ≡ not (bytes_eq xs ys) → r ≡ true → xs ≢ ys
bytes_eq-false xs ys r is said same = true≢false (sym said ∙ is ∙ ap not ((bytes_eq-Decides xs ys).1 same))

is_true : (b : Bool) → not b ≡ false → b ≡ true
is_true true h = refl
is_true false h = absurd (true≢false h)

pub same_so : (xs ys : List ℕ) (r : Bool) → r ≡ not (bytes_eq xs ys) → r ≡ false → xs ≡ ys
same_so xs ys r is said = (bytes_eq-Decides xs ys).0 (is_true (bytes_eq xs ys) (sym is ∙ said))

-- ---- the slot that opened

-- the slot opened for the disk
pub opens_to : (t : Target) (by : Means) (slot : ℕ) (master : List ℕ) → IsChecked t.meta t.params t.disk.size → SlotOpens t.meta (params_media t.params) by.key by.named slot master → OpensTo t by slot master
opens_to t by slot master is h = record { room = has_sector t is h.room; opened = h.opened; opens = h.opens }

-- no slot opened
pub not_resumed : (t : Target) (by : Means) (mark : List ℕ) (fault : AttachFault) → IsChecked t.meta t.params t.disk.size → SlotFails t.meta t.params by.key by.named fault → ResumeFails t by mark (resume_fault_of fault)
not_resumed t by mark (attach.TooSmall size) is h = none_attached t by (attach.TooSmall size) is h
not_resumed t by mark attach.WrongKey is h = none_attached t by attach.WrongKey is h
not_resumed t by mark attach.NoMemory is h = absurd h

-- the disk came back to what was kept of the provider
pub back_so : {D : Type 0} (new old : D) (sectorsize sectors slot : ℕ) (readonly : Bool) (mark : List ℕ) (s : Suspension D) → new ≡ old
    → record { disk = old; sectorsize = sectorsize; sectors = sectors; slot = slot; readonly = readonly; mark = mark } ≡ s
    → record { disk = new; sectorsize = sectorsize; sectors = sectors; slot = slot; readonly = readonly; mark = mark } ≡ s
back_so {D = D} new old sectorsize sectors slot readonly mark s same is =
    ap (λ (d : D). let kept : Suspension D = record { disk = d; sectorsize = sectorsize; sectors = sectors; slot = slot; readonly = readonly; mark = mark } in kept) same ∙ is

-- the disk's provider is attached again
made_again : {D : Type 0} (t : Target) (by : Means) (s : Suspension D) (slot : ℕ) (master : MasterKey) → IsChecked t.meta t.params t.disk.size → OpensTo t by slot master.bytes → sha256 master.bytes ≡ s.mark
    → IsResumed t by s (attached_with t.params master slot by.readonly s.disk)
made_again t by s slot master is opens same =
    record { attached = made_of t by s.disk slot master is opens.room opens.opened opens.opens; same = same }

pub resumed_so : {D : Type 0} (t : Target) (by : Means) (s : Suspension D) (slot : ℕ) (master : MasterKey) (p : Attached D) → IsChecked t.meta t.params t.disk.size → OpensTo t by slot master.bytes → sha256 master.bytes ≡ s.mark
    → p ≡ attached_with t.params master slot by.readonly s.disk → IsResumed t by s p
resumed_so {D = D} t by s slot master p is opens same here = subst (λ (q : Attached D). IsResumed t by s q) (sym here) (made_again t by s slot master is opens same)

-- ---- the master key that opened

-- the slot that opened gives the master key, whether it was named or not
pub opens_so : (m : Metadata) (u : List ℕ) (named : Option ℕ) (s : ℕ) (master : List ℕ) → OpensAsNamed m u named s master → Opens m u s master
opens_so m u None s master opens = opens.opens
opens_so m u (Some slot) s master opens = opens.1

-- two master keys with one digest are the same, or a collision
pub same_or_collision : (master other mark : List ℕ) → mark ≡ sha256 master → sha256 other ≡ mark → (other ≡ master) ⊎ AreCollision master other
same_or_collision master other mark kept opened = elim (cases_Bool (bytes_eq other master)) [
  | inl same ↦ inl ((bytes_eq-Decides other master).0 same)
  | inr another ↦ inr (record {
    differ = λ e. true≢false (sym ((bytes_eq-Decides other master).1 (sym e)) ∙ another);
    same = sym kept ∙ sym opened;
  })
]
