-- What the slot that opened makes of a disk whose metadata were checked.
use Rattle.std.proofs.Common.{◌≡◌, Some, ℕ, ◌≤◌, List, IsSome, Bool, ◌||◌, refl, sym, ap, subst, ◌∙◌}
use Rattle.eli_base.specs.declared.parameters.MasterKey.{MasterKey}
use Rattle.provider.specs.Answers.{AttachFails, IsAttached, Means, Target, target_media}
use Rattle.key_slots.specs.Slots.{OpensAsNamed, opened}
use Rattle.provider.specs.Attached.{Attached, attached_with}
use Rattle.provider.specs.Opening.{SlotOpens, SlotFails, params_media}
use Rattle.provider.specs.declared.faults.AttachFault.{AttachFault}
use Rattle.provider.specs.declared.faults.AttachFault.TheVariants as attach
use Rattle.provider.proofs.Checked.{IsChecked}

-- the disk has as many logical sectors as the parameters leave room for
pub has_sector : (t : Target) → IsChecked t.meta t.params t.disk.size → 1 ≤ params_media t.params → 1 ≤ target_media t
has_sector t is some = subst (λ (n : ℕ). 1 ≤ n) is.media some

-- no slot opened
pub none_attached : (t : Target) (by : Means) (fault : AttachFault) → IsChecked t.meta t.params t.disk.size → SlotFails t.meta t.params by.key by.named fault → AttachFails t by fault
none_attached t by (attach.TooSmall size) is h = (sym is.media ∙ h.0, h.1 ∙ is.provsize)
none_attached t by attach.WrongKey is h = (has_sector t is h.0, h.1, h.2)
none_attached t by attach.NoMemory is h = absurd h

-- a slot opened, and there was no memory
pub without_memory : (t : Target) (by : Means) (slot : ℕ) (master : List ℕ) → IsChecked t.meta t.params t.disk.size → SlotOpens t.meta (params_media t.params) by.key by.named slot master → AttachFails t by attach.NoMemory
without_memory t by slot master is h = (has_sector t is h.room, subst IsSome (sym h.opened) refl)

-- a slot opened, and the provider is attached with its key
pub made_of : {D : Type 0} (t : Target) (by : Means) (given : D) (slot : ℕ) (master : MasterKey) → IsChecked t.meta t.params t.disk.size → 1 ≤ target_media t → opened t.meta by.key by.named ≡ Some (master, slot)
    → OpensAsNamed t.meta by.key by.named slot master.bytes → IsAttached t by given (attached_with t.params master slot by.readonly given)
made_of t by given slot master is room found opens = record {
  room = room;
  disk = refl;
  opened = found;
  opens = opens;
  keying = refl;
  readonly = sym (ap (λ (r : Bool). by.readonly || r) is.readonly);
}

pub attached_so : {D : Type 0} (t : Target) (by : Means) (given : D) (slot : ℕ) (master : MasterKey) (p : Attached D) → IsChecked t.meta t.params t.disk.size → SlotOpens t.meta (params_media t.params) by.key by.named slot master.bytes
    → p ≡ attached_with t.params master slot by.readonly given → IsAttached t by given p
attached_so {D = D} t by given slot master p is h same =
    subst (λ (q : Attached D). IsAttached t by given q) (sym same) (made_of t by given slot master is (has_sector t is h.room) h.opened h.opens)
