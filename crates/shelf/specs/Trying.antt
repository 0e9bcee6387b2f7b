-- A key that is tried on a provider.
use Rattle.std.specs.Prelude.{◌≡◌, ℕ, Bool, Option, Result, Ok, Err}
use Rattle.command_rows.specs.Rows.{Attachment, tried}
use Rattle.command_rows.specs.Vocabulary.{Refusal, settings_of, size_matches, slot_matches, supported}
use Rattle.eli_base.specs.declared.refusals.Refusal.TheVariants as refusals
use Rattle.provider.specs.declared.faults.AttachFault.{AttachFault}
use Rattle.provider.specs.declared.faults.AttachFault.TheVariants as attach
use Rattle.shelf.specs.declared.trying.Trial.{Trial}

-- with what the provider would be attached, or why it isn't
abbrev pub tried_in : Option ℕ → Bool → Trial → Result Attachment Refusal
tried_in slot readonly t = tried t.meta (settings_of t.params) slot readonly (Ok t.key)

abbrev pub tried_by : Option ℕ → Bool → Result Trial Refusal → Result Attachment Refusal
tried_by slot readonly (Ok t) = tried_in slot readonly t
tried_by slot readonly (Err refusal) = Err refusal

-- the metadata are admitted for an image of so many device sectors and for this slot
pub record IsTrial (sectors : ℕ) (slot : Option ℕ) (t : Trial) : Type 0 where
  pub checked : supported t.meta ≡ Ok (settings_of t.params)
  pub size : size_matches t.meta sectors ≡ Ok tt
  pub named : slot_matches t.meta slot ≡ Ok tt

-- the refusal of a fault of attaching
abbrev pub attach_refusal : AttachFault → Refusal
attach_refusal (attach.TooSmall size) = refusals.TooSmall size
attach_refusal attach.WrongKey = refusals.WrongKey
attach_refusal attach.NoMemory = refusals.NoMemory
