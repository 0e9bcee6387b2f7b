-- The rows of `setkey` and `delkey`, by what the drawer does with its disk.
use Rattle.std.proofs.Common.{◌≡◌, ℕ, List, sym, subst, Bool, Option, Some, Result, ℤ, unwrap_or}
use Rattle.std.specs.Option.{option_or}
use Rattle.command_rows.specs.Rows.{Attachment, Holding, IsAttached, reach_of}
use Rattle.command_rows.specs.Vocabulary.{CabinetState, DiskState, EntropyState, KeyWords, Refusal}
use Rattle.command_rows.specs.verbs.Delkey.{DeletesRow, DelkeyRow}
use Rattle.command_rows.specs.verbs.Setkey.{SetkeyAttachedRow}

-- on an attached drawer, which stays attached as it was
pub setkey_attached_row : (line : List ℕ) (iterations : Option ℤ) (slot : Option ℕ) (fresh : KeyWords) (a a' : Attachment) (disk disk' : DiskState) (cabinet cabinet' : CabinetState) (entropy : EntropyState)
    (target : ℕ) (master : List ℕ) (answer : Result (Unit {0}) Refusal) → target ≡ unwrap_or slot a.slot → master ≡ a.keying.master → IsAttached a' ≡ IsAttached a
    → SetkeyAttachedRow line iterations target master fresh (reach_of disk (IsAttached a) cabinet entropy) answer (reach_of disk' (IsAttached a) cabinet' entropy)
    → SetkeyAttachedRow line iterations (unwrap_or slot a.slot) a.keying.master fresh (reach_of disk (IsAttached a) cabinet entropy) answer (reach_of disk' (IsAttached a') cabinet' entropy)
setkey_attached_row line iterations slot fresh a a' disk disk' cabinet cabinet' entropy target master answer t m kept h =
    subst (λ (x : Holding). SetkeyAttachedRow line iterations (unwrap_or slot a.slot) a.keying.master fresh (reach_of disk (IsAttached a) cabinet entropy) answer (reach_of disk' x cabinet' entropy)) (sym kept)
    (subst (λ (n : ℕ). SetkeyAttachedRow line iterations n a.keying.master fresh (reach_of disk (IsAttached a) cabinet entropy) answer (reach_of disk' (IsAttached a) cabinet' entropy)) t
    (subst (λ (l : List ℕ). SetkeyAttachedRow line iterations target l fresh (reach_of disk (IsAttached a) cabinet entropy) answer (reach_of disk' (IsAttached a) cabinet' entropy)) m h))

pub delkey_attached_row : (all force : Bool) (slot asked : Option ℕ) (a a' : Attachment) (disk disk' : DiskState) (cabinet : CabinetState) (entropy entropy' : EntropyState) (answer : Result (Unit {0}) Refusal)
    → asked ≡ option_or slot (Some a.slot) → IsAttached a' ≡ IsAttached a
    → DeletesRow all force asked (reach_of disk (IsAttached a) cabinet entropy) answer (reach_of disk' (IsAttached a) cabinet entropy')
    → DelkeyRow all force slot (reach_of disk (IsAttached a) cabinet entropy) answer (reach_of disk' (IsAttached a') cabinet entropy')
delkey_attached_row all force slot asked a a' disk disk' cabinet entropy entropy' answer is kept h =
    subst (λ (x : Holding). DelkeyRow all force slot (reach_of disk (IsAttached a) cabinet entropy) answer (reach_of disk' x cabinet entropy')) (sym kept)
    (subst (λ (o : Option ℕ). DeletesRow all force o (reach_of disk (IsAttached a) cabinet entropy) answer (reach_of disk' (IsAttached a) cabinet entropy')) is h)
