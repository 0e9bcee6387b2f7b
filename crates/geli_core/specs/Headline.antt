-- What is read from an image that a crash left, once it is attached again.
use Rattle.std.specs.Prelude.{◌≡◌, ℕ, zero, suc, ◌+◌, ◌<◌, Bool, List, [], ◌∷◌, take, None, Result, Ok, Err}
use Rattle.block_traits.specs.Crash.{IsAltered, IsImage, IsTorn, IsUnsettled}
use Rattle.command_rows.specs.Vocabulary.{Attached, Content, DiskState, IsKeying, Keying, Metadata, Rose, joined}
use Rattle.eli_base.specs.declared.parameters.Params.{Params}
use Rattle.provider.specs.declared.faults.AttachFault.{AttachFault}
use Rattle.provider.specs.declared.faults.AttachFault.TheVariants as attach
use Rattle.sector_runs.specs.declared.faults.ReadFault.{ReadFault}
use Rattle.sector_runs.specs.declared.faults.ReadFault.TheVariants as read
use Rattle.provider_readings.specs.Attaching.{HasImage, IsAttachedOn, IsOpenedBy}
use Rattle.readings.specs.Ever.{ever}
use Rattle.readings.specs.Read.{read_sector}
use Rattle.geli_core.specs.Vocabulary.{AttachAnswers, ReadAnswers, ReadsWithCauses, SectorRequest, Step, cell, chosen, moment, request}

-- ---- what a read returns

-- this holds of each of so many logical sectors and what it reads as
abbrev pub EachReads : (ℕ → Result (List ℕ) ℕ → Type 0) → ℕ → ℕ → List (Result (List ℕ) ℕ) → Type 0
EachReads P sector zero [] = Unit {0}
EachReads P sector (suc count) (reading ∷ readings) = P sector reading × EachReads P (sector + 1) count readings
EachReads P sector zero (reading ∷ readings) = ⊥
EachReads P sector (suc count) [] = ⊥

-- so many logical sectors read so, and this is what they are together: the bytes of all, or the first fault among them
pub record ReadTogether (P : ℕ → Result (List ℕ) ℕ → Type 0) (sector count : ℕ) (answer : Result (List ℕ) ℕ) : Type 0 where
  pub readings : List (Result (List ℕ) ℕ)
  pub each : EachReads P sector count readings
  pub together : joined readings ≡ answer

-- a read returns what its logical sectors are together; or the range passes the end, or the disk failed
abbrev pub AnswersBy : (ℕ → Result (List ℕ) ℕ → Type 0) → SectorRequest → List ℕ → Result (Unit {0}) ReadFault → DiskState → DiskState → Type 0
AnswersBy P r bytes (Ok done) old new = ReadTogether P r.sector r.count (Ok bytes)
AnswersBy P r bytes (Err (read.Integrity offset)) old new = ReadTogether P r.sector r.count (Err offset)
AnswersBy P r bytes (Err (read.OutOfRange sector count media)) old new = r.media < r.sector + r.count
AnswersBy P r bytes (Err read.DeviceFault) old new = Rose old.faults new.faults

-- each read of a provider with this keying on a disk with this image returns what `AnswersBy` says, and the disk still
-- has the image for the next read
abbrev pub ReadsBy : {D : Type 0} → (D → DiskState) → List (List ℕ) → Keying → (ℕ → Result (List ℕ) ℕ → Type 0) → Type 0
ReadsBy {D} state image k P = (sector : ℕ) (into bytes : List ℕ) (old new : Attached D) (answer : Result (Unit {0}) ReadFault) →
    HasImage image (state old.disk) → old.keying ≡ k → ReadAnswers state (request state old sector into) bytes old new answer →
    AnswersBy P (request state old sector into) bytes answer (state old.disk) (state new.disk) × HasImage image (state new.disk)

-- the provider is attached, with the master key of the slot and under a keying that a provider may have, and reads so;
-- or there was no memory
abbrev pub AttachesAndReads : {D : Type 0} → (D → DiskState) → List (List ℕ) → (Keying → ℕ → Result (List ℕ) ℕ → Type 0) → D → Params → ℕ → List ℕ → Result (Attached D) (D × AttachFault) → Type 0
AttachesAndReads state image P given params s master (Ok p) = IsAttachedOn given params s master p × IsKeying p.keying × ReadsBy state image p.keying (P p.keying)
AttachesAndReads state image P given params s master (Err refused) = (refused.0 ≡ given) × (refused.1 ≡ attach.NoMemory)

-- whoever attaches a disk with this image with a key that opens one of its slots gets a provider that reads so, or
-- there was no memory
abbrev pub OpensAndReads : {D : Type 0} → (D → DiskState) → List (List ℕ) → (Keying → ℕ → Result (List ℕ) ℕ → Type 0) → Type 0
OpensAndReads {D} state image P = (m : Metadata) (params : Params) (key : List ℕ) (readonly : Bool) (s : ℕ) (master : List ℕ) (disk : D) (result : Result (Attached D) (D × AttachFault)) →
    HasImage image (state disk) → IsOpenedBy image m params key s master →
    AttachAnswers (record { meta = m; params = params; disk = state disk }) (record { key = key; named = None; readonly = readonly }) disk result →
    AttachesAndReads state image P disk params s master result

-- ---- what a logical sector of a survivor reads as

-- in a whole image, a logical sector reads as the writings that the image chose from the cells
abbrev pub ReadsAsChosen : Content → List Step → ℕ → (ℕ → ℕ) → Keying → ℕ → Result (List ℕ) ℕ → Type 0
ReadsAsChosen c steps t choice k sector reading = reading ≡ read_sector k sector (chosen k sector (cell c (take t steps)) choice)

-- in a torn or altered image, a logical sector reads as writings of the cells or strange bytes where such may be; each
-- fault has its cause, and what is accepted is known or forged
pub record ReadsAsStands (c : Content) (steps : List Step) (t : ℕ) (may_be_strange : ℕ → Type 0) (image : List (List ℕ)) (k : Keying) (sector : ℕ) (reading : Result (List ℕ) ℕ) : Type 0 where
  pub causes : ReadsWithCauses k sector (cell c (take t steps)) may_be_strange (ever c (take t steps)) image
  pub is : reading ≡ read_sector k sector causes.from.writings

-- ---- the sentence

-- Power fails after any number of these steps, or within the next. Whatever image is left, a disk with it is attached
-- with a key of one of its slots, or there was no memory; and then each read returns, logical sector by logical sector,
-- what the chosen writings say.
pub record ReadsAfterCrashes {D : Type 0} (state : D → DiskState) (steps : List Step) (c : Content) : Type 0 where
  pub whole : (t : ℕ) (choice : ℕ → ℕ) (image : List (List ℕ)) → IsImage (moment t steps c) choice image → OpensAndReads state image (ReadsAsChosen c steps t choice)
  pub torn : (t : ℕ) (image : List (List ℕ)) → IsTorn (moment t steps c) image → OpensAndReads state image (ReadsAsStands c steps t (IsUnsettled (moment t steps c)) image)
  pub altered : (t : ℕ) (image : List (List ℕ)) → IsAltered (moment t steps c) image → OpensAndReads state image (ReadsAsStands c steps t (λ n. Unit {0}) image)
