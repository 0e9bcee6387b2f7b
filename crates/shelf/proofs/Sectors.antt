-- Requests to an attached provider, as rows.
use Rattle.std.proofs.Common.{◌≡◌, ◌∙◌, ℕ, ◌+◌, ◌*◌, ◌/◌, ◌%◌, ◌<◌, ◌≤◌, List, [], ◌∷◌, length, refl, ap, sym, arith, subst, Result, Ok, Err, take, ◌++◌, OnOk, OnErr}
use Rattle.block_traits.specs.declared.disk.DiskFailed.{DiskFailed}
use Rattle.block_traits.specs.declared.disk.Event.TheVariants.{Flush}
use Rattle.std.proofs.Math.Nat.{mul-div_cancel, mul-mod_left}
use Rattle.std.proofs.Math.Seq.{take-append_seam}
use Rattle.std.proofs.lemmas.Bool.Decides.{nat_tests}
use Rattle.command_rows.specs.Rows.{DoesEvents, IsAttached, NeedsSectors, NeedsWhole, NeedsWritable, Reach, ReadsSectors, Then, WritesSectors, bytes_read, if_writable, in_range, or_refusal, read_answer, read_refusal, whole_sectors, write_refusal}
use Rattle.command_rows.specs.Vocabulary.{Attached, CabinetState, DiskState, EntropyState, FailsIn, IsKept, Logs, Refusal, Request, media}
use Rattle.eli_base.specs.declared.refusals.Refusal.TheVariants as refusals
use Rattle.provider.specs.Answers.{ReadAnswers, WriteAnswers, request}
use Rattle.sector_runs.specs.declared.faults.ReadFault.{ReadFault}
use Rattle.sector_runs.specs.declared.faults.ReadFault.TheVariants as read
use Rattle.provider.specs.declared.faults.WriteFault.{WriteFault}
use Rattle.provider.specs.declared.faults.WriteFault.TheVariants as write
use Rattle.command_rows.specs.Turn.{ReadRow, WriteRow}
use Rattle.shelf.specs.Shelved.{attachment_of}
use Rattle.shelf.proofs.Rows.{Then-goes_on, Then-refused}

-- what was at hand when an attached provider was asked, on which these requests were open
abbrev pub at : {D : Type 0} → (D → DiskState) → List Request → CabinetState → EntropyState → Attached D → Reach
at state queue cabinet entropy p = record { disk = state p.disk; holding = IsAttached (attachment_of queue p); cabinet = cabinet; entropy = entropy }

-- keying, slot and read-only state are as before
kept_attachment : {D : Type 0} (queue : List Request) (old new : Attached D) → IsKept old new → attachment_of queue new ≡ attachment_of queue old
kept_attachment queue old new kept = cc (kept.slot, kept.keying, kept.readonly)

pub kept_holding : {D : Type 0} (queue : List Request) (old new : Attached D) → IsKept old new → IsAttached (attachment_of queue new) ≡ IsAttached (attachment_of queue old)
kept_holding queue old new kept = ap IsAttached (kept_attachment queue old new kept)

fits : (sector count there : ℕ) → sector + count ≤ there → in_range sector count there ≡ Ok tt
fits sector count there h = grind (arith, nat_tests)

passes : (sector count there : ℕ) → there < sector + count → in_range sector count there ≡ Err (refusals.OutOfRange sector count there)
passes sector count there h = grind (arith, nat_tests)

-- so many bytes are whole sectors
pub whole_is : (size bytes : ℕ) → 1 ≤ bytes → bytes ≤ 131072 → bytes % size ≡ 0 → whole_sectors size bytes ≡ Ok (bytes / size)
whole_is size bytes some small even = grind (arith, nat_tests)

pub whole_sectors-count : (size count : ℕ) → 0 < size → 1 ≤ count * size → count * size ≤ 131072 → whole_sectors size (count * size) ≡ Ok count
whole_sectors-count size count positive some small = whole_is size (count * size) some small (mul-mod_left count size) ∙ ap Ok (mul-div_cancel count positive)

pub whole_sectors-none : (size bytes : ℕ) → bytes ≡ 0 → whole_sectors size bytes ≡ Err (refusals.BadLength bytes size)
whole_sectors-none size bytes none = grind (arith, nat_tests)

pub whole_sectors-many : (size bytes : ℕ) → 131072 < bytes → whole_sectors size bytes ≡ Err (refusals.BadLength bytes size)
whole_sectors-many size bytes many = grind (arith, nat_tests)

pub whole_sectors-odd : (size bytes : ℕ) → ¬ (bytes % size ≡ 0) → whole_sectors size bytes ≡ Err (refusals.BadLength bytes size)
whole_sectors-odd size bytes odd = grind (arith, nat_tests)

-- the length was refused
pub read_bad_length : {D : Type 0} (state : D → DiskState) (queue : List Request) (cabinet : CabinetState) (entropy : EntropyState) (p : Attached D) (sector count : ℕ) (refusal : Refusal)
    → whole_sectors p.keying.sectorsize (count * p.keying.sectorsize) ≡ Err refusal → ReadRow sector count (attachment_of queue p) (at state queue cabinet entropy p) (Err refusal) (at state queue cabinet entropy p)
read_bad_length state queue cabinet entropy p sector count refusal bad =
    Then-refused (NeedsWhole (attachment_of queue p) (count * p.keying.sectorsize)) _ _ _ _ (sym bad, refl)

pub write_bad_length : {D : Type 0} (state : D → DiskState) (queue : List Request) (cabinet : CabinetState) (entropy : EntropyState) (p : Attached D) (sector : ℕ) (bytes : List ℕ) (refusal : Refusal)
    → whole_sectors p.keying.sectorsize (length bytes) ≡ Err refusal → WriteRow sector bytes (attachment_of queue p) (at state queue cabinet entropy p) (Err refusal) (at state queue cabinet entropy p)
write_bad_length state queue cabinet entropy p sector bytes refusal bad =
    Then-refused (NeedsWhole (attachment_of queue p) (length bytes)) _ _ _ _ (sym bad, refl)

-- ---- a read

-- what was read, or the refusal of the fault
abbrev pub or_bytes : List ℕ → Result (Unit {0}) ReadFault → Result (List ℕ) Refusal
or_bytes bytes (Ok done) = Ok bytes
or_bytes bytes (Err fault) = Err (read_refusal fault)

-- the steps after the length
read_behind : {D : Type 0} (state : D → DiskState) (queue : List Request) (cabinet : CabinetState) (entropy : EntropyState) (old new : Attached D) (sector count : ℕ) (bytes : List ℕ) (result : Result (Unit {0}) ReadFault)
    → length bytes ≡ count * old.keying.sectorsize → IsKept old new
    → ReadAnswers state (record { sector = sector; count = count; media = media old.keying (state old.disk) }) bytes old new result
    → Then (NeedsSectors (attachment_of queue old) sector count) (λ _. ReadsSectors (attachment_of queue old) sector count) (at state queue cabinet entropy old) (or_bytes bytes result) (at state queue cabinet entropy new)
read_behind state queue cabinet entropy old new sector count bytes (Ok done) len kept h =
    Then-goes_on (NeedsSectors (attachment_of queue old) sector count) _ (at state queue cabinet entropy old) (at state queue cabinet entropy old) tt _ _ (sym (fits _ _ _ h.in_range), refl)
    (record { reads = (len, h.logs, h.reads, h.asked); holding = kept_holding queue old new kept; outside = record { cabinet = refl; entropy = refl } })
read_behind state queue cabinet entropy old new sector count bytes (Err (read.OutOfRange first asked there)) len kept h =
    let same : Err (refusals.OutOfRange first asked there) ≡ in_range sector count (media old.keying (state old.disk)) =
    ap (λ (n : ℕ). Err (refusals.OutOfRange n asked there)) h.0.sector ∙ ap (λ (n : ℕ). Err (refusals.OutOfRange sector n there)) h.0.count
    ∙ ap (λ (n : ℕ). Err (refusals.OutOfRange sector count n)) h.0.media ∙ sym (passes _ _ _ h.0.passes) in
    Then-refused (NeedsSectors (attachment_of queue old) sector count) _ _ _ _ (same, ap (at state queue cabinet entropy) h.1)
read_behind state queue cabinet entropy old new sector count bytes (Err read.DeviceFault) len kept h =
    Then-goes_on (NeedsSectors (attachment_of queue old) sector count) _ (at state queue cabinet entropy old) (at state queue cabinet entropy old) tt _ _ (sym (fits _ _ _ h.in_range), refl)
    (record { reads = h.fails; holding = kept_holding queue old new kept; outside = record { cabinet = refl; entropy = refl } })
read_behind state queue cabinet entropy old new sector count bytes (Err (read.Integrity offset)) len kept h =
    Then-goes_on (NeedsSectors (attachment_of queue old) sector count) _ (at state queue cabinet entropy old) (at state queue cabinet entropy old) tt _ _ (sym (fits _ _ _ h.in_range), refl)
    (record { reads = h.finds; holding = kept_holding queue old new kept; outside = record { cabinet = refl; entropy = refl } })

pub read_answered : {D : Type 0} (state : D → DiskState) (queue : List Request) (cabinet : CabinetState) (entropy : EntropyState) (old new : Attached D) (sector count : ℕ) (before bytes : List ℕ) (result : Result (Unit {0}) ReadFault)
    → 0 < old.keying.sectorsize → 1 ≤ length before → length before ≤ 131072 → length before ≡ count * old.keying.sectorsize → length bytes ≡ length before → IsKept old new
    → ReadAnswers state (request state old sector before) bytes old new result
    → ReadRow sector count (attachment_of queue old) (at state queue cabinet entropy old) (or_bytes bytes result) (at state queue cabinet entropy new)
read_answered state queue cabinet entropy old new sector count before bytes result positive some small len same kept h =
    let whole : whole_sectors old.keying.sectorsize (count * old.keying.sectorsize) ≡ Ok count =
    whole_sectors-count old.keying.sectorsize count positive (subst (λ (n : ℕ). 1 ≤ n) len some) (subst (λ (n : ℕ). n ≤ 131072) len small) in
    let many : length before / old.keying.sectorsize ≡ count = ap (λ (n : ℕ). n / old.keying.sectorsize) len ∙ mul-div_cancel count positive in
    let asked = subst (λ (n : ℕ). ReadAnswers state (record { sector = sector; count = n; media = media old.keying (state old.disk) }) bytes old new result) many h in
    Then-goes_on (NeedsWhole (attachment_of queue old) (count * old.keying.sectorsize)) _ (at state queue cabinet entropy old) (at state queue cabinet entropy old) count _ _ (sym whole, refl)
    (read_behind state queue cabinet entropy old new sector count bytes result (same ∙ len) kept asked)

-- ---- a write

-- the steps after the length
write_behind : {D : Type 0} (state : D → DiskState) (queue : List Request) (cabinet : CabinetState) (entropy : EntropyState) (old new : Attached D) (sector count : ℕ) (bytes : List ℕ) (result : Result (Unit {0}) WriteFault)
    → IsKept old new → WriteAnswers state (record { sector = sector; count = count; media = media old.keying (state old.disk) }) bytes old new result → (state new.disk).reads ≡ (state old.disk).reads
    → Then (NeedsWritable (attachment_of queue old)) (λ _. Then (NeedsSectors (attachment_of queue old) sector count) (λ _. WritesSectors (attachment_of queue old) sector count bytes))
    (at state queue cabinet entropy old) (or_refusal write_refusal result) (at state queue cabinet entropy new)
write_behind state queue cabinet entropy old new sector count bytes (Ok done) kept h unasked =
    Then-goes_on (NeedsWritable (attachment_of queue old)) _ (at state queue cabinet entropy old) (at state queue cabinet entropy old) tt _ _ (sym (ap if_writable h.0), refl)
    (Then-goes_on (NeedsSectors (attachment_of queue old) sector count) _ (at state queue cabinet entropy old) (at state queue cabinet entropy old) tt _ _ (sym (fits _ _ _ h.1.in_range), refl)
    (record { does = h.1.logs; unasked = unasked; holding = kept_holding queue old new kept; outside = record { cabinet = refl; entropy = refl } }))
write_behind state queue cabinet entropy old new sector count bytes (Err write.ReadOnly) kept h unasked =
    Then-refused (NeedsWritable (attachment_of queue old)) _ _ _ _ (sym (ap if_writable h.0), ap (at state queue cabinet entropy) h.1)
write_behind state queue cabinet entropy old new sector count bytes (Err (write.OutOfRange first asked there)) kept h unasked =
    let same : Err (refusals.OutOfRange first asked there) ≡ in_range sector count (media old.keying (state old.disk)) =
    ap (λ (n : ℕ). Err (refusals.OutOfRange n asked there)) h.1.sector ∙ ap (λ (n : ℕ). Err (refusals.OutOfRange sector n there)) h.1.count
    ∙ ap (λ (n : ℕ). Err (refusals.OutOfRange sector count n)) h.1.media ∙ sym (passes _ _ _ h.1.passes) in
    Then-goes_on (NeedsWritable (attachment_of queue old)) _ (at state queue cabinet entropy old) (at state queue cabinet entropy old) tt _ _ (sym (ap if_writable h.0), refl)
    (Then-refused (NeedsSectors (attachment_of queue old) sector count) _ _ _ _ (same, ap (at state queue cabinet entropy) h.2))
write_behind state queue cabinet entropy old new sector count bytes (Err write.DeviceFault) kept h unasked =
    Then-goes_on (NeedsWritable (attachment_of queue old)) _ (at state queue cabinet entropy old) (at state queue cabinet entropy old) tt _ _ (sym (ap if_writable h.0), refl)
    (Then-goes_on (NeedsSectors (attachment_of queue old) sector count) _ (at state queue cabinet entropy old) (at state queue cabinet entropy old) tt _ _ (sym (fits _ _ _ h.1.in_range), refl)
    (record { does = h.1.fails; unasked = unasked; holding = kept_holding queue old new kept; outside = record { cabinet = refl; entropy = refl } }))

pub write_answered : {D : Type 0} (state : D → DiskState) (queue : List Request) (cabinet : CabinetState) (entropy : EntropyState) (old new : Attached D) (sector : ℕ) (bytes : List ℕ) (result : Result (Unit {0}) WriteFault)
    → 1 ≤ length bytes → length bytes ≤ 131072 → length bytes % old.keying.sectorsize ≡ 0 → IsKept old new
    → WriteAnswers state (request state old sector bytes) bytes old new result → (state new.disk).reads ≡ (state old.disk).reads
    → WriteRow sector bytes (attachment_of queue old) (at state queue cabinet entropy old) (or_refusal write_refusal result) (at state queue cabinet entropy new)
write_answered state queue cabinet entropy old new sector bytes result some small even kept h unasked =
    Then-goes_on (NeedsWhole (attachment_of queue old) (length bytes)) _ (at state queue cabinet entropy old) (at state queue cabinet entropy old) _ _ _ (sym (whole_is old.keying.sectorsize (length bytes) some small even), refl)
    (write_behind state queue cabinet entropy old new sector _ bytes result kept h unasked)

-- what the buffer holds then, at whose front so many bytes were read
pub read_bytes : (into rest : List ℕ) (count : ℕ) (result : Result (Unit {0}) ReadFault) → length into ≡ count → bytes_read (into ++ rest) (read_answer count result) ≡ or_bytes into result
read_bytes into rest count (Ok done) len = ap Ok (subst (λ (n : ℕ). take n (into ++ rest) ≡ into) len (take-append_seam into rest))
read_bytes into rest count (Err fault) len = refl

-- a flush that was answered so
pub flushed : (old new : DiskState) (result : Result (Unit {0}) DiskFailed) → OnOk result (Logs (Flush ∷ []) old new) → OnErr result (FailsIn (Flush ∷ []) old new)
    → DoesEvents (Flush ∷ []) old (or_refusal (λ failed. refusals.DeviceFault) result) new
flushed old new (Ok done) ok err = ok
flushed old new (Err failed) ok err = err
