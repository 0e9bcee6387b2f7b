-- The rows of `fill` and `sum`.
use Rattle.std.proofs.Common.{◌≡◌, ℕ, List, OnOk, OnErr, refl, ap, sym, subst, false, true, Result, Ok, Err}
use Rattle.block_traits.specs.declared.disk.DiskFailed.{DiskFailed}
use Rattle.command_rows.specs.Rows.{DoesEvents, NeedsSectors, NeedsWritable, ReadsSectors, if_writable, in_range, or_refusal}
use Rattle.command_rows.specs.Vocabulary.{Attached, CabinetState, DiskState, EntropyState, Event, FailsIn, IsKept, Logs, Refusal, Request, data_writes, media}
use Rattle.eli_base.specs.declared.refusals.Refusal.TheVariants as refusals
use Rattle.rand_pcg.specs.Lcg.{Lcg}
use Rattle.command_rows.specs.verbs.Fill.{FillRow, generated, generator, words_of_sectors, workload}
use Rattle.command_rows.specs.verbs.Sum.{SumAnswer, SumRow}
use Rattle.shelf.specs.Shelved.{attachment_of}
use Rattle.shelf.proofs.Rows.{Then-goes_on, Then-refused}
use Rattle.shelf.proofs.Sectors.{at, kept_holding}

-- ---- `fill`

-- the provider is read-only
pub fill_only_read : {D : Type 0} (state : D → DiskState) (queue : List Request) (cabinet : CabinetState) (entropy : EntropyState) (p : Attached D) (seed start count : ℕ) → p.readonly ≡ true
    → FillRow seed start count (attachment_of queue p) (at state queue cabinet entropy p) (Err refusals.ReadOnly) (at state queue cabinet entropy p)
fill_only_read state queue cabinet entropy p seed start count only =
    Then-refused (NeedsWritable (attachment_of queue p)) _ _ _ _ (sym (ap if_writable only), refl)

-- the sectors pass the end
pub fill_passes : {D : Type 0} (state : D → DiskState) (queue : List Request) (cabinet : CabinetState) (entropy : EntropyState) (p : Attached D) (seed start count : ℕ) (refusal : Refusal) → p.readonly ≡ false
    → Err refusal ≡ in_range start count (media p.keying (state p.disk)) → FillRow seed start count (attachment_of queue p) (at state queue cabinet entropy p) (Err refusal) (at state queue cabinet entropy p)
fill_passes state queue cabinet entropy p seed start count refusal writable passes =
    Then-goes_on (NeedsWritable (attachment_of queue p)) _ (at state queue cabinet entropy p) (at state queue cabinet entropy p) tt _ _ (sym (ap if_writable writable), refl)
    (Then-refused (NeedsSectors (attachment_of queue p) start count) _ _ _ _ (passes, refl))

written : (events : List Event) (old new : DiskState) (result : Result (Unit {0}) DiskFailed) → OnOk result (Logs events old new) → OnErr result (FailsIn events old new)
    → DoesEvents events old (or_refusal (λ failed. refusals.DeviceFault) result) new
written events old new (Ok done) ok err = ok
written events old new (Err failed) ok err = err

-- the sectors were written, or the disk failed
pub fill_writes : {D : Type 0} (state : D → DiskState) (queue : List Request) (cabinet : CabinetState) (entropy : EntropyState) (old new : Attached D) (seed start count many : ℕ) (g : Lcg) (result : Result (Unit {0}) DiskFailed) → old.readonly ≡ false
    → Ok tt ≡ in_range start count (media old.keying (state old.disk)) → IsKept old new → many ≡ count → g ≡ generator seed
    → OnOk result (Logs (data_writes old.keying start many (generated (words_of_sectors old.keying.sectorsize many) g).0) (state old.disk) (state new.disk))
    → OnErr result (FailsIn (data_writes old.keying start many (generated (words_of_sectors old.keying.sectorsize many) g).0) (state old.disk) (state new.disk)) → (state new.disk).reads ≡ (state old.disk).reads
    → FillRow seed start count (attachment_of queue old) (at state queue cabinet entropy old) (or_refusal (λ failed. refusals.DeviceFault) result) (at state queue cabinet entropy new)
fill_writes state queue cabinet entropy old new seed start count many g result writable fits kept all begun ok err unasked =
    let events : data_writes old.keying start many (generated (words_of_sectors old.keying.sectorsize many) g).0 ≡ data_writes old.keying start count (workload seed (words_of_sectors old.keying.sectorsize count)) =
    λ i. data_writes old.keying start (all i) (generated (words_of_sectors old.keying.sectorsize (all i)) (begun i)).0 in
    Then-goes_on (NeedsWritable (attachment_of queue old)) _ (at state queue cabinet entropy old) (at state queue cabinet entropy old) tt _ _ (sym (ap if_writable writable), refl)
    (Then-goes_on (NeedsSectors (attachment_of queue old) start count) _ (at state queue cabinet entropy old) (at state queue cabinet entropy old) tt _ _ (fits, refl)
    (record {
      does = subst (λ (l : List Event). DoesEvents l (state old.disk) (or_refusal (λ failed. refusals.DeviceFault) result) (state new.disk)) events (written _ (state old.disk) (state new.disk) result ok err);
      unasked = unasked;
      holding = kept_holding queue old new kept;
      outside = record { cabinet = refl; entropy = refl };
    }))

-- ---- `sum`

pub sum_passes : {D : Type 0} (state : D → DiskState) (queue : List Request) (cabinet : CabinetState) (entropy : EntropyState) (p : Attached D) (start count : ℕ) (refusal : Refusal)
    → Err refusal ≡ in_range start count (media p.keying (state p.disk)) → SumRow start count (attachment_of queue p) (at state queue cabinet entropy p) (Err refusal) (at state queue cabinet entropy p)
sum_passes state queue cabinet entropy p start count refusal passes =
    Then-refused (NeedsSectors (attachment_of queue p) start count) _ _ _ _ (passes, refl)

pub sum_reads : {D : Type 0} (state : D → DiskState) (queue : List Request) (cabinet : CabinetState) (entropy : EntropyState) (old new : Attached D) (start count : ℕ) (result : Result (List ℕ) Refusal)
    → Ok tt ≡ in_range start count (media old.keying (state old.disk)) → IsKept old new → SumAnswer old.keying start count (state old.disk) result (state new.disk)
    → SumRow start count (attachment_of queue old) (at state queue cabinet entropy old) result (at state queue cabinet entropy new)
sum_reads state queue cabinet entropy old new start count (Ok digest) fits kept h =
    Then-goes_on (NeedsSectors (attachment_of queue old) start count) _ (at state queue cabinet entropy old) (at state queue cabinet entropy old) tt _ _ (fits, refl)
    (Then-goes_on (ReadsSectors (attachment_of queue old) start count) _ (at state queue cabinet entropy old) (at state queue cabinet entropy new) h.bytes _ _
    (record { reads = h.read; holding = kept_holding queue old new kept; outside = record { cabinet = refl; entropy = refl } })
    (ap Ok h.digest_is, refl))
sum_reads state queue cabinet entropy old new start count (Err refusal) fits kept h =
    Then-goes_on (NeedsSectors (attachment_of queue old) start count) _ (at state queue cabinet entropy old) (at state queue cabinet entropy old) tt _ _ (fits, refl)
    (Then-refused (ReadsSectors (attachment_of queue old) start count) _ (at state queue cabinet entropy old) (at state queue cabinet entropy new) refusal
    (record { reads = h; holding = kept_holding queue old new kept; outside = record { cabinet = refl; entropy = refl } }))
