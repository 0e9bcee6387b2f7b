-- What was acknowledged lasts if a flush after it was acknowledged too.
use Rattle.std.proofs.Common.{◌≡◌, ◌∙◌, ◌⊎◌, inl, inr, ℕ, zero, suc, ◌+◌, ◌-◌, ◌*◌, ◌/◌, ◌%◌, ◌<◌, ◌≤◌, Bool, true, false, List, [], ◌∷◌, ◌++◌, length, map, take, drop, Option, Some, IfSome, Result, Ok, Err, refl, sym, ap, subst, arith, append_assoc, append-nil, add-mul, div-add-mod', lt_of_mul-lt-mul_right, length-drop, mul-le-mul_right}
use Rattle.std.proofs.Math.Seq.{take-append-add, take-length}
use Rattle.std.proofs.lemmas.List.{drop-drop}
use Rattle.std.proofs.lemmas.Nat.{mod_below}
use Rattle.std.specs.List.{AllByRecursion}
use Rattle.aes_core.proofs.KeyBytes.{AreBytes-drop}
use Rattle.sector_runs.specs.Reading.{data_reading}
use Rattle.block_traits.specs.Content.{Content, kept_values}
use Rattle.block_traits.specs.Crash.{IsTorn}
use Rattle.block_traits.specs.Disk.{DiskState, Logs}
use Rattle.block_traits.specs.declared.disk.Event.TheVariants as event
use Rattle.byte_ranges.specs.Ranges.{first_sector, part_of, range_reading, sectors_covered, skipped}
use Rattle.byte_ranges.specs.declared.ranges.ByteRange.{ByteRange}
use Rattle.eli_base.specs.Keying.{Keying, keying_of}
use Rattle.eli_base.specs.declared.parameters.Params.{Params}
use Rattle.provider.specs.Attached.{Attached}
use Rattle.provider.specs.declared.faults.AttachFault.{AttachFault}
use Rattle.provider_readings.proofs.Attaching.{attaches}
use Rattle.nbd_words.specs.Transmission.{has_fua, request_kind}
use Rattle.nbd_words.specs.declared.transmission.Request.{Request}
use Rattle.nbd_words.specs.declared.transmission.ReplyError.{ReplyError}
use Rattle.nbd_words.specs.declared.transmission.ReplyError.TheVariants.{Done, ReadOnly, Failed, Invalid, PassesEnd, NoRoom}
use Rattle.nbd_words.specs.declared.transmission.RequestKind.{RequestKind}
use Rattle.nbd_words.specs.declared.transmission.RequestKind.TheVariants as kinds
use Rattle.provider_readings.specs.Attaching.{AttachesOrLacksMemory, HasImage}
use Rattle.provider_readings.specs.Data.{survivor}
use Rattle.range_keys.specs.Ring.{IsKeying}
use Rattle.readings.specs.Ever.{placed_at}
use Rattle.readings.specs.Steps.{Step, Flush, after, cell_after}
use Rattle.readings.specs.Survivors.{content_media}
use Rattle.readings.specs.Writes.{data_steps}
use Rattle.readings.specs.Writings.{Writing, Raw, all_device_bytes}
use Rattle.readings.proofs.Cells.{kept_values-cell}
use Rattle.readings.proofs.Survivors.{moment-after, room, some-units}
use Rattle.sealing.specs.Sectors.{units}
use Rattle.nbd_session.specs.Durable.{Deed, DidBy, DidEach, IsOfWrite, Survives, exchange_steps, flush_steps, session_steps, steps_of_kind, steps_of_write}
use Rattle.nbd_session.specs.Lasting.{AnswersWith, AreApart, AttachesAndAnswers, AttachesLasting, FlushesBy, HasFlushed, IsPartOf, IsRefusingReply, KeepsIn, LastsClosed, LastsIn, LeavesAlone, LeavesAloneBy, OneHasFlushed, ReadsLasting, SurvivesClosed, WroteBy, part_bytes}
use Rattle.nbd_session.specs.Requests.{AnswersRead, Exchange, ServesExchange, ServesExchanges, ServesKind, Side, range_of, side_of}
use Rattle.nbd_session.proofs.Durable.{after-then, nothing_after, session-survives, told_on}
use Rattle.nbd_session.proofs.Serving.{of_first}
use Rattle.readings.proofs.Settled.{cell_after-append}
use Rattle.nbd_session.proofs.Settling.{HaveFlush, HaveFlush-left, HaveFlush-right, IsQuiet, data-lasts, data-same, data_steps-split, quiet-both, quiet-data, quiet-take, stands-as-flushed, write-holds}

-- ---- a session in two parts

pub record Split (n : ℕ) (k : Keying) (c : Content) (xs ys : List Exchange) (deeds : List Deed) : Type 0 where
  pub first : List Deed
  pub second : List Deed
  pub are : deeds ≡ first ++ second
  pub did_first : DidEach n k c xs first
  pub did_second : DidEach (n + length xs) k (after (session_steps n k xs first) c) ys second

pub split-did : (xs ys : List Exchange) (deeds : List Deed) (n : ℕ) (k : Keying) (c : Content) → DidEach n k c (xs ++ ys) deeds → Split n k c xs ys deeds
split-did [] ys deeds n k c h =
    let same : n ≡ n + 0 = omega arith in
    record {
      first = [];
      second = deeds;
      are = refl;
      did_first = tt;
      did_second = subst (λ (m : ℕ). DidEach m k (after [] c) ys deeds) same (subst (λ (now : Content). DidEach n k now ys deeds) (sym (nothing_after c)) h);
    }
split-did (x ∷ xs) ys [] n k c h = absurd h
split-did (x ∷ xs) ys (d ∷ ds) n k c h =
    let mine : List Step = exchange_steps n k x d in
    let rest = split-did xs ys ds (n + 1) k (after mine c) h.1 in
    let count : n + 1 + length xs ≡ n + length (x ∷ xs) = omega arith in
    record {
      first = d ∷ rest.first;
      second = rest.second;
      are = ap (λ (l : List Deed). d ∷ l) rest.are;
      did_first = (h.0, rest.did_first);
      did_second = subst (λ (m : ℕ). DidEach m k (after (mine ++ session_steps (n + 1) k xs rest.first) c) ys rest.second) count
          (subst (λ (now : Content). DidEach (n + 1 + length xs) k now ys rest.second) (sym (after-then c mine (session_steps (n + 1) k xs rest.first))) rest.did_second);
    }

pub steps-split : (xs ys : List Exchange) (first second : List Deed) (n : ℕ) (k : Keying) (c : Content) → DidEach n k c xs first
    → session_steps n k (xs ++ ys) (first ++ second) ≡ session_steps n k xs first ++ session_steps (n + length xs) k ys second
steps-split [] ys [] second n k c h = let same : n ≡ n + 0 = omega arith in ap (λ (m : ℕ). session_steps m k ys second) same
steps-split [] ys (d ∷ ds) second n k c h = absurd h
steps-split (x ∷ xs) ys [] second n k c h = absurd h
steps-split (x ∷ xs) ys (d ∷ ds) second n k c h =
    let mine : List Step = exchange_steps n k x d in
    let count : n + 1 + length xs ≡ n + length (x ∷ xs) = omega arith in
    ap (λ (l : List Step). mine ++ l)
    (steps-split xs ys ds second (n + 1) k (after mine c) h.1 ∙ ap (λ (m : ℕ). session_steps (n + 1) k xs ds ++ session_steps m k ys second) count)
    ∙ sym (append_assoc mine (session_steps (n + 1) k xs ds) (session_steps (n + length (x ∷ xs)) k ys second))

-- deeds of later exchanges change nothing
pub steps-more : (xs : List Exchange) (first more : List Deed) (n : ℕ) (k : Keying) (c : Content) → DidEach n k c xs first → session_steps n k xs (first ++ more) ≡ session_steps n k xs first
steps-more [] first more n k c h = refl
steps-more (x ∷ xs) [] more n k c h = absurd h
steps-more (x ∷ xs) (d ∷ ds) more n k c h = ap (λ (l : List Step). exchange_steps n k x d ++ l) (steps-more xs ds more (n + 1) k (after (exchange_steps n k x d) c) h.1)

-- ---- exchanges that leave a range alone

refused-none : (error : ReplyError) (kind : RequestKind) (m : ℕ) (k : Keying) (c : Content) (x : Exchange) (d : Deed) → IsRefusingReply error → DidBy error kind m k c x d → d.count ≡ 0
refused-none Done kind m k c x d refused by = absurd refused
refused-none Failed kind m k c x d refused by = absurd refused
refused-none NoRoom kind m k c x d refused by = absurd refused
refused-none ReadOnly kind m k c x d refused by = by
refused-none Invalid kind m k c x d refused by = by
refused-none PassesEnd kind m k c x d refused by = by

pub quiet-flush : (flush : Bool) (n : ℕ) → placed_at (flush_steps flush) n ≡ []
quiet-flush true n = refl
quiet-flush false n = refl

quiet-write : (m : ℕ) (k : Keying) (q : Request) (whole : List ℕ) (r : ByteRange) (n : ℕ) → AreApart k r (range_of q) → first_sector k r * units k ≤ n → n < (first_sector k r + sectors_covered k r) * units k
    → placed_at (steps_of_write m k q whole) n ≡ []
quiet-write m k q whole r n apart low high =
    let first : ℕ = first_sector k (range_of q) in
    let count : ℕ = sectors_covered k (range_of q) in
    let outside : (n < first * units k) ⊎ ((first + count) * units k ≤ n) = elim apart [
      | inl left ↦ (let h = mul-le-mul_right (units k) left in inl (omega (arith, high, h)))
      | inr right ↦ (let h = mul-le-mul_right (units k) right in inr (omega (arith, low, h)))
    ] in
    quiet-both (data_steps m k first count whole) (flush_steps (has_fua q.flags)) n (quiet-data m k first count whole n outside) (quiet-flush (has_fua q.flags) n)

-- a write that was refused, or of other sectors
quiet-other : (kind : RequestKind) (m : ℕ) (k : Keying) (c : Content) (r : ByteRange) (n : ℕ) (x : Exchange) (d : Deed) → first_sector k r * units k ≤ n → n < (first_sector k r + sectors_covered k r) * units k
    → IsRefusingReply x.error ⊎ AreApart k r (range_of x.request) → DidBy x.error kind m k c x d → placed_at (take d.count (steps_of_write m k x.request d.whole)) n ≡ []
quiet-other kind m k c r n x d low high alone by = elim alone [
  | inl refused ↦ ap (λ (count : ℕ). placed_at (take count (steps_of_write m k x.request d.whole)) n) (refused-none x.error kind m k c x d refused by)
  | inr apart ↦ quiet-take d.count (steps_of_write m k x.request d.whole) n (quiet-write m k x.request d.whole r n apart low high)
]

quiet-by : (kind : RequestKind) (m : ℕ) (k : Keying) (c : Content) (r : ByteRange) (n : ℕ) (x : Exchange) (d : Deed) → first_sector k r * units k ≤ n → n < (first_sector k r + sectors_covered k r) * units k
    → LeavesAloneBy kind k r x → DidBy x.error kind m k c x d → placed_at (take d.count (steps_of_kind kind m k x d.whole)) n ≡ []
quiet-by kinds.Read m k c r n x d low high alone by = quiet-take d.count [] n refl
quiet-by kinds.Write m k c r n x d low high alone by = quiet-other kinds.Write m k c r n x d low high alone by
quiet-by kinds.WriteZeroes m k c r n x d low high alone by = quiet-other kinds.WriteZeroes m k c r n x d low high alone by
quiet-by kinds.Flush m k c r n x d low high alone by = quiet-take d.count (Flush ∷ []) n refl
quiet-by kinds.Unknown m k c r n x d low high alone by = quiet-take d.count [] n refl
quiet-by kinds.Disconnect m k c r n x d low high alone by = quiet-take d.count [] n refl

quiet-session : (xs : List Exchange) (ds : List Deed) (m : ℕ) (k : Keying) (c : Content) (r : ByteRange) → AllByRecursion (LeavesAlone k r) xs → DidEach m k c xs ds
    → IsQuiet k (first_sector k r) (sectors_covered k r) (session_steps m k xs ds)
quiet-session [] ds m k c r alone did n low high = refl
quiet-session (x ∷ xs) [] m k c r alone did n low high = refl
quiet-session (x ∷ xs) (d ∷ ds) m k c r alone did n low high =
    let mine : List Step = exchange_steps m k x d in
    quiet-both mine (session_steps (m + 1) k xs ds) n (quiet-by (request_kind x.request.code) m k c r n x d low high alone.0 did.0.by)
    (quiet-session xs ds (m + 1) k (after mine c) r alone.1 did.1 n low high)

alone-first : (P : Exchange → Type 0) (xs ys : List Exchange) → AllByRecursion P (xs ++ ys) → AllByRecursion P xs
alone-first P [] ys h = tt
alone-first P (x ∷ xs) ys h = (h.0, alone-first P xs ys h.1)

alone-second : (P : Exchange → Type 0) (xs ys : List Exchange) → AllByRecursion P (xs ++ ys) → AllByRecursion P ys
alone-second P [] ys h = h
alone-second P (x ∷ xs) ys h = alone-second P xs ys h.1

-- ---- exchanges that flush

all-done : (steps : List Step) (count : ℕ) → count ≡ length steps → take count steps ≡ steps
all-done steps count h = ap (λ (n : ℕ). take n steps) h ∙ take-length steps

pub have-own : (m : ℕ) (k : Keying) (q : Request) (whole : List ℕ) → has_fua q.flags ≡ true → HaveFlush (flush_steps (has_fua q.flags))
have-own m k q whole h = subst (λ (b : Bool). HaveFlush (flush_steps b)) (sym h) tt

flushed-write : (kind : RequestKind) (m : ℕ) (k : Keying) (c : Content) (x : Exchange) (d : Deed) → has_fua x.request.flags ≡ true → d.count ≡ length (steps_of_write m k x.request d.whole)
    → HaveFlush (take d.count (steps_of_write m k x.request d.whole))
flushed-write kind m k c x d fua count =
    let r = range_of x.request in
    subst HaveFlush (sym (all-done (steps_of_write m k x.request d.whole) d.count count))
    (HaveFlush-right (data_steps m k (first_sector k r) (sectors_covered k r) d.whole) (flush_steps (has_fua x.request.flags)) (have-own m k x.request d.whole fua))

flushed-by : (kind : RequestKind) (m : ℕ) (k : Keying) (c : Content) (x : Exchange) (d : Deed) → FlushesBy kind x → DidBy x.error kind m k c x d → HaveFlush (take d.count (steps_of_kind kind m k x d.whole))
flushed-by kinds.Flush m k c x d h by =
    let all = subst (λ (e : ReplyError). DidBy e kinds.Flush m k c x d) h by in
    subst HaveFlush (sym (all-done (Flush ∷ []) d.count all.1)) tt
flushed-by kinds.Write m k c x d h by =
    let all = subst (λ (e : ReplyError). DidBy e kinds.Write m k c x d) h.0 by in flushed-write kinds.Write m k c x d h.1 all.1
flushed-by kinds.WriteZeroes m k c x d h by =
    let all = subst (λ (e : ReplyError). DidBy e kinds.WriteZeroes m k c x d) h.0 by in flushed-write kinds.WriteZeroes m k c x d h.1 all.1
flushed-by kinds.Read m k c x d h by = absurd h
flushed-by kinds.Unknown m k c x d h by = absurd h
flushed-by kinds.Disconnect m k c x d h by = absurd h

pub one-flushed : (xs : List Exchange) (ds : List Deed) (m : ℕ) (k : Keying) (c : Content) → OneHasFlushed xs → DidEach m k c xs ds → HaveFlush (session_steps m k xs ds)
one-flushed [] ds m k c h did = absurd h
one-flushed (x ∷ xs) [] m k c h did = absurd did
one-flushed (x ∷ xs) (d ∷ ds) m k c h did =
    let mine : List Step = exchange_steps m k x d in
    let rest : List Step = session_steps (m + 1) k xs ds in
    elim h [
      | inl here ↦ HaveFlush-left mine rest (flushed-by (request_kind x.request.code) m k c x d here did.0.by)
      | inr more ↦ HaveFlush-right mine rest (one-flushed xs ds (m + 1) k (after mine c) more did.1)
    ]

-- ---- the write

pub wrote-by : (kind : RequestKind) (n : ℕ) (k : Keying) (c : Content) (x : Exchange) (bytes : List ℕ) (d : Deed) → WroteBy kind x bytes → DidBy Done kind n k c x d
    → IsOfWrite k c x.request bytes d.whole × (take d.count (steps_of_kind kind n k x d.whole) ≡ steps_of_write n k x.request d.whole)
wrote-by kinds.Write n k c x bytes d h by =
    (subst (λ (l : List ℕ). IsOfWrite k c x.request l d.whole) (sym h) by.0, all-done (steps_of_write n k x.request d.whole) d.count by.1)
wrote-by kinds.WriteZeroes n k c x bytes d h by =
    (subst (λ (l : List ℕ). IsOfWrite k c x.request l d.whole) (sym h) by.0, all-done (steps_of_write n k x.request d.whole) d.count by.1)
wrote-by kinds.Read n k c x bytes d h by = absurd h
wrote-by kinds.Flush n k c x bytes d h by = absurd h
wrote-by kinds.Unknown n k c x bytes d h by = absurd h
wrote-by kinds.Disconnect n k c x bytes d h by = absurd h

pub own-flush : (kind : RequestKind) (x : Exchange) (bytes : List ℕ) → WroteBy kind x bytes → FlushesBy kind x → has_fua x.request.flags ≡ true
own-flush kinds.Write x bytes h flushes = flushes.1
own-flush kinds.WriteZeroes x bytes h flushes = flushes.1
own-flush kinds.Read x bytes h flushes = absurd h
own-flush kinds.Flush x bytes h flushes = absurd h
own-flush kinds.Unknown x bytes h flushes = absurd h
own-flush kinds.Disconnect x bytes h flushes = absurd h

-- where a part of a range lies among the sectors of the range: so many sectors before it, and so many after it
pub record Lies (k : Keying) (r part : ByteRange) (lead rest : ℕ) : Type 0 where
  pub first : first_sector k r + lead ≡ first_sector k part
  pub count : sectors_covered k r ≡ lead + (sectors_covered k part + rest)
  pub place : lead * k.sectorsize + skipped k part ≡ skipped k r + (part.offset - r.offset)
  pub fits : skipped k part + part.count ≤ sectors_covered k part * k.sectorsize

-- numbers of a range: its sectors and the bytes before it
pub record Covers (S offset count first skip sectors : ℕ) : Type 0 where
  pub at : first * S + skip ≡ offset
  pub low : skip < S
  pub few : sectors * S ≤ skip + count + (S - 1)
  pub many : skip + count + (S - 1) < sectors * S + S

pub covers : (k : Keying) (r : ByteRange) → 0 < k.sectorsize → Covers k.sectorsize r.offset r.count (first_sector k r) (skipped k r) (sectors_covered k r)
covers k r some =
    let S : ℕ = k.sectorsize in
    let all : ℕ = skipped k r + r.count + (S - 1) in
    let split : all / S * S + all % S ≡ all = div-add-mod' all S in
    let left : all % S < S = mod_below all S some in
    record { at = div-add-mod' r.offset S; low = mod_below r.offset S some; few = omega (arith, split); many = omega (arith, split, left) }

begins : (S o p n m f g s t a b : ℕ) → Covers S o n f s a → Covers S p m g t b → o ≤ p → f ≤ g
begins S o p n m f g s t a b r q low =
    let next = add-mul g 1 S in
    let at = r.at in
    let there = q.at in
    let under = q.low in
    let less : f * S < (g + 1) * S = omega (arith, at, there, under, low, next) in
    let lt = lt_of_mul-lt-mul_right S less in
    omega (arith, lt)

ends_in : (S o p n m f g s t a b : ℕ) → Covers S o n f s a → Covers S p m g t b → p + m ≤ o + n → g + b ≤ f + a
ends_in S o p n m f g s t a b r q high =
    let mine = add-mul g b S in
    let his = add-mul f a S in
    let next = add-mul (f + a) 1 S in
    let at = r.at in
    let there = q.at in
    let few = q.few in
    let many = r.many in
    let less : (g + b) * S < (f + a + 1) * S = omega (arith, at, there, few, many, mine, his, next, high) in
    let lt = lt_of_mul-lt-mul_right S less in
    omega (arith, lt)

pub lies : (k : Keying) (r part : ByteRange) → 0 < k.sectorsize → IsPartOf part r → Lies k r part (first_sector k part - first_sector k r) (first_sector k r + sectors_covered k r - (first_sector k part + sectors_covered k part))
lies k r part some is =
    let S : ℕ = k.sectorsize in
    let mine = covers k part some in
    let his = covers k r some in
    let low = begins S r.offset part.offset r.count part.count (first_sector k r) (first_sector k part) (skipped k r) (skipped k part) (sectors_covered k r) (sectors_covered k part) his mine is.starts in
    let high = ends_in S r.offset part.offset r.count part.count (first_sector k r) (first_sector k part) (skipped k r) (skipped k part) (sectors_covered k r) (sectors_covered k part) his mine is.ends in
    let lead : ℕ = first_sector k part - first_sector k r in
    let first : first_sector k r + lead ≡ first_sector k part = omega (arith, low) in
    let sum : (first_sector k r + lead) * S ≡ first_sector k r * S + lead * S = add-mul (first_sector k r) lead S in
    let same : (first_sector k r + lead) * S ≡ first_sector k part * S = ap (λ (n : ℕ). n * S) first in
    let at = mine.at in
    let there = his.at in
    let starts = is.starts in
    let many = mine.many in
    record {
      first = first;
      count = omega (arith, low, high);
      place = omega (arith, sum, same, at, there, starts);
      fits = omega (arith, many, some);
    }

-- the bytes of a part among those of the sectors
pub cut_out : (lead skip n reach d more all : ℕ) (whole bytes : List ℕ) → lead + skip ≡ more + d → skip + n ≤ reach → d + n ≤ all → take all (drop more whole) ≡ bytes
    → take n (drop skip (take reach (drop lead whole))) ≡ take n (drop d bytes)
cut_out lead skip n reach d more all whole bytes place fits inside are =
    of_first skip n reach (drop lead whole) fits
    ∙ ap (take n) (drop-drop skip lead whole)
    ∙ ap (λ (m : ℕ). take n (drop m whole)) place
    ∙ ap (take n) (sym (drop-drop d more whole))
    ∙ sym (of_first d n all (drop more whole) inside)
    ∙ ap (λ (l : List ℕ). take n (drop d l)) are

three : (a b c d : List Step) → (a ++ (b ++ c)) ++ d ≡ a ++ (b ++ (c ++ d))
three a b c d = simp append_assoc

-- the write stands after these steps, and what follows has a flush and leaves the part alone
stands : (number : ℕ) (k : Keying) (q : Request) (part : ByteRange) (bytes whole : List ℕ) (c : Content) (earlier tail : List Step) (image : List (List ℕ)) → IsKeying k → IsOfWrite k (after earlier c) q bytes whole
    → IsPartOf part (range_of q) → IsQuiet k (first_sector k part) (sectors_covered k part) tail → HaveFlush tail
    → IsTorn (after (earlier ++ (data_steps number k (first_sector k (range_of q)) (sectors_covered k (range_of q)) whole ++ tail)) c) image
    → range_reading k (survivor image) part ≡ Ok (part_bytes part (range_of q) bytes)
stands number k q part bytes whole c earlier tail image is of part_is quiet flush torn =
    let S : ℕ = k.sectorsize in
    let r = range_of q in
    let first : ℕ = first_sector k r in
    let many : ℕ = sectors_covered k r in
    let count : ℕ = sectors_covered k part in
    let lead : ℕ = first_sector k part - first in
    let rest : ℕ = first + many - (first_sector k part + count) in
    let in_it = lies k r part (omega (arith, is.at_least)) part_is in
    let from : ℕ = first + lead in
    let here : List ℕ = drop (lead * S) whole in
    let ahead : List Step = data_steps number k first lead whole in
    let mine : List Step = data_steps number k from count here in
    let behind : List Step = data_steps number k (from + count) rest (drop (count * S) here) in
    let steps : List Step = mine ++ (behind ++ tail) in
    let all : data_steps number k first many whole ++ tail ≡ ahead ++ steps =
    ap (λ (n : ℕ). data_steps number k first n whole ++ tail) in_it.count
    ∙ ap (λ (l : List Step). l ++ tail) (data_steps-split lead (count + rest) number k first whole ∙ ap (λ (l : List Step). ahead ++ l) (data_steps-split count rest number k from here))
    ∙ three ahead mine behind tail in
    let now : earlier ++ (data_steps number k first many whole ++ tail) ≡ (earlier ++ ahead) ++ steps =
    ap (λ (l : List Step). earlier ++ l) all ∙ sym (append_assoc earlier ahead steps) in
    let start : ℕ → List Writing = λ n. cell_after (earlier ++ ahead) n (map Raw (kept_values c n)) in
    let fills = of.splices.fills in
    let left = length-drop (lead * S) whole in
    let sum : many * S ≡ lead * S + (count * S + rest * S) = ap (λ (n : ℕ). n * S) in_it.count ∙ add-mul lead (count + rest) S ∙ ap (λ (n : ℕ). lead * S + n) (add-mul count rest S) in
    let below = of.inside in
    let with_denied = in_it.count in
    let same_first = in_it.first in
    let reads = data-lasts count number k from here (λ n. cell_after steps n (start n)) (after ((earlier ++ ahead) ++ steps) c) image is (AreBytes-drop (lead * S) whole of.are) (omega (arith, left, fills, sum))
    (omega (arith, below, with_denied)) (subst (λ (s : List Step). IsTorn (after s c) image) now torn)
    (λ n. kept_values-cell c ((earlier ++ ahead) ++ steps) n ∙ ap all_device_bytes (cell_after-append (earlier ++ ahead) steps n (map Raw (kept_values c n))))
    (write-holds count number k from here start (behind ++ tail)
    (λ n low high. quiet-both behind tail n (quiet-data number k (from + count) rest (drop (count * S) here) n (inl high))
    (quiet n (subst (λ (f : ℕ). f * units k ≤ n) same_first low) (subst (λ (f : ℕ). n < (f + count) * units k) same_first high)))
    (HaveFlush-right behind tail flush)) in
    let starts = part_is.starts in
    let ends = part_is.ends in
    ap (λ (f : ℕ). part_of k part (data_reading k (survivor image) f count)) (sym same_first)
    ∙ ap (part_of k part) reads
    ∙ ap (λ (l : List ℕ). Ok l) (cut_out (lead * S) (skipped k part) part.count (count * S) (part.offset - r.offset) (skipped k r) r.count whole bytes in_it.place in_it.fits (omega (arith, starts, ends)) of.splices.written)

pub four : (a b c d e : List Step) → (a ++ ((b ++ c) ++ d)) ++ e ≡ a ++ (b ++ (c ++ (d ++ e)))
four a b c d e = simp append_assoc

lasting-by : (ds : List Deed) (n : ℕ) (k : Keying) (c : Content) (x : Exchange) (between : List Exchange) (bytes : List ℕ) (part : ByteRange) (earlier later : List Step) (image : List (List ℕ)) → IsKeying k
    → DidEach n k (after earlier c) (x ∷ between) ds → WroteBy (request_kind x.request.code) x bytes → x.error ≡ Done → HasFlushed x ⊎ (OneHasFlushed between ⊎ HaveFlush later)
    → IsPartOf part (range_of x.request) → AllByRecursion (LeavesAlone k part) between → IsQuiet k (first_sector k part) (sectors_covered k part) later
    → IsTorn (after ((earlier ++ session_steps n k (x ∷ between) ds) ++ later) c) image → range_reading k (survivor image) part ≡ Ok (part_bytes part (range_of x.request) bytes)
lasting-by [] n k c x between bytes part earlier later image is did wrote done flushed part_is alone quiet torn = absurd did
lasting-by (d ∷ ds) n k c x between bytes part earlier later image is did wrote done flushed part_is alone quiet torn =
    let q = x.request in
    let kind : RequestKind = request_kind q.code in
    let first : ℕ = first_sector k (range_of q) in
    let count : ℕ = sectors_covered k (range_of q) in
    let mine : List Step = exchange_steps n k x d in
    let middle : List Step = session_steps (n + 1) k between ds in
    let flush : List Step = flush_steps (has_fua q.flags) in
    let written = wrote-by kind n k (after earlier c) x bytes d wrote (subst (λ (e : ReplyError). DidBy e kind n k (after earlier c) x d) done did.0.by) in
    let all : (earlier ++ (mine ++ middle)) ++ later ≡ earlier ++ (data_steps n k first count d.whole ++ (flush ++ (middle ++ later))) =
    ap (λ (l : List Step). (earlier ++ (l ++ middle)) ++ later) written.1 ∙ four earlier (data_steps n k first count d.whole) flush middle later in
    let rest_quiet = quiet-session between ds (n + 1) k (after mine (after earlier c)) part alone did.1 in
    let have : HaveFlush (flush ++ (middle ++ later)) = elim flushed [
      | inl own ↦ HaveFlush-left flush (middle ++ later) (have-own n k q d.whole (own-flush kind x bytes wrote own))
      | inr more ↦ HaveFlush-right flush (middle ++ later) (elim more [
        | inl among ↦ HaveFlush-left middle later (one-flushed between ds (n + 1) k (after mine (after earlier c)) among did.1)
        | inr behind ↦ HaveFlush-right middle later behind
      ])
    ] in
    stands n k q part bytes d.whole c earlier (flush ++ (middle ++ later)) image is written.0 part_is
    (λ m low high. quiet-both flush (middle ++ later) m (quiet-flush (has_fua q.flags) m) (quiet-both middle later m (rest_quiet m low high) (quiet m low high)))
    have (subst (λ (s : List Step). IsTorn (after s c) image) all torn)

-- the first steps, and some of the others
pub take-past : (a b : List Step) (t : ℕ) → length a ≤ t → take t (a ++ b) ≡ a ++ take (t - length a) b
take-past a b t late =
    let split : t ≡ length a + (t - length a) = omega (arith, late) in
    ap (λ (n : ℕ). take n (a ++ b)) split ∙ take-append-add a b (t - length a)

pub acknowledged_lasts : (k : Keying) (xs : List Exchange) (c : Content) (new : DiskState) → IsKeying k → (s : Survives k xs c new) → LastsIn k xs c s.deeds
acknowledged_lasts k xs c new is s x bytes part acked t image late torn =
    let a = acked.write in
    let through : List Exchange = a.before ++ (x ∷ a.between) in
    let shape : xs ≡ through ++ a.since = a.are ∙ sym (append_assoc a.before (x ∷ a.between) a.since) in
    let cut = split-did through a.since s.deeds 0 k c (subst (λ (l : List Exchange). DidEach 0 k c l s.deeds) shape s.did) in
    let head = split-did a.before (x ∷ a.between) cut.first 0 k c cut.did_first in
    let early : List Step = session_steps 0 k a.before head.first in
    let mine : List Step = session_steps (0 + length a.before) k (x ∷ a.between) head.second in
    let since : List Step = session_steps (0 + length through) k a.since cut.second in
    let first_steps : session_steps 0 k through cut.first ≡ early ++ mine =
    ap (λ (l : List Deed). session_steps 0 k through l) head.are ∙ steps-split a.before (x ∷ a.between) head.first head.second 0 k c head.did_first in
    let all : session_steps 0 k xs s.deeds ≡ (early ++ mine) ++ since =
    (λ i. session_steps 0 k (shape i) (cut.are i)) ∙ steps-split through a.since cut.first cut.second 0 k c cut.did_first ∙ ap (λ (l : List Step). l ++ since) first_steps in
    let until : session_steps 0 k through s.deeds ≡ early ++ mine =
    ap (λ (l : List Deed). session_steps 0 k through l) cut.are ∙ steps-more through cut.first cut.second 0 k c cut.did_first ∙ first_steps in
    let long : length (early ++ mine) ≤ t = subst (λ (l : List Step). length l ≤ t) until late in
    let later : List Step = take (t - length (early ++ mine)) since in
    let taken : take t (session_steps 0 k xs s.deeds) ≡ (early ++ mine) ++ later = ap (take t) all ∙ take-past (early ++ mine) since t long in
    let quiet : IsQuiet k (first_sector k part) (sectors_covered k part) later =
    λ n low high. quiet-take (t - length (early ++ mine)) since n
    (quiet-session a.since cut.second (0 + length through) k (after (session_steps 0 k through cut.first) c) part (alone-second (LeavesAlone k part) a.between a.since acked.alone) cut.did_second n low high) in
    lasting-by head.second (0 + length a.before) k c x a.between bytes part early later image is head.did_second a.wrote a.done (elim a.flushed [ inl own ↦ inl own | inr more ↦ inr (inl more) ]) acked.part_is (alone-first (LeavesAlone k part) a.between a.since acked.alone) quiet
    (subst (λ (now : Content). IsTorn now image) (moment-after t (session_steps 0 k xs s.deeds) c ∙ ap (λ (l : List Step). after l c) taken) torn)

-- ---- what a flush found

-- the last step of an exchange that has flushed is the flush
pub record EndsInFlush (steps : List Step) : Type 0 where
  earlier : List Step
  are : steps ≡ earlier ++ Flush ∷ []

write-ends : (m : ℕ) (k : Keying) (q : Request) (whole : List ℕ) (count : ℕ) → has_fua q.flags ≡ true → count ≡ length (steps_of_write m k q whole) → EndsInFlush (take count (steps_of_write m k q whole))
write-ends m k q whole count fua all =
    let places : List Step = data_steps m k (first_sector k (range_of q)) (sectors_covered k (range_of q)) whole in
    record { earlier = places; are = all-done (steps_of_write m k q whole) count all ∙ ap (λ (b : Bool). places ++ flush_steps b) fua }

ends-in-flush : (kind : RequestKind) (m : ℕ) (k : Keying) (c : Content) (x : Exchange) (d : Deed) → FlushesBy kind x → DidBy x.error kind m k c x d → EndsInFlush (take d.count (steps_of_kind kind m k x d.whole))
ends-in-flush kinds.Flush m k c x d h by =
    let all = subst (λ (e : ReplyError). DidBy e kinds.Flush m k c x d) h by in
    record { earlier = []; are = all-done (Flush ∷ []) d.count all.1 }
ends-in-flush kinds.Write m k c x d h by =
    let all = subst (λ (e : ReplyError). DidBy e kinds.Write m k c x d) h.0 by in write-ends m k x.request d.whole d.count h.1 all.1
ends-in-flush kinds.WriteZeroes m k c x d h by =
    let all = subst (λ (e : ReplyError). DidBy e kinds.WriteZeroes m k c x d) h.0 by in write-ends m k x.request d.whole d.count h.1 all.1
ends-in-flush kinds.Read m k c x d h by = absurd h
ends-in-flush kinds.Unknown m k c x d h by = absurd h
ends-in-flush kinds.Disconnect m k c x d h by = absurd h

one-ends : (ds : List Deed) (n : ℕ) (k : Keying) (c : Content) (x : Exchange) → DidEach n k c (x ∷ []) ds → HasFlushed x → EndsInFlush (session_steps n k (x ∷ []) ds)
one-ends [] n k c x did flushed = absurd did
one-ends (d ∷ ds) n k c x did flushed =
    let own = ends-in-flush (request_kind x.request.code) n k c x d flushed did.0.by in
    record { earlier = own.earlier; are = append-nil (exchange_steps n k x d) ∙ own.are }

-- the device sectors of logical sectors that are there are no metadata
in_room : (k : Keying) (c : Content) (first count n : ℕ) → IsKeying k → first + count ≤ content_media k c → first * units k ≤ n → n < (first + count) * units k → n + 1 < length c.base
in_room k c first zero n is inside low high = absurd (omega (arith, low, high))
in_room k c first (suc count) n is inside low high =
    let last : ℕ = first + count in
    let there = room (units k) last (length c.base) (some-units k is) (omega (arith, inside)) in
    let split : (first + suc count) * units k ≡ last * units k + units k = omega arith in
    omega (arith, there, split, high)

-- a range stands in a torn image as it stood at the flush
kept-by : (k : Keying) (c : Content) (r : ByteRange) (earlier later : List Step) (image : List (List ℕ)) → IsKeying k → first_sector k r + sectors_covered k r ≤ content_media k c
    → IsQuiet k (first_sector k r) (sectors_covered k r) later → IsTorn (after ((earlier ++ Flush ∷ []) ++ later) c) image
    → range_reading k (survivor image) r ≡ range_reading k (after (earlier ++ Flush ∷ []) c) r
kept-by k c r earlier later image is inside quiet torn =
    let first : ℕ = first_sector k r in
    let count : ℕ = sectors_covered k r in
    ap (part_of k r)
    (data-same k first count (survivor image) (after (earlier ++ Flush ∷ []) c)
    (λ n low high. stands-as-flushed c earlier later image n (quiet n low high) (in_room k c first count n is inside low high) torn))

pub flushed_keeps : (k : Keying) (xs : List Exchange) (c : Content) (new : DiskState) → IsKeying k → (s : Survives k xs c new) → KeepsIn k xs c s.deeds
flushed_keeps k xs c new is s flush r a t image inside late torn =
    let through : List Exchange = a.before ++ (flush ∷ []) in
    let shape : xs ≡ through ++ a.since = a.are ∙ sym (append_assoc a.before (flush ∷ []) a.since) in
    let cut = split-did through a.since s.deeds 0 k c (subst (λ (l : List Exchange). DidEach 0 k c l s.deeds) shape s.did) in
    let head = split-did a.before (flush ∷ []) cut.first 0 k c cut.did_first in
    let early : List Step = session_steps 0 k a.before head.first in
    let own = one-ends head.second (0 + length a.before) k (after early c) flush head.did_second a.flushed in
    let since : List Step = session_steps (0 + length through) k a.since cut.second in
    let before_flush : List Step = early ++ own.earlier in
    let first_steps : session_steps 0 k through cut.first ≡ before_flush ++ Flush ∷ [] =
    ap (λ (l : List Deed). session_steps 0 k through l) head.are ∙ steps-split a.before (flush ∷ []) head.first head.second 0 k c head.did_first
    ∙ ap (λ (l : List Step). early ++ l) own.are ∙ sym (append_assoc early own.earlier (Flush ∷ [])) in
    let all : session_steps 0 k xs s.deeds ≡ (before_flush ++ Flush ∷ []) ++ since =
    (λ i. session_steps 0 k (shape i) (cut.are i)) ∙ steps-split through a.since cut.first cut.second 0 k c cut.did_first ∙ ap (λ (l : List Step). l ++ since) first_steps in
    let until : session_steps 0 k through s.deeds ≡ before_flush ++ Flush ∷ [] =
    ap (λ (l : List Deed). session_steps 0 k through l) cut.are ∙ steps-more through cut.first cut.second 0 k c cut.did_first ∙ first_steps in
    let long : length (before_flush ++ Flush ∷ []) ≤ t = subst (λ (l : List Step). length l ≤ t) until late in
    let later : List Step = take (t - length (before_flush ++ Flush ∷ [])) since in
    let taken : take t (session_steps 0 k xs s.deeds) ≡ (before_flush ++ Flush ∷ []) ++ later = ap (take t) all ∙ take-past (before_flush ++ Flush ∷ []) since t long in
    let quiet : IsQuiet k (first_sector k r) (sectors_covered k r) later =
    λ n low high. quiet-take (t - length (before_flush ++ Flush ∷ [])) since n
    (quiet-session a.since cut.second (0 + length through) k (after (session_steps 0 k through cut.first) c) r a.alone cut.did_second n low high) in
    kept-by k c r before_flush later image is inside quiet
    (subst (λ (now : Content). IsTorn now image) (moment-after t (session_steps 0 k xs s.deeds) c ∙ ap (λ (l : List Step). after l c) taken) torn)
    ∙ ap (λ (l : List Step). range_reading k (after l c) r) (sym until)

-- ---- whoever reads it on a disk with the image

told_range : (told : Option Content) (k : Keying) (r : ByteRange) (image : List (List ℕ)) (answer : Result (List ℕ) ℕ) → told ≡ Some (survivor image) → IfSome told (λ c. range_reading k c r ≡ answer)
    → range_reading k (survivor image) r ≡ answer
told_range told k r image answer is h = subst (λ (o : Option Content). IfSome o (λ c. range_reading k c r ≡ answer)) is h

no_fault : (told : Option Content) (k : Keying) (r : ByteRange) (image : List (List ℕ)) (bytes : List ℕ) → told ≡ Some (survivor image) → range_reading k (survivor image) r ≡ Ok bytes
    → IfSome told (λ c. (offset : ℕ) × (range_reading k c r ≡ Err offset)) → ⊥
no_fault told k r image bytes is reads h =
    let fault = subst (λ (o : Option Content). IfSome o (λ c. (offset : ℕ) × (range_reading k c r ≡ Err offset))) is h in
    let both : Ok bytes ≡ Err fault.0 = sym reads ∙ fault.1 in
    let no : ⊥ = cc both in no

read_by : (error : ReplyError) (side : Side) (y : Exchange) (bytes : List ℕ) (image : List (List ℕ)) (old : DiskState) → HasImage image old → range_reading side.keying (survivor image) (range_of y.request) ≡ Ok bytes
    → AnswersRead side y.request error y.bytes old y.next → AnswersWith error y bytes old
read_by Done side y bytes image old has reads h =
    let mine : Ok y.bytes ≡ Ok bytes = sym (told_range old.content side.keying (range_of y.request) image (Ok y.bytes) has h.1.reads) ∙ reads in
    let same : y.bytes ≡ bytes = cc mine in same
read_by Failed side y bytes image old has reads h = elim h.2 [
  | inl fails ↦ fails
  | inr fault ↦ absurd (no_fault old.content side.keying (range_of y.request) image bytes has reads fault.1)
]
read_by Invalid side y bytes image old has reads h = tt
read_by ReadOnly side y bytes image old has reads h = absurd h
read_by PassesEnd side y bytes image old has reads h = absurd h
read_by NoRoom side y bytes image old has reads h = absurd h

-- what a range of a survivor reads as is what a read returns
pub reads-range : (k : Keying) (r : ByteRange) (bytes : List ℕ) (image : List (List ℕ)) → range_reading k (survivor image) r ≡ Ok bytes → (side : Side) (y : Exchange) (old : DiskState) → side.keying ≡ k → HasImage image old
    → ServesExchange side y old → request_kind y.request.code ≡ kinds.Read → range_of y.request ≡ r → AnswersWith y.error y bytes old
reads-range k r bytes image lasts side y old keyed has serves kind same =
    let reads : range_reading side.keying (survivor image) (range_of y.request) ≡ Ok bytes = (λ i. range_reading (keyed i) (survivor image) (same i)) ∙ lasts in
    let read = subst (λ (j : RequestKind). ServesKind j side y old) kind serves.1 in
    read_by y.error side y bytes image old has reads read.1

pub acknowledged_reads : (k : Keying) (xs : List Exchange) (c : Content) (new : DiskState) → IsKeying k → (s : Survives k xs c new) → ReadsLasting k xs c s.deeds
acknowledged_reads k xs c new is s x bytes part a t image late torn =
    reads-range k part (part_bytes part (range_of x.request) bytes) image (acknowledged_lasts k xs c new is s x bytes part a t image late torn)

-- ---- whoever attaches the image

pub attached_reads : {D : Type 0} (state : D → DiskState) (k : Keying) (r : ByteRange) (bytes : List ℕ) (image : List (List ℕ)) (params : Params) (s : ℕ) (master : List ℕ) (disk : D) (result : Result (Attached D) (D × AttachFault))
    → HasImage image (state disk) → keying_of params (record { bytes = master }) ≡ k
    → ((side : Side) (y : Exchange) (old : DiskState) → side.keying ≡ k → HasImage image old → ServesExchange side y old → request_kind y.request.code ≡ kinds.Read → range_of y.request ≡ r → AnswersWith y.error y bytes old)
    → AttachesOrLacksMemory disk params s master result → AttachesAndAnswers state r bytes result
attached_reads state k r bytes image params s master disk (Ok p) has same reads h =
    λ y serves kind range. reads (side_of p) y (state p.disk) (h.keying ∙ same) (ap (λ d. (state d).content) h.disk ∙ has) serves kind range
attached_reads state k r bytes image params s master disk (Err refused) has same reads h = h.1

pub acknowledged_attaches : {D : Type 0} (state : D → DiskState) (k : Keying) (xs : List Exchange) (c : Content) (new : DiskState) → IsKeying k → (s : Survives k xs c new) → AttachesLasting state k xs c s.deeds
acknowledged_attaches state k xs c new is survives x bytes part a t image late torn m params key readonly s master disk result has opened same answers =
    attached_reads state k part (part_bytes part (range_of x.request) bytes) image params s master disk result has same (acknowledged_reads k xs c new is survives x bytes part a t image late torn)
    (attaches state image m params key readonly s master disk result has opened answers)

-- ---- a session that was closed

closed_lasts : (k : Keying) (xs : List Exchange) (c : Content) (deeds : List Deed) → IsKeying k → DidEach 0 k c xs deeds → LastsClosed k xs c deeds
closed_lasts k xs c deeds is did x bytes part a image torn =
    let cut = split-did a.before (x ∷ a.later) deeds 0 k c (subst (λ (l : List Exchange). DidEach 0 k c l deeds) a.are did) in
    let early : List Step = session_steps 0 k a.before cut.first in
    let mine : List Step = session_steps (0 + length a.before) k (x ∷ a.later) cut.second in
    let all : session_steps 0 k xs deeds ≡ early ++ mine =
    (λ i. session_steps 0 k (a.are i) (cut.are i)) ∙ steps-split a.before (x ∷ a.later) cut.first cut.second 0 k c cut.did_first in
    lasting-by cut.second (0 + length a.before) k c x a.later bytes part early (Flush ∷ []) image is cut.did_second a.wrote a.done (inr (inr tt)) a.part_is a.alone (λ n low high. refl)
    (subst (λ (s : List Step). IsTorn (after (s ++ Flush ∷ []) c) image) all torn)

pub closed_survives : (side : Side) (xs : List Exchange) (old last new : DiskState) (c : Content) → IsKeying side.keying → old.content ≡ Some c → ServesExchanges side xs old last → Logs (event.Flush ∷ []) last new
    → SurvivesClosed side.keying xs c last new
closed_survives side xs old last new c is told served closed =
    let s = session-survives side xs old last c is told served in
    record {
      survives = s;
      content = told_on c (session_steps 0 side.keying xs s.deeds) (Flush ∷ []) last new s.content closed;
      lasts = closed_lasts side.keying xs c s.deeds is s.did;
    }
