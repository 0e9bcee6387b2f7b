-- What calls of the disk below are for the disk upon a provider.
use Rattle.std.proofs.Common.{◌≡◌, ℕ, ◌+◌, ◌-◌, ◌*◌, ◌/◌, ◌<◌, ◌≤◌, nat_lt, Bool, true, false, cond, List, [], ◌∷◌, ◌++◌, length, take, drop, get_or, refl, sym, ap, ◌∙◌, subst, arith, Option, Some, None, Result, Ok, Err, append-nil, length-append}
use Rattle.std.specs.Option.{option_map}
use Rattle.std.proofs.lemmas.Bool.{lt-ltb}
use Rattle.std.proofs.lemmas.List.{take_all, take-append-drop, take-append-le}
use Rattle.std.proofs.Math.Seq.{take-length}
use Rattle.aes_core.specs.Schedule.{AreBytes}
use Rattle.block_traits.specs.declared.disk.Event.{Event}
use Rattle.block_traits.specs.declared.disk.Event.TheVariants.{Write, Flush}
use Rattle.block_traits.specs.Content.{Content, IsSector, logged, present}
use Rattle.block_traits.specs.Disk.{DiskState, FailsIn, FitsSize, Logs, writes_from}
use Rattle.eli_base.specs.Keying.{Keying}
use Rattle.sector_runs.specs.Reading.{data_reading, sector_reading, standing}
use Rattle.sector_runs.specs.Writing.{data_writes, sector_writes}
use Rattle.range_keys.specs.Ring.{IsKeying}
use Rattle.sealing.specs.Sectors.{IsSingle, joined, reading, seal, units}
use Rattle.sealing.proofs.Sectors.{length-seal, reading-seal}
use Rattle.provider_disk.specs.Opened.{opened_single, opened_content, opened_events, plain_of}

-- ---- events

cond-append : (b : Bool) (event : Event) (events more : List Event) → cond b (event ∷ (events ++ more)) (events ++ more) ≡ cond b (event ∷ events) events ++ more
cond-append true event events more = refl
cond-append false event events more = refl

pub opened_events-append : (k : Keying) (count : ℕ) (events more : List Event) → opened_events k count (events ++ more) ≡ opened_events k count events ++ opened_events k count more
opened_events-append k count [] more = refl
opened_events-append k count (Write n bytes ∷ events) more =
    ap (λ (l : List Event). cond (nat_lt n count) (Write n (opened_single k n bytes) ∷ l) l) (opened_events-append k count events more)
    ∙ cond-append (nat_lt n count) (Write n (opened_single k n bytes)) (opened_events k count events) (opened_events k count more)
opened_events-append k count (Flush ∷ events) more = ap (λ (l : List Event). Flush ∷ l) (opened_events-append k count events more)

-- what is logged below is logged here, opened
logged-opened : (k : Keying) (size : ℕ) (events : List Event) (told : Option Content) → FitsSize size told
    → option_map (opened_content k) (logged events told) ≡ logged (opened_events k (size - 1) events) (option_map (opened_content k) told)
logged-opened k size events None fits = refl
logged-opened k size events (Some c) fits =
    let count : length c.base - 1 ≡ size - 1 = ap (λ (n : ℕ). n - 1) fits.sectors in
    ap (λ (h : List Event). Some (record { base = (opened_content k c).base; history = h }))
    (opened_events-append k (length c.base - 1) c.history events ∙ ap (λ (n : ℕ). opened_events k (length c.base - 1) c.history ++ opened_events k n events) count)

-- a disk upon a provider of the disk below
pub record IsUpon (k : Keying) (below here : DiskState) : Type 0 where
  pub size : here.size ≡ below.size - 1
  pub shows : here.shows ≡ false
  pub content : here.content ≡ option_map (opened_content k) below.content
  pub faults : here.faults ≡ below.faults

pub Logs-opened : (k : Keying) (events : List Event) {below later old new : DiskState} → IsUpon k below old → IsUpon k later new → Logs events below later
    → Logs (opened_events k (below.size - 1) events) old new
Logs-opened k events {below} {later} {old} {new} is will logs = record {
  content =
      will.content ∙ ap (option_map (opened_content k)) logs.content ∙ logged-opened k below.size events below.content below.well_formed.fits
      ∙ ap (logged (opened_events k (below.size - 1) events)) (sym is.content);
  size = will.size ∙ ap (λ (n : ℕ). n - 1) logs.size ∙ sym is.size;
  shows = will.shows ∙ sym is.shows;
  faults = let a = will.faults in let b = is.faults in let c = logs.faults in omega arith;
}

-- the first of some events, opened, are the first of the opened ones
pub take-opened : (k : Keying) (size count : ℕ) (events : List Event)
    → take (length (opened_events k size (take count events))) (opened_events k size events) ≡ opened_events k size (take count events)
take-opened k size count events =
    let first : List Event = opened_events k size (take count events) in
    let rest : List Event = opened_events k size (drop count events) in
    let whole : opened_events k size events ≡ first ++ rest = ap (opened_events k size) (sym (take-append-drop count events)) ∙ opened_events-append k size (take count events) (drop count events) in
    ap (take (length first)) whole ∙ take-append-le (length first) first rest (omega arith) ∙ take-length first

pub within-opened : (k : Keying) (size count : ℕ) (events : List Event) → length (opened_events k size (take count events)) ≤ length (opened_events k size events)
within-opened k size count events =
    let first : List Event = opened_events k size (take count events) in
    let rest : List Event = opened_events k size (drop count events) in
    let whole : opened_events k size events ≡ first ++ rest = ap (opened_events k size) (sym (take-append-drop count events)) ∙ opened_events-append k size (take count events) (drop count events) in
    let long = ap length whole in
    omega (arith, length-append first rest)

pub FailsIn-opened : (k : Keying) (events : List Event) {below later old new : DiskState} → IsUpon k below old → IsUpon k later new → FailsIn events below later
    → FailsIn (opened_events k (below.size - 1) events) old new
FailsIn-opened k events {below} {later} {old} {new} is will fails =
    let L : List Event → Type 0 = λ events. Logs events old new in
    record {
      count = length (opened_events k (below.size - 1) (take fails.count events));
      within = within-opened k (below.size - 1) fails.count events;
      logs = subst L (sym (take-opened k (below.size - 1) fails.count events)) (Logs-opened k (take fails.count events) is will fails.logs);
      rose = let a = will.faults in let b = is.faults in let c = fails.rose in omega arith;
    }

-- ---- one sector

pub units_of : (k : Keying) → IsSingle k → units k ≡ 1
units_of k single = ap (λ auth. units (record k { auth = auth })) single.off ∙ ap (λ (size : ℕ). (size - 1) / 512 + 1) single.size

one_of : (sectors : List (List ℕ)) → length sectors ≡ 1 → sectors ≡ get_or sectors 0 [] ∷ []
one_of [] one = absurd (omega arith)
one_of (bytes ∷ []) one = refl
one_of (bytes ∷ next ∷ sectors) one = absurd (omega arith)

-- the write of a logical sector, opened, is the write of its bytes
pub opened-writes : (k : Keying) (size n count : ℕ) (bytes : List ℕ) → IsKeying k → IsSingle k → AreBytes bytes → IsSector bytes → n < size → count ≡ 1
    → opened_events k size (data_writes k n count bytes) ≡ Write n bytes ∷ []
unfolding opened_single
opened-writes k size n count bytes valid single small sized inside one =
    let sector : length bytes ≡ k.sectorsize = sized ∙ sym single.size in
    let all : take k.sectorsize bytes ≡ bytes = take_all k.sectorsize bytes (omega arith) in
    let is : seal k n bytes ≡ get_or (seal k n bytes) 0 [] ∷ [] = one_of (seal k n bytes) (length-seal k n bytes ∙ units_of k single) in
    let place : n * units k ≡ n = ap (λ (u : ℕ). n * u) (units_of k single) ∙ omega arith in
    let writes : data_writes k n count bytes ≡ Write n (get_or (seal k n bytes) 0 []) ∷ [] =
    ap (λ (c : ℕ). data_writes k n c bytes) one
    ∙ append-nil (sector_writes k n (take k.sectorsize bytes))
    ∙ ap (sector_writes k n) all
    ∙ (λ i. writes_from (place i) (is i)) in
    let test : nat_lt n size ≡ true = lt-ltb n size inside in
    let gives : opened_single k n (get_or (seal k n bytes) 0 []) ≡ bytes =
    ap (λ (l : List (List ℕ)). plain_of (reading k n l)) (sym is) ∙ ap plain_of (reading-seal k n bytes valid small sector) in
    ap (opened_events k size) writes
    ∙ ap (λ (b : Bool). cond b (Write n (opened_single k n (get_or (seal k n bytes) 0 [])) ∷ []) []) test
    ∙ ap (λ (l : List ℕ). Write n l ∷ []) gives

-- what one logical sector reads as
joined-one : (r : Result (List ℕ) ℕ) (bytes : List ℕ) → joined (r ∷ []) ≡ Ok bytes → bytes ≡ plain_of r
joined-one (Ok found) bytes is = let e : Ok (found ++ []) ≡ Ok bytes = is in let same : found ++ [] ≡ bytes = cc e in sym same ∙ append-nil found
joined-one (Err offset) bytes is = absurd (cc is)

-- what stands here is what stands below, opened
present_of : (k : Keying) (c : Content) (n : ℕ) → IsSingle k → sector_reading k c n ≡ reading k n (present c n ∷ [])
present_of k c n single =
    let place : n * units k ≡ n = ap (λ (u : ℕ). n * u) (units_of k single) ∙ omega arith in
    ap (λ (u : ℕ). reading k n (standing c (n * units k) u)) (units_of k single) ∙ ap (λ (m : ℕ). reading k n (standing c m 1)) place

pub reads-opened : (k : Keying) (c : Content) (n count : ℕ) (bytes : List ℕ) → IsSingle k → count ≡ 1 → data_reading k c n count ≡ Ok bytes → bytes ≡ opened_single k n (present c n)
unfolding opened_single
reads-opened k c n count bytes single one is =
    let read : joined (sector_reading k c n ∷ []) ≡ Ok bytes = ap (data_reading k c n) (sym one) ∙ is in
    joined-one (sector_reading k c n) bytes read ∙ ap plain_of (present_of k c n single)
