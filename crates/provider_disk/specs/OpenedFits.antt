-- What a disk upon a provider reports is well formed.
use Rattle.std.proofs.Common.{◌≡◌, ℕ, suc, ◌+◌, ◌-◌, ◌*◌, nat_lt, subst, sym, Bool, true, false, cond, List, [], ◌∷◌, length, take, refl, ap, ◌∙◌, arith, All, Option, Some, None}
use Rattle.std.specs.Option.{option_map}
use Rattle.std.proofs.lemmas.Bool.{ltb-true}
use Rattle.std.proofs.lemmas.List.{length-take-le}
use Rattle.std.proofs.lemmas.List.Elements.{All-nil, All-cons, All-head, All-tail, All-take}
use Rattle.block_traits.specs.declared.disk.Event.{Event}
use Rattle.block_traits.specs.declared.disk.Event.TheVariants.{Write, Flush}
use Rattle.block_traits.specs.Content.{Content, IsContentOf, IsEventOf, IsSector}
use Rattle.block_traits.specs.Disk.{DiskState, FitsSize, IsWellFormed}
use Rattle.eli_base.specs.Keying.{Keying}
use Rattle.range_keys.specs.Keys.{first_key, second_key, tweak}
use Rattle.range_keys.specs.Ring.{IsKeying}
use Rattle.sealing.specs.Sectors.{IsSingle}
use Rattle.sealing.proofs.Keys.{IsKey-first_key}
use Rattle.sealing.proofs.Runs.{length-xts_open}
use Rattle.sealing.proofs.Single.{reads_alone}
use Rattle.provider_disk.specs.Opened.{opened_single, opened_content, opened_events, opened_from, opened_data_sectors, plain_of}

pub length-opened : (k : Keying) (n : ℕ) (bytes : List ℕ) → IsKeying k → IsSingle k → IsSector bytes → IsSector (opened_single k n bytes)
unfolding opened_single
length-opened k n bytes valid single size =
    ap (λ r. length (plain_of r)) (reads_alone k n bytes valid single size)
    ∙ length-xts_open (first_key k (n * 512)) (second_key k (n * 512)) (tweak (n * 512)) bytes (IsKey-first_key k (n * 512) valid).long (omega arith)
    ∙ size

pub length-opened_from : (k : Keying) (n : ℕ) (sectors : List (List ℕ)) → length (opened_from k n sectors) ≡ length sectors
length-opened_from k n [] = refl
length-opened_from k n (bytes ∷ sectors) = ap suc (length-opened_from k (n + 1) sectors)

pub All-opened_from : (k : Keying) (n : ℕ) (sectors : List (List ℕ)) → IsKeying k → IsSingle k → All IsSector sectors → All IsSector (opened_from k n sectors)
All-opened_from k n [] valid single sized = All-nil IsSector
All-opened_from k n (bytes ∷ sectors) valid single sized =
    All-cons IsSector (opened_single k n bytes) (opened_from k (n + 1) sectors) (length-opened k n bytes valid single (All-head IsSector bytes sectors sized))
    (All-opened_from k (n + 1) sectors valid single (All-tail IsSector bytes sectors sized))

-- a write that may be left out
All-opened_write : (inside : Bool) (k : Keying) (count n : ℕ) (bytes : List ℕ) (events : List Event) → nat_lt n count ≡ inside → IsSector (opened_single k n bytes) → All (IsEventOf count) events
    → All (IsEventOf count) (cond inside (Write n (opened_single k n bytes) ∷ events) events)
All-opened_write true k count n bytes events is size rest = All-cons (IsEventOf count) (Write n (opened_single k n bytes)) events (ltb-true n count is, size) rest
All-opened_write false k count n bytes events is size rest = rest

All-opened_events : (k : Keying) (size count : ℕ) (events : List Event) → IsKeying k → IsSingle k → All (IsEventOf size) events → All (IsEventOf count) (opened_events k count events)
All-opened_events k size count [] valid single fit = All-nil (IsEventOf count)
All-opened_events k size count (Write n bytes ∷ events) valid single fit =
    All-opened_write (nat_lt n count) k count n bytes (opened_events k count events) refl (length-opened k n bytes valid single (All-head (IsEventOf size) (Write n bytes) events fit).1)
    (All-opened_events k size count events valid single (All-tail (IsEventOf size) (Write n bytes) events fit))
All-opened_events k size count (Flush ∷ events) valid single fit =
    All-cons (IsEventOf count) Flush (opened_events k count events) tt (All-opened_events k size count events valid single (All-tail (IsEventOf size) Flush events fit))

pub length-opened_sectors : (k : Keying) (sectors : List (List ℕ)) → length (opened_data_sectors k sectors) ≡ length sectors - 1
length-opened_sectors k sectors = length-opened_from k 0 (take (length sectors - 1) sectors) ∙ length-take-le (length sectors - 1) sectors (omega arith)

pub IsContentOf-opened : (k : Keying) (size : ℕ) (c : Content) → IsKeying k → IsSingle k → IsContentOf size c → IsContentOf (size - 1) (opened_content k c)
IsContentOf-opened k size c valid single content =
    let same : length c.base - 1 ≡ size - 1 = ap (λ (n : ℕ). n - 1) content.sectors in
    record {
      sectors = length-opened_sectors k c.base ∙ same;
      base = All-opened_from k 0 (take (length c.base - 1) c.base) valid single (All-take IsSector (length c.base - 1) c.base content.base);
      events = subst (λ (n : ℕ). All (IsEventOf (size - 1)) (opened_events k n c.history)) (sym same) (All-opened_events k size (size - 1) c.history valid single content.events);
    }

FitsSize-opened : (k : Keying) (size : ℕ) (told : Option Content) → IsKeying k → IsSingle k → FitsSize size told → FitsSize (size - 1) (option_map (opened_content k) told)
FitsSize-opened k size None valid single fits = tt
FitsSize-opened k size (Some c) valid single fits = IsContentOf-opened k size c valid single fits

pub IsWellFormed-opened : (k : Keying) (d : DiskState) → IsKeying k → IsSingle k → IsWellFormed (d.size - 1) false (option_map (opened_content k) d.content)
IsWellFormed-opened k d valid single =
    let bound = d.well_formed.bound in
    record {
      bound = omega arith;
      fits = FitsSize-opened k d.size d.content valid single d.well_formed.fits;
      shown = λ h. absurd (cc h);
    }
