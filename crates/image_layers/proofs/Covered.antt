-- Whatever a crash leaves of the files of an image, it may leave of what its disk reports.
use Rattle.std.proofs.Common.{◌≡◌, ℕ, suc, ◌-◌, ◌<◌, ◌≤◌, ◌==◌, nat_lt, Bool, true, false, cond, List, [], ◌∷◌, ◌++◌, length, get_or, refl, sym, ◌∙◌, subst, subst₂, inl, inr, arith, ltb-true, ltb-false, slice_get, IsTrue, Contains, Option, Some, None, bytes_eq}
use Rattle.std.specs.Prelude.{IfSome}
use Rattle.std.proofs.lemmas.Bool.{cases_lt, false≢true, or_cases}
use Rattle.std.proofs.lemmas.List.Elements.{All-contains}
use Rattle.std.proofs.lemmas.Option.{slice_get_read}
use Rattle.std.proofs.lemmas.Slice.Eq.{bytes_eq-Decides}
use Rattle.block_traits.specs.declared.disk.Disk.{Ghosts}
use Rattle.block_traits.specs.Content.{Content, kept_values, logged, with_events}
use Rattle.block_traits.specs.declared.disk.Event.{Event}
use Rattle.disk_layers.specs.Covering.{CoversTold, CoversValues, is_one_of}
use Rattle.disk_layers.specs.History.{with_history}
use Rattle.disk_layers.specs.Joined.{CoversBoth, joined_content, joined_history}
use Rattle.disk_layers.specs.Waiting.{writes_of}
use Rattle.disk_layers.specs.declared.write_behind.Waiting.{Waiting}
use Rattle.disk_layers.proofs.WaitingLemmas.{kept_in_order, longer_in_order}
use Rattle.file_edge.specs.FileDisk as file
use Rattle.file_edge.specs.Told.{Told, contents, of_size, told_in}
use Rattle.file_edge.specs.declared.file_disk.FileDisk.{FileDisk}
use Rattle.image_layers.specs.Images.{TellsImage, image_disk_state, told_in_files}
use Rattle.image_layers.specs.InFiles.{IsImageCovered, LeavesNoMore, kept_if_told, kept_in_both}
use Rattle.image_layers.specs.declared.image_disks.ImageDisk.{ImageDisk}
use Rattle.image_layers.specs.declared.image_disks.ImageDisk.TheVariants.{Plain, Behind, Join}

-- ---- sector by sector

-- each value is one that is reported, and if there are several, several are
pub record Within (below above : List (List ℕ)) : Type 0 where
  pub among : (value : List ℕ) → Contains below value → Contains above value
  pub several : 1 < length below → 1 < length above

pub Within-itself : (values : List (List ℕ)) → Within values values
Within-itself values = record { among = λ value is. is; several = λ more. more }

-- the place where a value stands that is among these
place_of : (values : List (List ℕ)) (value : List ℕ) → is_one_of values value ≡ true → Contains values value
place_of [] value is = absurd (false≢true is)
place_of (first ∷ values) value is = elim (or_cases (bytes_eq first value) (is_one_of values value) is) [
  | inl here ↦ (0, omega arith, (bytes_eq-Decides first value).0 here)
  | inr there ↦ let next = place_of values value there in (suc next.0, omega (arith, next.1), next.2)
]

pub Within-covers : (below above : List (List ℕ)) → CoversValues below above → Within below above
Within-covers below above covers = record {
  among = λ value is. place_of above value (All-contains (λ (v : List ℕ). IsTrue (is_one_of above v)) below value covers.among is);
  several = covers.several;
}

choose : (size n : ℕ) (holds : n < size → ℕ) → ℕ
choose size n holds = elim (cases_lt n size) [ inl small ↦ holds small | inr large ↦ 0 ]

chosen : (size n : ℕ) (P : ℕ → Type 0) (holds : n < size → ℕ) → ((small : n < size) → P (holds small)) → n < size → P (choose size n holds)
unfolding choose
chosen size n P holds all here = elim (cases_lt n size) as (λ w. P (elim w [ inl small ↦ holds small | inr large ↦ 0 ])) [
  | inl small ↦ all small
  | inr large ↦ absurd (omega arith)
]

pub leaves_no_more : (kept : ℕ → List (List ℕ)) (c : Content) → ((n : ℕ) → n < length c.base → Within (kept n) (kept_values c n)) → LeavesNoMore kept c
leaves_no_more kept c within = record {
  whole = λ image left.
      let holds = λ (n : ℕ) (small : n < length c.base). (within n small).among (get_or image n []) (left.values n small) in (
        λ n. choose (length c.base) n (λ small. (holds n small).0),
        record {
          size = left.size_is;
          values = λ n small.
              chosen (length c.base) n (λ k. slice_get (kept_values c n) k ≡ Some (get_or image n [])) (λ small. (holds n small).0)
              (λ small. slice_get_read (kept_values c n) (length (kept_values c n)) (holds n small).0 (get_or image n []) refl (holds n small).1 (sym (holds n small).2)) small;
        },
      );
  torn = λ image left. record {
    same = record { size = left.size_is; sectors = left.sectors };
    others = λ n small. elim (left.others n small) [
      | inl held ↦ inl ((within n (omega arith)).among (get_or image n []) held)
      | inr more ↦ inr ((within n (omega arith)).several more)
    ];
    last = λ n end. (within n (omega arith)).among (get_or image n []) (left.last n end);
  };
  altered = λ image left. record {
    same = record { size = left.size_is; sectors = left.sectors };
    last = λ n end. (within n (omega arith)).among (get_or image n []) (left.last n end);
  };
}

-- ---- the disks

if_sized : (is : Bool) (c d : Content) → cond is (Some c) None ≡ Some d → Some c ≡ Some d
if_sized true c d is = is
if_sized false c d is = absurd (cc is)

-- what the disk of a file reports, its file does
sized : (size : ℕ) (told : Option Content) (c : Content) → of_size size told ≡ Some c → told ≡ Some c
sized size None c is = is
sized size (Some d) c is = if_sized (length d.base == size) d c is

plain : (content told : Option Content) → ((c : Content) → content ≡ Some c → told ≡ Some c) → IfSome content (LeavesNoMore (kept_if_told told))
plain None told same = tt
plain (Some c) told same = subst (λ (t : Option Content). LeavesNoMore (kept_if_told t) c) (sym (same c refl)) (leaves_no_more (kept_values c) c (λ n small. Within-itself (kept_values c n)))

behind : (waiting : List Waiting) (past : List Event) (below told : Option Content) → ((c : Content) → below ≡ Some c → told ≡ Some c) → CoversTold (logged (writes_of waiting) below) (with_history past below)
    → IfSome (with_history past below) (LeavesNoMore (kept_if_told told))
behind waiting past None told same covers = tt
behind waiting past (Some c) told same covers =
    let above : Content = record { base = c.base; history = past } in
    subst (λ (t : Option Content). LeavesNoMore (kept_if_told t) above) (sym (same c refl)) (leaves_no_more (kept_values c) above (λ n small.
    let within = Within-covers (kept_values (with_events (writes_of waiting) c) n) (kept_values above n) (covers n) in
    record {
      among = λ value is. within.among value (kept_in_order c waiting n value is);
      several = λ more. within.several (omega (arith, more, longer_in_order c waiting n));
    }))

where_it_stands : (size n : ℕ) (a b : Content) (above : List (List ℕ)) (first : Bool) → nat_lt n size ≡ first → (n < size → Within (kept_values a n) above) → (size ≤ n → Within (kept_values b (n - size)) above)
    → Within (cond first (kept_values a n) (kept_values b (n - size))) above
where_it_stands size n a b above true is one other = one (ltb-true n size is)
where_it_stands size n a b above false is one other = other (ltb-false n size is)

join : (size : ℕ) (past : List Event) (a b told_a told_b : Option Content) → ((c : Content) → a ≡ Some c → told_a ≡ Some c) → ((c : Content) → b ≡ Some c → told_b ≡ Some c) → CoversBoth size a b (joined_content past a b)
    → IfSome (joined_content past a b) (LeavesNoMore (kept_in_both size told_a told_b))
join size past None b told_a told_b same_a same_b covers = tt
join size past (Some a) None told_a told_b same_a same_b covers = tt
join size past (Some a) (Some b) told_a told_b same_a same_b covers =
    let above : Content = record { base = a.base ++ b.base; history = past } in
    let P : Option Content → Option Content → Type 0 = λ t u. LeavesNoMore (kept_in_both size t u) above in
    subst₂ P (sym (same_a a refl)) (sym (same_b b refl)) (leaves_no_more (kept_in_both size (Some a) (Some b)) above (λ n small.
    where_it_stands size n a b (kept_values above n) (nat_lt n size) refl
    (λ inside. Within-covers (kept_values a n) (kept_values above n) (covers.first n inside))
    (λ beyond. Within-covers (kept_values b (n - size)) (kept_values above n) (covers.second n beyond))))

pub reports : {F : Type 0} (g : Ghosts (FileDisk F)) (told : F → Option Told) → ((d : FileDisk F) → (g.state d).content ≡ (file.file_disk_state told d).content) → (d : FileDisk F) (c : Content)
    → (g.state d).content ≡ Some c → contents (told_in told d.file) ≡ Some c
reports g told same d c is = sized d.sectors (contents (told_in told d.file)) c (sym (same d) ∙ is)

pub covered : {F : Type 0} {g : Ghosts (FileDisk F)} (told : F → Option Told) → ((d : FileDisk F) → (g.state d).content ≡ (file.file_disk_state told d).content) → (disk : ImageDisk F g) → IsImageCovered told disk
covered {F} {g} told same (Plain disk) = plain (g.state disk).content (contents (told_in told disk.file)) (reports g told same disk)
covered {F} {g} told same (Behind under) =
    behind under.waiting.items under.past.events (g.state under.under).content (contents (told_in told under.under.file)) (reports g told same under.under) under.covered
covered {F} {g} told same (Join both) =
    join (g.state both.first).size both.past.events (g.state both.first).content (g.state both.second).content (contents (told_in told both.first.file)) (contents (told_in told both.second.file))
    (reports g told same both.first) (reports g told same both.second) both.covered

-- ---- what an image reports when it is opened

module _ {F : Type 0} {g : Ghosts (FileDisk F)} (told : F → Option Told) (same : (d : FileDisk F) → (g.state d).content ≡ (file.file_disk_state told d).content) where
  -- what its files do
  pub tells_files : (disk : ImageDisk F g) → TellsImage told disk → (image_disk_state disk).content ≡ told_in_files told disk
  tells_files (Plain disk) tells = same disk ∙ tells
  tells_files (Behind behind) tells = tells.1 ∙ same behind.under ∙ tells.0
  tells_files (Join both) tells =
      let one = same both.first ∙ tells.0 in
      let other = same both.second ∙ tells.1 in
      tells.2 ∙ (λ i. joined_content (joined_history (g.state both.first).size (one i) (other i)) (one i) (other i))
