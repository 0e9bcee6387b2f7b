-- What a crash leaves of the files of an image, sector by sector.
use Rattle.std.proofs.Common.{◌≡◌, ◌⊎◌, ℕ, ◌+◌, ◌-◌, ◌<◌, ◌≤◌, nat_lt, Bool, true, false, cond, List, [], ◌++◌, length, length-append, get_or, sym, ◌∙◌, ap, subst, subst₂, inl, inr, refl, arith, ltb-true, ltb-false, Contains, All, Option, Some, None}
use Rattle.std.specs.Prelude.{IfSome}
use Rattle.std.proofs.lemmas.Bool.{cases_lt}
use Rattle.std.proofs.lemmas.List.{get_or_append_left, get_or-append_right}
use Rattle.std.proofs.lemmas.List.Elements.{All-append}
use Rattle.std.proofs.lemmas.Option.{slice_get_within, get_or_from_slice_get}
use Rattle.block_traits.specs.declared.disk.Disk.{Ghosts}
use Rattle.block_traits.specs.declared.disk.Event.{Event}
use Rattle.block_traits.specs.Content.{Content, IsSector, kept_values}
use Rattle.block_traits.specs.Crash.{IsImage, IsTorn}
use Rattle.disk_layers.specs.History.{with_history}
use Rattle.disk_layers.specs.Joined.{joined_content}
use Rattle.block_traits.specs.Disk.{FitsSize}
use Rattle.file_edge.specs.FileDisk as file
use Rattle.file_edge.specs.Told.{Told, contents, told_in}
use Rattle.file_edge.specs.declared.file_disk.FileDisk.{FileDisk}
use Rattle.image_layers.specs.Images.{image_disk_state}
use Rattle.image_layers.specs.InFiles.{AreLeft, IsLeft, IsLeftTorn, IsOfBoth, IsTornOf, IsTornOfFiles, IsWholeOf, IsWholeOfFiles, kept_if_told, kept_in_both, kept_in_files}
use Rattle.image_layers.specs.declared.image_disks.ImageDisk.{ImageDisk}
use Rattle.image_layers.specs.declared.image_disks.ImageDisk.TheVariants.{Plain, Behind, Join}
use Rattle.image_layers.proofs.Covered.{reports}

-- ---- one file

held : (c : Content) (choice : ℕ → ℕ) (image : List (List ℕ)) (n : ℕ) → IsImage c choice image → n < length c.base → Contains (kept_values c n) (get_or image n [])
held c choice image n is small =
    let found = is.values n small in
    (choice n, slice_get_within (kept_values c n) (choice n) (get_or image n []) found, get_or_from_slice_get (kept_values c n) (choice n) (get_or image n []) (get_or image n []) found)

one_whole : (c : Content) (image : List (List ℕ)) → IsWholeOf (Some c) image → IsLeft (length c.base) (kept_values c) image
one_whole c image whole = record { size_is = whole.1.size; values = λ n small. held c whole.0 image n whole.1 small }

one_torn : (c : Content) (image : List (List ℕ)) → IsTornOf (Some c) image → IsLeftTorn (length c.base) (kept_values c) image
one_torn c image torn = record { size_is = torn.same.size; sectors = torn.same.sectors; others = torn.others; last = torn.last }

-- ---- two files

-- by whether a sector is one of the first
at_place : (size n : ℕ) (a b : List (List ℕ)) (P : List (List ℕ) → Type 0) (first : Bool) → nat_lt n size ≡ first → (n < size → P a) → (size ≤ n → P b) → P (cond first a b)
at_place size n a b P true is one other = one (ltb-true n size is)
at_place size n a b P false is one other = other (ltb-false n size is)

module _ (size : ℕ) (a b : Content) (fits : length a.base ≡ size) (image first second : List (List ℕ)) (is : image ≡ first ++ second) (one_size : length first ≡ length a.base) (other_size : length second ≡ length b.base) where
  here : (n : ℕ) → n < size → get_or first n [] ≡ get_or image n []
  here n inside = sym (ap (λ (l : List (List ℕ)). get_or l n []) is ∙ get_or_append_left first second [] n (omega (arith, one_size, fits, inside)))

  there : (n : ℕ) → size ≤ n → get_or second (n - size) [] ≡ get_or image n []
  there n behind = sym (ap (λ (l : List (List ℕ)). get_or l n []) is ∙ get_or-append_right first second size n [] (one_size ∙ fits) behind)

  sum : length (a.base ++ b.base) ≡ size + length b.base
  sum = length-append a.base b.base ∙ ap (λ (k : ℕ). k + length b.base) fits

  size_both : length image ≡ length (a.base ++ b.base)
  size_both =
      let lengths = length-append first second in
      let all = ap (λ (l : List (List ℕ)). length l) is in
      omega (arith, lengths, all, one_size, other_size, fits, sum)

  pub both_whole : IsWholeOf (Some a) first → IsWholeOf (Some b) second → IsLeft (length (a.base ++ b.base)) (kept_in_both size (Some a) (Some b)) image
  both_whole one other = record {
    size_is = size_both;
    values = λ n small.
        at_place size n (kept_values a n) (kept_values b (n - size)) (λ l. Contains l (get_or image n [])) (nat_lt n size) refl
        (λ inside. subst (Contains (kept_values a n)) (here n inside) (held a one.0 first n one.1 (omega (arith, inside, fits))))
        (λ behind. subst (Contains (kept_values b (n - size))) (there n behind) (held b other.0 second (n - size) other.1 (omega (arith, behind, small, sum))));
  }

  pub both_torn : IsTornOf (Some a) first → IsTornOf (Some b) second → IsLeftTorn (length (a.base ++ b.base)) (kept_in_both size (Some a) (Some b)) image
  both_torn one other = record {
    size_is = size_both;
    sectors = subst (All IsSector) (sym is) (All-append IsSector first second one.same.sectors other.same.sectors);
    others = λ n small.
        at_place size n (kept_values a n) (kept_values b (n - size)) (λ l. Contains l (get_or image n []) ⊎ (1 < length l)) (nat_lt n size) refl
        (λ inside. subst (λ (v : List ℕ). Contains (kept_values a n) v ⊎ (1 < length (kept_values a n))) (here n inside) (elim (cases_lt (n + 1) size) [
          | inl before ↦ one.others n (omega (arith, before, fits))
          | inr end ↦ inl (one.last n (omega (arith, end, inside, fits)))
        ]))
        (λ behind. subst (λ (v : List ℕ). Contains (kept_values b (n - size)) v ⊎ (1 < length (kept_values b (n - size)))) (there n behind) (other.others (n - size) (omega (arith, behind, small, sum))));
    last = λ n end.
        at_place size n (kept_values a n) (kept_values b (n - size)) (λ l. Contains l (get_or image n [])) (nat_lt n size) refl
        (λ inside. subst (Contains (kept_values a n)) (here n inside) (one.last n (omega (arith, inside, end, sum, fits))))
        (λ behind. subst (Contains (kept_values b (n - size))) (there n behind) (other.last (n - size) (omega (arith, behind, end, sum))));
  }

-- ---- the disks

abbrev Files : Option Content → Content → Type 0
Files told c = AreLeft (IsWholeOf told) (IsTornOf told) (kept_if_told told) c

one_file : (c : Content) (past : List Event) → Files (Some c) (record { base = c.base; history = past })
one_file c past = record { whole = one_whole c; torn = one_torn c }

plain : (content told : Option Content) → ((c : Content) → content ≡ Some c → told ≡ Some c) → IfSome content (Files told)
plain None told same = tt
plain (Some c) told same = subst (λ (t : Option Content). Files t c) (sym (same c refl)) (one_file c c.history)

behind : (past : List Event) (below told : Option Content) → ((c : Content) → below ≡ Some c → told ≡ Some c) → IfSome (with_history past below) (Files told)
behind past None told same = tt
behind past (Some c) told same =
    subst (λ (t : Option Content). Files t (record { base = c.base; history = past })) (sym (same c refl)) (one_file c past)

whole_size : (c : Content) (image : List (List ℕ)) → IsWholeOf (Some c) image → length image ≡ length c.base
whole_size c image whole = whole.1.size

abbrev Both : ℕ → Option Content → Option Content → Content → Type 0
Both size a b c = AreLeft (IsOfBoth (IsWholeOf a) (IsWholeOf b)) (IsOfBoth (IsTornOf a) (IsTornOf b)) (kept_in_both size a b) c

join : (size : ℕ) (past : List Event) (a b told_a told_b : Option Content) → ((c : Content) → a ≡ Some c → told_a ≡ Some c) → ((c : Content) → b ≡ Some c → told_b ≡ Some c) → FitsSize size a
    → IfSome (joined_content past a b) (Both size told_a told_b)
join size past None b told_a told_b same_a same_b fits = tt
join size past (Some a) None told_a told_b same_a same_b fits = tt
join size past (Some a) (Some b) told_a told_b same_a same_b fits =
    let above : Content = record { base = a.base ++ b.base; history = past } in
    let P : Option Content → Option Content → Type 0 = λ t u. Both size t u above in
    subst₂ P (sym (same_a a refl)) (sym (same_b b refl)) (record {
      whole = λ image left. both_whole size a b fits.sectors image left.first left.second left.is (whole_size a left.first left.one) (whole_size b left.second left.other) left.one left.other;
      torn = λ image left. both_torn size a b fits.sectors image left.first left.second left.is left.one.same.size left.other.same.size left.one left.other;
    })

pub are_left : {F : Type 0} {g : Ghosts (FileDisk F)} (told : F → Option Told) → ((d : FileDisk F) → (g.state d).content ≡ (file.file_disk_state told d).content) → (disk : ImageDisk F g)
    → IfSome (image_disk_state disk).content (AreLeft (IsWholeOfFiles told disk) (IsTornOfFiles told disk) (kept_in_files told disk))
are_left {F} {g} told same (Plain disk) = plain (g.state disk).content (contents (told_in told disk.file)) (reports g told same disk)
are_left {F} {g} told same (Behind under) = behind under.past.events (g.state under.under).content (contents (told_in told under.under.file)) (reports g told same under.under)
are_left {F} {g} told same (Join both) =
    join (g.state both.first).size both.past.events (g.state both.first).content (g.state both.second).content (contents (told_in told both.first.file)) (contents (told_in told both.second.file))
    (reports g told same both.first) (reports g told same both.second) (g.state both.first).well_formed.fits
