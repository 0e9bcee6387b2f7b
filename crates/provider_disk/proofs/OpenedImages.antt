-- Moments and images of a disk upon a provider.
use Rattle.std.proofs.Common.{◌≡◌, ◌⊎◌, inl, inr, ℕ, ◌+◌, ◌-◌, ◌<◌, List, [], ◌∷◌, length, map, get_or, take, sym, ap, ◌∙◌, subst, arith, Some, Ok, Contains}
use Rattle.std.specs.List.{slice_get}
use Rattle.std.specs.Option.{option_map}
use Rattle.std.proofs.lemmas.List.{get_or-map, length-map}
use Rattle.std.proofs.lemmas.List.Elements.{All-take}
use Rattle.std.proofs.lemmas.Option.{slice_get-map}
use Rattle.block_traits.specs.declared.disk.Event.{Event}
use Rattle.block_traits.specs.Content.{Content, IsSector, kept_values}
use Rattle.block_traits.specs.Crash.{HoldsKept, IsAltered, IsImage, IsSameSize, IsTorn, IsUnsettled}
use Rattle.eli_base.specs.Keying.{Keying}
use Rattle.range_keys.specs.Ring.{IsKeying}
use Rattle.sealing.specs.Sectors.{IsSingle, reading}
use Rattle.sealing.proofs.Single.{reads_alone}
use Rattle.provider_disk.specs.Opened.{KeepsLastData, MomentAbove, opened_single, opened_content, opened_events, opened_data_sectors, plain_of}
use Rattle.provider_disk.specs.OpenedFits.{All-opened_from, length-opened_sectors}
use Rattle.provider_disk.proofs.OpenedKept.{get_or-opened_sectors, kept-opened_content}
use Rattle.provider_disk.proofs.OpenedLemmas.{take-opened, within-opened}

pub reads_opened : (k : Keying) (n : ℕ) (bytes : List ℕ) → IsKeying k → IsSingle k → IsSector bytes → reading k n (bytes ∷ []) ≡ Ok (opened_single k n bytes)
unfolding opened_single
reads_opened k n bytes valid single sized =
    let reads = reads_alone k n bytes valid single sized in reads ∙ ap (λ (l : List ℕ). Ok l) (sym (ap plain_of reads))

pub moment_above : (k : Keying) (c : Content) (t : ℕ) → MomentAbove k c t
moment_above k c t = record {
  moment = length (opened_events k (length c.base - 1) (take t c.history));
  within = within-opened k (length c.base - 1) t c.history;
  is = ap (λ (events : List Event). record { base = opened_data_sectors k c.base; history = events }) (sym (take-opened k (length c.base - 1) t c.history));
}

pub image_above : (k : Keying) (c : Content) (choice : ℕ → ℕ) (image : List (List ℕ)) → IsImage c choice image → IsImage (opened_content k c) choice (opened_data_sectors k image)
image_above k c choice image is = record {
  size = length-opened_sectors k image ∙ ap (λ (n : ℕ). n - 1) is.size ∙ sym (length-opened_sectors k c.base);
  values = λ n small.
      let long = length-opened_sectors k c.base in
      let same = is.size in
      let below : n < length c.base - 1 = omega arith in
      let there : n < length image - 1 = omega arith in
      ap (λ (values : List (List ℕ)). slice_get values (choice n)) (kept-opened_content k c n below)
      ∙ slice_get-map (opened_single k n) (kept_values c n) (choice n)
      ∙ ap (option_map (opened_single k n)) (is.values n (omega arith))
      ∙ ap (λ (l : List ℕ). Some l) (sym (get_or-opened_sectors k image n there));
}

-- ---- torn and altered images

Contains-map : {X Y : Type 0} (f : X → Y) (values : List X) (value : X) → Contains values value → Contains (map f values) (f value)
Contains-map f values value has = (
  has.0,
  let long = length-map values f in let within = has.1 in omega (arith, long, within),
  get_or-map f values has.0 value (f value) has.1 ∙ ap f has.2,
)

-- a sector that holds a kept value, or has more than one, so does above
holds_above : (k : Keying) (c : Content) (image : List (List ℕ)) (n : ℕ) → length image ≡ length c.base → n + 1 < length c.base → HoldsKept c image n
    → HoldsKept (opened_content k c) (opened_data_sectors k image) n
holds_above k c image n same small holds =
    let below : n < length c.base - 1 = omega arith in
    let there : n < length image - 1 = omega arith in
    let P : List (List ℕ) → List ℕ → Type 0 = λ values value. Contains values value in
    let Q : List (List ℕ) → Type 0 = λ values. P values (get_or (opened_data_sectors k image) n []) in
    let R : List ℕ → Type 0 = λ value. P (map (opened_single k n) (kept_values c n)) value in
    subst Q (sym (kept-opened_content k c n below))
    (subst R (sym (get_or-opened_sectors k image n there)) (Contains-map (opened_single k n) (kept_values c n) (get_or image n []) holds))

unsettled_above : (k : Keying) (c : Content) (n : ℕ) → n + 1 < length c.base → IsUnsettled c n → IsUnsettled (opened_content k c) n
unsettled_above k c n small more =
    let below : n < length c.base - 1 = omega arith in
    let long : length (kept_values (opened_content k c) n) ≡ length (kept_values c n) = ap length (kept-opened_content k c n below) ∙ length-map (kept_values c n) (opened_single k n) in
    omega arith

same_size_above : (k : Keying) (c : Content) (image : List (List ℕ)) → IsKeying k → IsSingle k → IsSameSize c image → IsSameSize (opened_content k c) (opened_data_sectors k image)
same_size_above k c image valid single same = record {
  size = length-opened_sectors k image ∙ ap (λ (n : ℕ). n - 1) same.size ∙ sym (length-opened_sectors k c.base);
  sectors = All-opened_from k 0 (take (length image - 1) image) valid single (All-take IsSector (length image - 1) image same.sectors);
}

-- the last sector above is the last data sector below
last_above : (k : Keying) (c : Content) (image : List (List ℕ)) → length image ≡ length c.base → KeepsLastData c image → (n : ℕ) → n + 1 ≡ length (opened_content k c).base
    → HoldsKept (opened_content k c) (opened_data_sectors k image) n
last_above k c image same kept n last =
    let long = length-opened_sectors k c.base in
    let at : length c.base - 2 ≡ n = omega arith in
    let P : ℕ → Type 0 = λ m. HoldsKept c image m in
    holds_above k c image n same (omega arith) (subst P at kept)

pub torn_above : (k : Keying) (c : Content) (image : List (List ℕ)) → IsKeying k → IsSingle k → KeepsLastData c image → IsTorn c image → IsTorn (opened_content k c) (opened_data_sectors k image)
torn_above k c image valid single kept torn = record {
  same = same_size_above k c image valid single torn.same;
  others = λ n small.
      let long = length-opened_sectors k c.base in
      let inside : n + 1 < length c.base = omega arith in
      let Above : Type 0 = HoldsKept (opened_content k c) (opened_data_sectors k image) n ⊎ IsUnsettled (opened_content k c) n in
      let so : HoldsKept c image n ⊎ IsUnsettled c n → Above = λ which. elim which [
        | inl holds ↦ inl (holds_above k c image n torn.same.size inside holds)
        | inr more ↦ inr (unsettled_above k c n inside more)
      ] in
      so (torn.others n inside);
  last = last_above k c image torn.same.size kept;
}

pub altered_above : (k : Keying) (c : Content) (image : List (List ℕ)) → IsKeying k → IsSingle k → KeepsLastData c image → IsAltered c image → IsAltered (opened_content k c) (opened_data_sectors k image)
altered_above k c image valid single kept altered = record {
  same = same_size_above k c image valid single altered.same;
  last = last_above k c image altered.same.size kept;
}
