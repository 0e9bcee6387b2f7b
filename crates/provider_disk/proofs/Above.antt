-- What the sectors of a provider read as that stands on a disk upon a provider, if power fails below.
use Rattle.std.proofs.Common.{◌≡◌, ℕ, ◌+◌, ◌-◌, ◌<◌, List, ◌++◌, length, take, drop, sym, ap, ◌∙◌, subst}
use Rattle.std.proofs.Math.Seq.{take-append-add, drop-append_seam}
use Rattle.block_traits.specs.declared.disk.Event.{Event}
use Rattle.block_traits.specs.Content.{Content, IsContentOf, at_moment, with_events}
use Rattle.block_traits.specs.Crash.{IsAltered, IsImage, IsTorn}
use Rattle.eli_base.specs.Keying.{Keying}
use Rattle.range_keys.specs.Ring.{IsKeying}
use Rattle.readings.specs.Steps.{Step, after, events_of}
use Rattle.readings.specs.Survivors.{content_media, moment}
use Rattle.readings.proofs.Crashes.{endures}
use Rattle.provider_disk.specs.Above.{AreStepsOver, EnduresBelow, content_above, content_below, steps_above}
use Rattle.provider_disk.specs.Opened.{KeepsLastData, opened_content, opened_events, opened_data_sectors}
use Rattle.provider_disk.specs.OpenedFits.{IsContentOf-opened, length-opened_sectors}
use Rattle.provider_disk.proofs.OpenedImages.{altered_above, image_above, torn_above}
use Rattle.provider_disk.proofs.OpenedLemmas.{opened_events-append, take-opened}

-- what is after the same front
same_behind : (front events more : List Event) → front ++ events ≡ front ++ more → events ≡ more
same_behind front events more same = sym (drop-append_seam front events) ∙ ap (drop (length front)) same ∙ drop-append_seam front more

-- a moment below is one of the steps
moment_of_steps : (k : Keying) (c : Content) (events : List Event) (steps : List Step) (t : ℕ) → opened_content k (with_events events c) ≡ after steps (opened_content k c)
    → opened_content k (at_moment (length c.history + t) (with_events events c)) ≡ moment (steps_above k c events t) steps (opened_content k c)
moment_of_steps k c events steps t same =
    let count : ℕ = length c.base - 1 in
    let front : List Event = opened_events k count c.history in
    let some : List Event = opened_events k count (take t events) in
    let here : opened_events k count events ≡ events_of steps =
    same_behind front (opened_events k count events) (events_of steps)
    (sym (opened_events-append k count c.history events) ∙ ap (λ (now : Content). now.history) same) in
    let left : opened_events k count (take (length c.history + t) (c.history ++ events)) ≡ front ++ some =
    ap (opened_events k count) (take-append-add c.history events t) ∙ opened_events-append k count c.history (take t events) in
    let right : take (length front + length some) (front ++ events_of steps) ≡ front ++ some =
    take-append-add front (events_of steps) (length some)
    ∙ ap (λ (l : List Event). front ++ take (length some) l) (sym here)
    ∙ ap (λ (l : List Event). front ++ l) (take-opened k count t events) in
    ap (λ (events : List Event). record { base = opened_data_sectors k c.base; history = events }) (left ∙ sym right)

-- what the disk upon the provider reports of a moment below is what it reported after the steps done until then
told_above : (k : Keying) (c : Content) (events : List Event) (steps : List Step) (t : ℕ) → AreStepsOver k c events steps
    → opened_content k (content_below c events t) ≡ content_above k c events steps t
told_above k c events steps t over = moment_of_steps k c events steps t over.same

IsImage-above : (k : Keying) (c : Content) (events : List Event) (steps : List Step) (t : ℕ) (choice : ℕ → ℕ) (image : List (List ℕ)) → AreStepsOver k c events steps
    → IsImage (content_below c events t) choice image → IsImage (content_above k c events steps t) choice (opened_data_sectors k image)
IsImage-above k c events steps t choice image over left =
    let P : Content → Type 0 = λ now. IsImage now choice (opened_data_sectors k image) in
    subst P (told_above k c events steps t over) (image_above k (content_below c events t) choice image left)

IsTorn-above : (k : Keying) (c : Content) (events : List Event) (steps : List Step) (t : ℕ) (image : List (List ℕ)) → AreStepsOver k c events steps
    → IsTorn (content_below c events t) image → KeepsLastData (content_below c events t) image → IsTorn (content_above k c events steps t) (opened_data_sectors k image)
IsTorn-above k c events steps t image over left kept =
    let P : Content → Type 0 = λ now. IsTorn now (opened_data_sectors k image) in
    subst P (told_above k c events steps t over) (torn_above k (content_below c events t) image over.valid over.single kept left)

IsAltered-above : (k : Keying) (c : Content) (events : List Event) (steps : List Step) (t : ℕ) (image : List (List ℕ)) → AreStepsOver k c events steps
    → IsAltered (content_below c events t) image → KeepsLastData (content_below c events t) image → IsAltered (content_above k c events steps t) (opened_data_sectors k image)
IsAltered-above k c events steps t image over left kept =
    let P : Content → Type 0 = λ now. IsAltered now (opened_data_sectors k image) in
    subst P (told_above k c events steps t over) (altered_above k (content_below c events t) image over.valid over.single kept left)

fits_above : (k : Keying) (c : Content) (events : List Event) (steps : List Step) → AreStepsOver k c events steps → IsContentOf (length (opened_content k c).base) (opened_content k c)
fits_above k c events steps over =
    let S : ℕ → Type 0 = λ size. IsContentOf size (opened_content k c) in
    subst S (sym (length-opened_sectors k c.base)) (IsContentOf-opened k (length c.base) c over.valid over.single over.fits)

-- what is promised of the steps done above, of the images of the disk below
pub endures_below : (k j : Keying) (c : Content) (events : List Event) (steps : List Step) (t sector : ℕ) → AreStepsOver k c events steps → IsKeying j → sector < content_media j (opened_content k c)
    → EnduresBelow k j c events steps t sector
endures_below k j c events steps t sector over valid small =
    let endured = endures (opened_content k c) steps (steps_above k c events t) j sector (fits_above k c events steps over) over.good valid small in
    record {
      whole = λ choice image left. endured.whole choice (opened_data_sectors k image) (IsImage-above k c events steps t choice image over left);
      torn = λ image left kept. endured.torn (opened_data_sectors k image) (IsTorn-above k c events steps t image over left kept);
      altered = λ image left kept. endured.altered (opened_data_sectors k image) (IsAltered-above k c events steps t image over left kept);
      flushed = λ place p lt flushed is image left kept. endured.flushed place p lt flushed is (opened_data_sectors k image) (IsTorn-above k c events steps t image over left kept);
    }
