-- The values of a sector, read one after another.
use Rattle.std.proofs.Common.{◌≡◌, ◌≢◌, ℕ, ◌+◌, ◌<◌, List, [], ◌∷◌, ◌++◌, length, take, get_or, ap, ◌∙◌, sym, arith, suc, zero, Some, length-append, refl}
use Rattle.std.specs.List.{slice_get}
use Rattle.std.proofs.lemmas.List.{take_more}
use Rattle.block_traits.specs.declared.disk.Event.{Event}
use Rattle.block_traits.specs.Content.{kept_after}
use Rattle.block_traits.proofs.Contents.{last_of-push, kept_after-append}
use Rattle.crash_disk.specs.declared.survivor.Keeping.{Keeping}
use Rattle.crash_disk.specs.Survivor.{KeepsOf}

slice_get-last : (values : List (List ℕ)) (value : List ℕ) → slice_get (values ++ value ∷ []) (length values) ≡ Some value
slice_get-last [] value = refl
slice_get-last (first ∷ values) value = slice_get-last values value

slice_get-other : (values : List (List ℕ)) (value : List ℕ) (place : ℕ) → place ≢ length values → slice_get (values ++ value ∷ []) place ≡ slice_get values place
slice_get-other [] value zero other = absurd (other refl)
slice_get-other [] value (suc place) other = refl
slice_get-other (first ∷ values) value zero other = refl
slice_get-other (first ∷ values) value (suc place) other = slice_get-other values value place (λ same. other (ap suc same))

-- the new value stands at the place
pub KeepsOf-here : (values : List (List ℕ)) (value : List ℕ) (place : ℕ) (keeping : Keeping) → KeepsOf values place keeping → keeping.count ≡ place → KeepsOf (values ++ value ∷ []) place record { last = value; count = keeping.count + 1; found = Some value }
KeepsOf-here values value place keeping keeps here = record {
  some = omega (arith, length-append values (value ∷ []));
  last = sym (last_of-push values value);
  count = omega (arith, keeps.count, length-append values (value ∷ []));
  found = rw (sym here ∙ keeps.count) (sym (slice_get-last values value));
}

pub KeepsOf-other : (values : List (List ℕ)) (value : List ℕ) (place : ℕ) (keeping : Keeping) → KeepsOf values place keeping → keeping.count ≢ place → KeepsOf (values ++ value ∷ []) place record { last = value; count = keeping.count + 1; found = keeping.found }
KeepsOf-other values value place keeping keeps other = record {
  some = omega (arith, length-append values (value ∷ []));
  last = sym (last_of-push values value);
  count = omega (arith, keeps.count, length-append values (value ∷ []));
  found = keeps.found ∙ sym (slice_get-other values value place (λ same. other (keeps.count ∙ sym same)));
}

pub kept_after-more : (events : List Event) (i n : ℕ) (values : List (List ℕ)) (d : Event) → i < length events → kept_after (take (i + 1) events) n values ≡ kept_after (get_or events i d ∷ []) n (kept_after (take i events) n values)
kept_after-more events i n values d small =
    ap (λ (some : List Event). kept_after some n values) (take_more events i d small) ∙ kept_after-append (take i events) (get_or events i d ∷ []) n values
