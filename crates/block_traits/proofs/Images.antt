-- The images that a crash leaves, each kind among the next.
use Rattle.std.proofs.Common.{◌≡◌, ◌⊎◌, ℕ, ◌+◌, ◌<◌, List, [], ◌∷◌, length, get_or, inl, inr, arith, refl, subst, All, Contains}
use Rattle.std.proofs.lemmas.Option.{slice_get_within, get_or_from_slice_get}
use Rattle.std.proofs.lemmas.List.Elements.{All-nil, All-cons, All-from_get_or, All-contains}
use Rattle.block_traits.specs.Content.{Content, IsSector, IsContentOf, kept_values}
use Rattle.block_traits.specs.Crash.{HoldsKept, IsUnsettled, IsImage, IsTorn, IsAltered}
use Rattle.block_traits.specs.Moments.{IsUnaltered}
use Rattle.block_traits.proofs.Contents.{All-kept_values}

HoldsKept-image : (c : Content) (choice : ℕ → ℕ) (image : List (List ℕ)) (n : ℕ) → IsImage c choice image → n < length c.base → HoldsKept c image n
HoldsKept-image c choice image n is small =
    let chosen = is.values n small in
    (choice n, slice_get_within (kept_values c n) (choice n) (get_or image n []) chosen, get_or_from_slice_get (kept_values c n) (choice n) (get_or image n []) (get_or image n []) chosen)

pub IsTorn-image : (size : ℕ) (c : Content) (choice : ℕ → ℕ) (image : List (List ℕ)) → IsContentOf size c → IsImage c choice image → IsTorn c image
IsTorn-image size c choice image content is =
    let holds = λ (n : ℕ) (small : n < length c.base). HoldsKept-image c choice image n is small in
    record {
      same = record {
        size = is.size;
        sectors = All-from_get_or IsSector image [] (λ n small.
            let within : n < length c.base = omega (arith, is.size) in
            let fits : n < size = omega (arith, content.sectors) in
            All-contains IsSector (kept_values c n) (get_or image n []) (All-kept_values size c n content fits) (holds n within));
      };
      others = λ n small. inl (holds n (omega arith));
      last = λ n end. holds n (omega arith);
    }

pub IsAltered-torn : (c : Content) (image : List (List ℕ)) → IsTorn c image → IsAltered c image
IsAltered-torn c image torn = record { same = torn.same; last = torn.last }

Contains-one : (bytes value : List ℕ) → Contains (bytes ∷ []) value → value ≡ bytes
Contains-one bytes value = All-contains (λ (v : List ℕ). v ≡ bytes) (bytes ∷ []) value (All-cons (λ (v : List ℕ). v ≡ bytes) bytes [] refl (All-nil (λ (v : List ℕ). v ≡ bytes)))

held_or_settled : (c : Content) (image : List (List ℕ)) (n : ℕ) (bytes : List ℕ) → kept_values c n ≡ bytes ∷ [] → HoldsKept c image n ⊎ IsUnsettled c n → get_or image n [] ≡ bytes
held_or_settled c image n bytes one (inl holds) =
    let P : List (List ℕ) → Type 0 = λ values. Contains values (get_or image n []) in Contains-one bytes (get_or image n []) (subst P one holds)
held_or_settled c image n bytes one (inr more) =
    let P : List (List ℕ) → Type 0 = λ values. 1 < length values in
    let two : 1 < length (bytes ∷ []) = subst P one more in absurd (omega arith)

-- in an image with no sector altered a data sector that has one kept value holds it
pub held_when_settled : (c : Content) (image : List (List ℕ)) (n : ℕ) (bytes : List ℕ) → n + 1 < length c.base → kept_values c n ≡ bytes ∷ [] → IsUnaltered c image → get_or image n [] ≡ bytes
held_when_settled c image n bytes small one (inl whole) =
    let holds = HoldsKept-image c whole.0 image n whole.1 (omega arith) in
    let P : List (List ℕ) → Type 0 = λ values. Contains values (get_or image n []) in
    Contains-one bytes (get_or image n []) (subst P one holds)
held_when_settled c image n bytes small one (inr torn) = held_or_settled c image n bytes one (torn.others n small)

-- what holds of each value that is kept of the last sector holds of what it has
pub held_at_end : (P : List ℕ → Type 0) (c : Content) (image : List (List ℕ)) (n : ℕ) → n + 1 ≡ length c.base → All P (kept_values c n) → IsUnaltered c image → P (get_or image n [])
held_at_end P c image n end all (inl whole) = All-contains P (kept_values c n) (get_or image n []) all (HoldsKept-image c whole.0 image n whole.1 (omega arith))
held_at_end P c image n end all (inr torn) = All-contains P (kept_values c n) (get_or image n []) all (torn.last n end)
