use Rattle.std.proofs.Common.{◌≡◌, ℕ, Bool, true, false, List, Option, Some, IfSome, slice_get, refl, ap, subst, ◌∙◌}
use Rattle.std.specs.Bool.{OnTrue, OnFalse}
use Rattle.std.specs.Map.{keys_of}
use Rattle.range_keys.specs.Keys.{numbered_key, first_part, second_part}
use Rattle.range_keys.specs.Kept.{expanded_key}
use Rattle.range_keys.specs.Numbers.{AfterUse}
use Rattle.range_keys.specs.declared.expanded.RangeKey.{RangeKey}
use Rattle.range_keys.proofs.ring.KeyRing.key_at.Goals as goal

-- the key that is lent is that of the number that was brought
lent_right : (is_kept : Bool) (es : List (ℕ × RangeKey)) (unkept : Option RangeKey) (number : ℕ) (right key : RangeKey) →
    OnTrue is_kept (slice_get es 0 ≡ Some (number, right)) → OnFalse is_kept (unkept ≡ Some right) →
    OnTrue is_kept (IfSome (slice_get es 0) (λ e. key ≡ e.1)) → OnFalse is_kept (unkept ≡ Some key) → key ≡ right
lent_right true es unkept number right key front none lent other = (rw front at lent)
lent_right false es unkept number right key front none lent other = cc

pub returns : goal.returns
returns c =
    let p = c.self.inside.params in
    let base = c.self.inside.range_base in
    let number = c.key_number-number.result in
    let keys = c.bring-is_kept.new.self in
    let key = lent_right c.bring-is_kept.result keys.cache.entries keys.unkept number (expanded_key p.cipher p.keylen base number) c.lent.result.now
    c.bring-is_kept.ensures.front c.bring-is_kept.ensures.unkept c.lent.ensures.kept c.lent.ensures.unkept in
    let is : ℕ → Type 0 = λ n. AfterUse n (keys_of c.self.inside.keys.cache.entries) (keys_of keys.cache.entries) in
    let first : c.lent.result.now.first ≡ _ = ap (λ (k : RangeKey). k.first) key ∙ (λ i. first_part p.keylen (numbered_key (c.self.invariant.ranges i) (c.key_number-number.ensures i))) in
    let second : c.lent.result.now.second ≡ _ = ap (λ (k : RangeKey). k.second) key ∙ (λ i. second_part p.cipher p.keylen (numbered_key (c.self.invariant.ranges i) (c.key_number-number.ensures i))) in
    rw (← c.self.view_is) ((refl, λ _. tt, (refl, subst is c.key_number-number.ensures c.bring-is_kept.ensures.numbers)), record { after = tt; first = first; second = second })
