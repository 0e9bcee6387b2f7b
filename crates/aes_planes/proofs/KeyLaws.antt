-- The planes of the round keys, filled in one after the other.
use Rattle.std.proofs.Common.{◌≡◌, ◌≢◌, ℕ, ◌+◌, ◌<◌, ◌≤◌, List, get_or, set, length, sym, subst, ◌∙◌, arith, inl, inr}
use Rattle.std.proofs.lemmas.Bool.{cases_lt}
use Rattle.std.proofs.lemmas.List.{get_or-set_same, get_or-set_other, length-set}
use Rattle.aes_core.specs.State.{IsState}
use Rattle.aes_core.specs.Aes.{round_key}
use Rattle.aes_planes.specs.Planes.{rows, turned}
use Rattle.aes_planes.specs.Blocks.{AreOf, AreKeys, key_at}
use Rattle.aes_planes.specs.declared.round_keys.KeyPlanes.{KeyPlanes}

abbrev middle_of : List ℕ → ℕ → List ℕ
middle_of w r = rows (turned (round_key w r))

-- the first round key and the next n ones are there
pub record HasKeys (w : List ℕ) (keys : List KeyPlanes) (n : ℕ) : Type 0 where
  pub long : length keys ≡ 15
  pub first : (d : KeyPlanes) → AreOf (round_key w 0) (key_at (get_or keys 0 d))
  pub between : (k : ℕ) → k < n → (d : KeyPlanes) → AreOf (rows (turned (round_key w (k + 1)))) (key_at (get_or keys (k + 1) d))
  pub states : (k : ℕ) → k ≤ n → IsState (round_key w k)

at_same : (b : List ℕ) (keys : List KeyPlanes) (i : ℕ) (k d : KeyPlanes) → i < length keys → AreOf b (key_at k) → AreOf b (key_at (get_or (set keys i k) i d))
at_same b keys i k d lt are = subst (λ (x : KeyPlanes). AreOf b (key_at x)) (sym (get_or-set_same keys i k d lt)) are

at_other : (b : List ℕ) (keys : List KeyPlanes) (i j : ℕ) (k d : KeyPlanes) → j ≢ i → AreOf b (key_at (get_or keys j d)) → AreOf b (key_at (get_or (set keys i k) j d))
at_other b keys i j k d apart are = subst (λ (x : KeyPlanes). AreOf b (key_at x)) (sym (get_or-set_other keys i j k d apart)) are

pub keys_step : (w : List ℕ) (keys : List KeyPlanes) (n : ℕ) (k : KeyPlanes) → n < 14 → HasKeys w keys n → AreOf (rows (turned (round_key w (n + 1)))) (key_at k) → IsState (round_key w (n + 1)) → HasKeys w (set keys (n + 1) k) (n + 1)
keys_step w keys n k small has are state =
    let long = has.long in
    record {
      long = length-set keys (n + 1) k ∙ long;
      first = λ d. at_other (round_key w 0) keys (n + 1) 0 k d (omega arith) (has.first d);
      between = λ j lt d. elim (cases_lt j n) [
        | inl low ↦ at_other (middle_of w (j + 1)) keys (n + 1) (j + 1) k d (omega (arith, low)) (has.between j low d)
        | inr ge ↦
            let e : n ≡ j = omega (arith, lt, ge) in
            subst (λ (r : ℕ). AreOf (middle_of w (r + 1)) (key_at (get_or (set keys (n + 1) k) (r + 1) d))) e (at_same (middle_of w (n + 1)) keys (n + 1) k d (omega (arith, long)) are)
      ];
      states = λ j le. elim (cases_lt j (n + 1)) [
        | inl low ↦ has.states j (omega (arith, low))
        | inr ge ↦ let e : n + 1 ≡ j = omega (arith, le, ge) in subst (λ (r : ℕ). IsState (round_key w r)) e state
      ];
    }

pub keys_end : (w : List ℕ) (keys : List KeyPlanes) (m : ℕ) (k : KeyPlanes) → m < 14 → HasKeys w keys m → AreOf (turned (round_key w (m + 1))) (key_at k) → IsState (round_key w (m + 1)) → AreKeys w m (set keys (m + 1) k)
keys_end w keys m k small has are state =
    let long = has.long in
    record {
      first = λ d. at_other (round_key w 0) keys (m + 1) 0 k d (omega arith) (has.first d);
      between = λ j lt d. at_other (middle_of w (j + 1)) keys (m + 1) (j + 1) k d (omega (arith, lt)) (has.between j lt d);
      last = λ d. at_same (turned (round_key w (m + 1))) keys (m + 1) k d (omega (arith, long)) are;
      states = λ j le. elim (cases_lt j (m + 1)) [
        | inl low ↦ has.states j (omega (arith, low))
        | inr ge ↦ let e : m + 1 ≡ j = omega (arith, le, ge) in subst (λ (r : ℕ). IsState (round_key w r)) e state
      ];
    }
