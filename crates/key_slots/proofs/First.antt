-- The first slot that opens, by what each of the two slots opens to.
use Rattle.std.proofs.Common.{◌≡◌, ℕ, zero, suc, ◌↔◌, List, [], Option, Some, None, unwrap_or, subst, sym, ap, ◌∙◌, arith}
use Rattle.eli_base.specs.declared.parameters.MasterKey.{MasterKey}
use Rattle.eli_metadata.specs.declared.metadata.Metadata.{Metadata}
use Rattle.key_slots.specs.Slots.{IsFirstToOpen, Opens, numbered}

-- the answer is the master key to which slot s opens and its number, or none if it doesn't open
abbrev Tells : Metadata → List ℕ → ℕ → Option (MasterKey × ℕ) → Type 0
Tells m u s answer = (master : List ℕ) → Opens m u s master ↔ (answer ≡ Some (record { bytes = master }, s))

-- the answer is the master key and the number of the first slot that opens, or none if neither does
abbrev TellsFirst : Metadata → List ℕ → Option (MasterKey × ℕ) → Type 0
TellsFirst m u answer = (s : ℕ) (master : List ℕ) → IsFirstToOpen m u s master ↔ (answer ≡ Some (record { bytes = master }, s))

number_of : Option (MasterKey × ℕ) → ℕ
number_of answer = (unwrap_or answer (record { bytes = [] }, 0)).1

-- an answer has the number that it was given
number_in : (answer : Option MasterKey) (s t : ℕ) (master : List ℕ) → numbered answer s ≡ Some (record { bytes = master }, t) → s ≡ t
unfolding number_of
number_in None s t master e = absurd cc
number_in (Some x) s t master e = ap number_of e

-- a slot with no answer opens to no master key
closed : (m : Metadata) (u : List ℕ) (s : ℕ) (answer : Option (MasterKey × ℕ)) → answer ≡ None → Tells m u s answer → (master : List ℕ) → ¬ Opens m u s master
closed m u s answer none tells master opens = let e = (tells master).0 opens in absurd cc

-- slot 0 opens, so it is the first
pub first-0 : (m : Metadata) (u : List ℕ) (master_0 : Option MasterKey) (answer : Option (MasterKey × ℕ)) → answer ≡ numbered master_0 0 → (answer ≡ None → ⊥)
    → Tells m u 0 answer → TellsFirst m u answer
first-0 m u None answer is some tells s master = absurd (some is)
first-0 m u (Some x) answer is some tells zero master = (
  λ held. (tells master).0 held.opens,
  λ e. record { slot = omega arith; opens = (tells master).1 e; before = λ t lt. absurd (omega arith) },
)
first-0 m u (Some x) answer is some tells (suc s) master = (
  λ held. absurd (held.before 0 (omega arith) x.bytes ((tells x.bytes).1 is)),
  λ e. let same = number_in (Some x) 0 (suc s) master (sym is ∙ e) in absurd (omega arith),
)

-- slot 0 doesn't open, so slot 1 is the first if it opens
pub first-1 : (m : Metadata) (u : List ℕ) (master_1 : Option MasterKey) (answer_0 answer : Option (MasterKey × ℕ)) → answer_0 ≡ None → Tells m u 0 answer_0
    → answer ≡ numbered master_1 1 → Tells m u 1 answer → TellsFirst m u answer
first-1 m u master_1 answer_0 answer none tells_0 is tells zero master = (
  λ held. absurd (closed m u 0 answer_0 none tells_0 master held.opens),
  λ e. let same = number_in master_1 1 0 master (sym is ∙ e) in absurd (omega arith),
)
first-1 m u master_1 answer_0 answer none tells_0 is tells (suc zero) master = (
  λ held. (tells master).0 held.opens,
  λ e. record {
    slot = omega arith;
    opens = (tells master).1 e;
    before = λ t lt other opens.
        let at : t ≡ 0 = omega arith in closed m u 0 answer_0 none tells_0 other (subst (λ (n : ℕ). Opens m u n other) at opens);
  },
)
first-1 m u master_1 answer_0 answer none tells_0 is tells (suc (suc s)) master = (
  λ held. let below = held.slot in absurd (omega arith),
  λ e. let same = number_in master_1 1 (suc (suc s)) master (sym is ∙ e) in absurd (omega arith),
)
