use Rattle.std.proofs.Common.{◌≡◌, ℕ, ◌+◌, ◌-◌, ◌<◌, ◌≤◌, arith}
use Rattle.std.proofs.lemmas.Grind.{common_steps}
use Rattle.byte_ranges.proofs.ranges.has_range.Goals as goal

too_many : (offset count size there n : ℕ) → size ≡ there → n ≡ count → size < n → there < offset + count
too_many offset count size there n same few more = omega (arith, same, few, more)

too_far : (offset count size there n : ℕ) → size ≡ there → n ≡ count → n ≤ size → size - n < offset → there < offset + count
too_far offset count size there n same few fits more = omega (arith, same, few, fits, more)

inside : (offset count size there n : ℕ) → size ≡ there → n ≡ count → n ≤ size → offset ≤ size - n → offset + count ≤ there
inside offset count size there n same few fits near = omega (arith, same, few, fits, near)

pub returns-then-count-size-clause-past : goal.returns-then-count-size-clause-past
returns-then-count-size-clause-past g c = λ _. too_many c.args.range.now.offset c.args.range.now.count c.size_of_data-size.result _ c.from-count.result c.size_of_data-size.ensures c.from-count.ensures c.if-count-size.true

pub returns-then-range-size-clause-past : goal.returns-then-range-size-clause-past
returns-then-range-size-clause-past g c =
    λ _. too_far c.args.range.now.offset c.args.range.now.count c.size_of_data-size.result _ c.from-count.result c.size_of_data-size.ensures c.from-count.ensures c.if-count-size.false c.if-range-size.true

pub returns-clause-there : goal.returns-clause-there
returns-clause-there g c =
    λ _. inside c.args.range.now.offset c.args.range.now.count c.size_of_data-size.result _ c.from-count.result c.size_of_data-size.ensures c.from-count.ensures c.if-count-size.false c.if-range-size.false

pub returns-then-count-size-clause-there : goal.returns-then-count-size-clause-there
returns-then-count-size-clause-there g c = grind (arith, common_steps) steps 400000

pub returns-then-range-size-clause-there : goal.returns-then-range-size-clause-there
returns-then-range-size-clause-there g c = grind (arith, common_steps) steps 400000

pub returns-clause-past : goal.returns-clause-past
returns-clause-past g c = grind (arith, common_steps) steps 400000
