-- The first colon after the front, and what a join is.
use Rattle.std.proofs.Common.{arith}
use Rattle.disk_layers.proofs.Colons.{joins, no_join-short, no_join-none, plain}
use Rattle.disk_layers.proofs.layer.join_of.Goals as goal

pub returns-in-Some-first_colon-clause-join : goal.returns-in-Some-first_colon-clause-join
returns-in-Some-first_colon-clause-join c =
    let front = c.in-Some.ensures.cases in
    λ middle. joins c.args.bytes.now c.in-Some.rest.now c.in-Some-first_colon.at middle front.0 front.1 c.in-Some-first_colon.ensures.place c.if-at-gt0.true c.if-at-rest.true

pub returns-in_default-first_colon-clause-join : goal.returns-in_default-first_colon-clause-join
returns-in_default-first_colon-clause-join c =
    let front = c.in-Some.ensures.cases in
    λ middle. plain (no_join-short c.args.bytes.now c.in-Some.rest.now c.in-Some-first_colon.at middle front.1 c.in-Some-first_colon.ensures.place (λ some. c.if-at-rest.false))

pub returns-in_default-first_colon-2-clause-join : goal.returns-in_default-first_colon-2-clause-join
returns-in_default-first_colon-2-clause-join c =
    let front = c.in-Some.ensures.cases in
    λ middle. plain (no_join-short c.args.bytes.now c.in-Some.rest.now c.in-Some-first_colon.at middle front.1 c.in-Some-first_colon.ensures.place (λ some. omega arith))

pub returns-in_default-first_colon-3-clause-join : goal.returns-in_default-first_colon-3-clause-join
returns-in_default-first_colon-3-clause-join c =
    let front = c.in-Some.ensures.cases in
    λ middle. plain (no_join-none c.args.bytes.now c.in-Some.rest.now middle front.1 c.in_default-first_colon.ensures.place)
