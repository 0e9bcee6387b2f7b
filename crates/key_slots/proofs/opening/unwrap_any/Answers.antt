use Rattle.key_slots.proofs.First.{first-0, first-1}
use Rattle.key_slots.specs.Slots.{unwrapped}
use Rattle.key_slots.proofs.opening.unwrap_any.Goals as goal

pub returns-in-None-clause-opens : goal.returns-in-None-clause-opens
returns-in-None-clause-opens c =
    let m = c.args.meta.now in
    let u = c.args.key.now.bytes in
    first-1 m u (unwrapped m u 1) c.unwrap_numbered.result c.unwrap_numbered-in-None.result c.in-None.is c.unwrap_numbered.ensures.opens
    c.unwrap_numbered-in-None.ensures.answer c.unwrap_numbered-in-None.ensures.opens

pub returns-in_default-clause-opens : goal.returns-in_default-clause-opens
returns-in_default-clause-opens c =
    let m = c.args.meta.now in
    let u = c.args.key.now.bytes in
    first-0 m u (unwrapped m u 0) c.unwrap_numbered.result c.unwrap_numbered.ensures.answer c.in_default.not-None c.unwrap_numbered.ensures.opens
