use Rattle.key_commands.proofs.set_key.setkey.Goals as goal

pub returns-in-Ok-clause-sets : goal.returns-in-Ok-clause-sets
returns-in-Ok-clause-sets g c = record { makes = c.in_ok-new.ensures.ok; logs = c.in-Ok.ensures.ok; unasked = c.store.ensures.unasked }

pub returns-in-Err-clause-sets : goal.returns-in-Err-clause-sets
returns-in-Err-clause-sets g c = record { m = c.in_ok-new.new; makes = c.in_ok-new.ensures.ok; fails = c.in-Err.ensures.err; unasked = c.store.ensures.unasked }
