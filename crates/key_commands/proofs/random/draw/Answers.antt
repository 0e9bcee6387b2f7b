use Rattle.std.proofs.Common.{rules}
use Rattle.key_commands.proofs.random.draw.Goals as goal

pub returns-clause-ok : goal.returns-clause-ok
returns-clause-ok g c = record {
  random = c.fill.new.into;
  size = search rules;
  bytes = c.are_bytes.ensures;
  taken = record { taken = search rules; later = c.fill.ensures.cause.later; asked = c.fill.ensures.asked };
  salt = c.salt_in.ensures;
  master = c.master_key_in.ensures;
  filler = c.filler_in.ensures;
}
