use Rattle.std.proofs.Common.{rules, refl, FitsSigned, w32, arith}
use Rattle.std.proofs.lemmas.Grind.{common_steps}
use Rattle.std.proofs.lemmas.Int.{to_z-of_z}
use Rattle.eli_metadata.specs.Format.{number_fields}
use Rattle.eli_metadata.proofs.format.write_numbers.Goals as goal

pub returns-clause-bytes : goal.returns-clause-bytes
unfolding number_fields
returns-clause-bytes c =
    let fits : FitsSigned w32 c.args.meta.now.iterations = search rules in
    rw (c.put_i32.ensures.bytes, c.put.ensures.bytes, c.put_u32-3.ensures.bytes, c.put_u64.ensures.bytes, c.put_u16-3.ensures.bytes, c.put_u16-2.ensures.bytes, c.put_u16.ensures.bytes, c.put_u32-2.ensures.bytes, c.put_u32.ensures.bytes, c.put_magic.ensures, to_z-of_z w32 c.args.meta.now.iterations fits)
    refl

pub returns-clause-range : goal.returns-clause-range
returns-clause-range c = grind (arith, common_steps)
