use Rattle.std.proofs.Common.{rules, arith, ap, ◌∙◌, ◌≡◌, ◌<◌, ◌^◌, ◌∷◌, ◌++◌, [], List, ℕ, length, set, length-set, refl}
use Rattle.std.proofs.lemmas.Grind.{common_steps}
use Rattle.std.proofs.lemmas.List.Elements.{All-set}
use Rattle.block_traits.specs.declared.disk.Event.TheVariants.{Write}
use Rattle.block_traits.specs.Content.{IsContentOf, IsSector}
use Rattle.crash_disk.specs.Replay.{content}
use Rattle.crash_disk.specs.Writes.{written}
use Rattle.crash_disk.proofs.Writes.{written-put}
use Rattle.crash_disk.proofs.write_log.WriteLog.put.Goals as goal

pub invariant_of-self-2 : goal.invariant_of-self-2
invariant_of-self-2 c =
    let log = c.args.self.now in
    let n = c.args.n in
    let bytes = c.args.bytes.now in
    let old = written log.size log.first.items in
    let sector : length bytes ≡ 512 = search rules in
    let more : c.push_reserved.new.self.items ≡ log.first.items ++ Write n bytes ∷ [] = grind (arith, common_steps) in
    let is : written log.size c.push_reserved.new.self.items ≡ set old n bytes = ap (written log.size) more ∙ written-put log.size n bytes log.first.items in
    let small : length (set old n bytes) < 2 ^ 44 = omega (arith, length-set old n bytes, log.small) in
    let fits : IsContentOf (length (set old n bytes)) (content (set old n bytes) log.events.items) = record {
      sectors = refl;
      base = All-set IsSector old n bytes sector log.fits.base;
      events = rw (length-set old n bytes) log.fits.events;
    } in
    record {
      small = rw is small;
      fits = rw is fits;
      within = log.within;
      reserved = log.reserved;
    }

pub returns-clause-ok : goal.returns-clause-ok
returns-clause-ok c =
    let log = c.args.self.now in
    let more : c.push_reserved.new.self.items ≡ log.first.items ++ Write c.args.n c.args.bytes.now ∷ [] = grind (arith, common_steps) in
    ap (λ (base : List (List ℕ)). content base log.events.items) (ap (written log.size) more ∙ written-put log.size c.args.n c.args.bytes.now log.first.items)
