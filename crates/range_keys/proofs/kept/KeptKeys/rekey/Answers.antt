use Rattle.std.proofs.Common.{◌≡◌, ◌<◌, length, subst, arith}
use Rattle.range_keys.proofs.KeptLemmas.{IsRekeyed, all-rekeyed, rekeyed-next, rekeyed-none}
use Rattle.range_keys.proofs.kept.KeptKeys.rekey.Goals as goal

pub loop-place-init : goal.loop-place-init
loop-place-init c =
    rw c.rekey_unkept.ensures.cache (rekeyed-none c.args.cipher c.args.keylen c.args.base.now c.args.self.now.cache, c.rekey_unkept.ensures.unkept)

pub loop-place-preserved : goal.loop-place-preserved
loop-place-preserved c =
    let done = c.loop-place._place in
    let some : done < length c.args.self.now.cache.entries = rw (← c.rekey_unkept.ensures.cache, ← c.len-place-end.ensures.len) c.loop-place-test.true in (
      rekeyed-next c.args.cipher c.args.keylen c.args.base.now c.args.self.now.cache c.loop-place.self.cache c.rekey_first.new.self.cache done some c.loop-place.invariant.0 c.rekey_first.ensures.remade,
      rw c.rekey_first.ensures.unkept c.loop-place.invariant.1,
    )

pub returns-clause-keys : goal.returns-clause-keys
returns-clause-keys c =
    let all : c.loop-place._place ≡ length c.args.self.now.cache.entries = rw (← c.rekey_unkept.ensures.cache, ← c.len-place-end.ensures.len) (omega (arith, c.loop-place.auto._place-end, c.loop-place-test.false)) in
    (all-rekeyed c.args.cipher c.args.keylen c.args.base.now c.args.self.now.cache c.loop-place.self.cache c.requires.room (subst (IsRekeyed c.args.cipher c.args.keylen c.args.base.now c.args.self.now.cache c.loop-place.self.cache) all c.loop-place.invariant.0)).0

pub returns-clause-numbers : goal.returns-clause-numbers
returns-clause-numbers c =
    let all : c.loop-place._place ≡ length c.args.self.now.cache.entries = rw (← c.rekey_unkept.ensures.cache, ← c.len-place-end.ensures.len) (omega (arith, c.loop-place.auto._place-end, c.loop-place-test.false)) in
    (all-rekeyed c.args.cipher c.args.keylen c.args.base.now c.args.self.now.cache c.loop-place.self.cache c.requires.room (subst (IsRekeyed c.args.cipher c.args.keylen c.args.base.now c.args.self.now.cache c.loop-place.self.cache) all c.loop-place.invariant.0)).1
