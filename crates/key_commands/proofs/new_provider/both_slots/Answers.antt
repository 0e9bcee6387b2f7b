use Rattle.std.proofs.Common.{◌≡◌, ◌+◌, length, arith}
use Rattle.key_slots.proofs.Parts.{put_both}
use Rattle.key_commands.proofs.new_provider.both_slots.Goals as goal

pub returns : goal.returns
returns c =
    let long : length c.args.slot0.now ≡ 192 = omega arith in
    let long' : length c.args.slot1.now ≡ 192 = omega arith in
    let whole : length c.put-2.new.into ≡ 192 + 192 = omega arith in
    put_both 192 192 c.put.new.into c.put-2.new.into c.args.slot0.now c.args.slot1.now long long' whole c.put.ensures.bytes c.put-2.ensures.bytes
