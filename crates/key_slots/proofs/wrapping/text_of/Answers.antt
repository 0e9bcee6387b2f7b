use Rattle.std.proofs.Common.{◌≡◌, ◌+◌, ℕ, List, ◌++◌, length, ap, ◌∙◌, arith}
use Rattle.key_slots.proofs.Parts.{put_both}
use Rattle.key_slots.proofs.wrapping.text_of.Goals as goal

pub returns : goal.returns
returns c =
    let long : length c.args.master.now.bytes ≡ 128 = omega arith in
    let long' : length c.check_code.result ≡ 64 = omega arith in
    let whole : length c.put-2.new.into ≡ 128 + 64 = omega arith in
    put_both 128 64 c.put.new.into c.put-2.new.into c.args.master.now.bytes c.check_code.result long long' whole c.put.ensures.bytes c.put-2.ensures.bytes
    ∙ ap (λ (code : List ℕ). c.args.master.now.bytes ++ code) c.check_code.ensures
