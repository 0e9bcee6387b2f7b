use Rattle.std.proofs.Common.{◌≡◌, ℕ, ◌+◌, ◌-◌, ◌^◌, ◌≤◌, List, length, take, drop, ap, ◌∙◌, arith}
use Rattle.std.proofs.lemmas.List.{take_all}
use Rattle.std.proofs.lemmas.Simd.{length-chunk}
use Rattle.std.specs.Simd.Lanes.{chunk, digits_l, number_l}
use Rattle.aes_core.proofs.KeyBytes.{AreBytes-chunk}
use Rattle.aes_core.proofs.ColumnLaws.{words_are}
use Rattle.aes_core.proofs.columns.columns_at.Goals as goal

pub returns : goal.returns
returns c =
    let bytes : List ℕ = c.args.bytes.now in
    let at : ℕ = c.args.at in
    let few : at + 16 ≤ length bytes = c.requires in
    let n : at + 16 - at ≡ 16 = omega arith in
    let long : length (chunk at 16 bytes) ≡ 16 = length-chunk at 16 bytes few in
    let same : chunk 0 16 (take (at + 16 - at) (drop at bytes)) ≡ chunk at 16 bytes = ap (λ (k : ℕ). chunk 0 16 (take k (drop at bytes))) n ∙ take_all 16 (chunk at 16 bytes) (omega arith) in
    ap (λ (l : List ℕ). digits_l (2 ^ 32) 4 (number_l (2 ^ 8) l)) same
    ∙ words_are (chunk at 16 bytes) (record { long = long; bytes = AreBytes-chunk at 16 bytes (λ k. omega (arith, c.type_inv.bytes k)) })
