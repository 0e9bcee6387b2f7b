use Rattle.std.proofs.Common.{◌≡◌, ℕ, ◌+◌, ◌-◌, ◌*◌, List, length, ap, ◌∙◌, arith, drop, take}
use Rattle.std.proofs.lemmas.List.{drop-drop, take-take}
use Rattle.std.proofs.lemmas.Simd.{length-chunk}
use Rattle.aes_core.specs.Blocks.{block}
use Rattle.aes_core.proofs.InPlace.{block-take}
use Rattle.aes_planes.proofs.groups.wide_vector.Goals as goal

-- the first 32 of n bytes, which are 32
loaded : (bytes : List ℕ) (at n : ℕ) → n ≡ 32 → take 32 (take n (drop at bytes)) ≡ take 32 (drop at bytes)
loaded bytes at n e = ap (λ (k : ℕ). take 32 (take k (drop at bytes))) e ∙ take-take 32 32 (drop at bytes) (omega arith)

pub returns-clause-sides : goal.returns-clause-sides
returns-clause-sides c =
    λ i li.
    let bytes = c.args.bytes.now in
    let at : 32 * c.args.j + 16 * i ≡ 16 * (2 * c.args.j + i) = omega arith in
    ap (λ (l : List ℕ). block l i) (loaded bytes (32 * c.args.j) (32 * c.args.j + 32 - 32 * c.args.j) (omega arith))
    ∙ block-take (drop (32 * c.args.j) bytes) i 32 (omega arith)
    ∙ ap (take 16) (drop-drop (16 * i) (32 * c.args.j) bytes ∙ ap (λ (n : ℕ). drop n bytes) at)

pub returns-clause-long : goal.returns-clause-long
returns-clause-long c =
    ap length (loaded c.args.bytes.now (32 * c.args.j) (32 * c.args.j + 32 - 32 * c.args.j) (omega arith)) ∙ length-chunk (32 * c.args.j) 32 c.args.bytes.now c.requires
