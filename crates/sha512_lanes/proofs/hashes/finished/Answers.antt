use Rattle.std.proofs.Common.{◌≡◌, ℕ, List, ◌+◌, ◌/◌, length, slice_index_or, [], ap, arith, subst, ◌∙◌}
use Rattle.sha_lanes.specs.Lanes.{bytes_of, lane}
use Rattle.sha512_lanes.specs.Tails.{last_blocks_size}
use Rattle.sha512_lanes.proofs.HashLaws.{IsAfter, after_all, after_first, after_second, after_tail, after_whole}
use Rattle.sha_lanes.proofs.LaneLaws.{bytes_of_is}
use Rattle.sha512_lanes.proofs.hashes.finished.Goals as goal

pub compress-next-requires : goal.compress-next-requires
compress-next-requires c = λ j below.
    let size = c.requires j below ∙ ap length (bytes_of_is c.args.messages 0) in
    omega arith

pub blocks-2-init : goal.blocks-2-init
blocks-2-init c = λ j below h before long e. after_first h before _ _ long e

pub blocks-2-preserved : goal.blocks-2-preserved
blocks-2-preserved c = λ j below h before long e.
    let size = c.requires j below ∙ ap length (bytes_of_is c.args.messages 0) in
    after_whole h before (bytes_of j c.args.messages) (lane j c.blocks-2.v) _ c.blocks-2.i long (c.blocks-2.invariant j below h before long e) (omega arith)
    (c.compress-next.ensures j below)

pub returns-then-last_blocks_size-eq128 : goal.returns-then-last_blocks_size-eq128
returns-then-last_blocks_size-eq128 c = λ j below h before long e.
    let m : List ℕ = bytes_of j c.args.messages in
    let t : List ℕ = slice_index_or c.tails_of-tails.result j [] in
    let size = c.requires j below ∙ ap length (bytes_of_is c.args.messages 0) in
    let wide = c.tails_of-tails.ensures.long j below in
    let tail = c.tails_of-tails.ensures.tails j below in
    let count : c.blocks-2.i ≡ length m / 128 = omega arith in
    let whole = subst (λ (i : ℕ). IsAfter h before m (lane j c.blocks-2.v) i) count (c.blocks-2.invariant j below h before long e) in
    let last = after_tail h before m t _ _ long wide tail whole (c.compress_tails-last.ensures j below) in
    after_all h before m t _ (length m / 128 + 1) long wide tail (omega arith) last

pub returns : goal.returns
returns c = λ j below h before long e.
    let m : List ℕ = bytes_of j c.args.messages in
    let t : List ℕ = slice_index_or c.tails_of-tails.result j [] in
    let size = c.requires j below ∙ ap length (bytes_of_is c.args.messages 0) in
    let wide = c.tails_of-tails.ensures.long j below in
    let tail = c.tails_of-tails.ensures.tails j below in
    let count : c.blocks-2.i ≡ length m / 128 = omega arith in
    let two : last_blocks_size (length m) ≡ 256 = omega arith in
    let whole = subst (λ (i : ℕ). IsAfter h before m (lane j c.blocks-2.v) i) count (c.blocks-2.invariant j below h before long e) in
    let first = after_tail h before m t _ _ long wide tail whole (c.compress_tails-last.ensures j below) in
    let second = after_second h before m t _ _ long wide tail two first (c.compress_tails.ensures j below) in
    after_all h before m t _ (length m / 128 + 2) long wide tail (omega arith) second
