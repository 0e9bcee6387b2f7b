use Rattle.std.proofs.Common.{◌≡◌, ◌%◌, arith, ℕ, List, slice_index}
use Rattle.std.proofs.lemmas.List.{map-set}
use Rattle.sha_lanes.proofs.LaneLaws.{lane_word}
use Rattle.sha512_lanes.proofs.rounds.next_word.Goals as goal

pub returns : goal.returns
returns c =
    let at : c.args.place % 16 ≡ c.args.place = omega arith in
    record {
      value = λ j h. rw (
        at,
        c.add-word.ensures j h,
        c.add.ensures j h,
        c.small_sigma0.ensures j h,
        c.add-recent.ensures j h,
        c.small_sigma1.ensures j h,
      )
          (simp lane_word);
      window = λ j h. map-set (λ (v : List ℕ). slice_index v j) c.args.w.now c.args.place c.add-word.result;
    }
