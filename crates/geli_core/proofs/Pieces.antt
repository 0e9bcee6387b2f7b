-- The pieces of an input, one after another.
use Rattle.std.proofs.Common.{◌≡◌, ◌∙◌, ℕ, ◌+◌, ◌≤◌, ◌<◌, List, [], ◌∷◌, ◌++◌, length, take, drop, get_or, refl, ap, sym, subst, arith, length-drop, append_assoc, Option, None, Some, Bool}
use Rattle.std.proofs.lemmas.List.{take-append-drop, take_more}
use Rattle.std.specs.Io.KnownBytes.{prepend_known}
use Rattle.command_rows.specs.Vocabulary.{Counted, SourceState}
use Rattle.geli_core.specs.Served.{IsServed, IsTaken, SiteState, StopsBy, StopsWithin}
use Rattle.geli_core.specs.Script.{MetEnd, MetNothing, MetRefusal, most_taken}
use Rattle.geli_core.specs.Vocabulary.{line_limit}
use Rattle.geli_core.specs.declared.feeding.Stop.{Stop}

-- bytes that were given after others
prepend_known-more : (first second : List ℕ) (known : Option (List ℕ)) → prepend_known first (prepend_known second known) ≡ prepend_known (first ++ second) known
prepend_known-more first second None = refl
prepend_known-more first second (Some bytes) = ap Some (sym (append_assoc first second bytes))

pub prepend_known-nothing : (known : Option (List ℕ)) → prepend_known [] known ≡ known
prepend_known-nothing None = refl
prepend_known-nothing (Some bytes) = refl

-- one more byte of a piece
pub piece_more : (bytes piece : List ℕ) (n : ℕ) → n < length piece → bytes ++ take (n + 1) piece ≡ (bytes ++ take n piece) ++ get_or piece n 0 ∷ []
piece_more bytes piece n small = ap (λ (l : List ℕ). bytes ++ l) (take_more piece n 0 small) ∙ sym (append_assoc bytes (take n piece) (get_or piece n 0 ∷ []))

-- the run stopped at a byte of a piece
pub stops_at : (bytes piece : List ℕ) (n : ℕ) (old new : SiteState) (stop : Stop) → length piece ≤ most_taken → n < length piece → StopsBy ((bytes ++ take n piece) ++ get_or piece n 0 ∷ []) old stop new
    → StopsWithin (bytes ++ piece) old stop new
stops_at bytes piece n old new stop few small stops = record {
  read = bytes ++ take (n + 1) piece;
  unread = drop (n + 1) piece;
  whole = ap (λ (l : List ℕ). bytes ++ l) (sym (take-append-drop (n + 1) piece)) ∙ sym (append_assoc bytes (take (n + 1) piece) (drop (n + 1) piece));
  few = omega (arith, few, small, length-drop (n + 1) piece);
  stops = subst (λ (l : List ℕ). StopsBy l old stop new) (sym (piece_more bytes piece n small)) stops;
}

-- a piece was taken, and its bytes were looked at
pub IsTaken-piece : (bytes piece : List ℕ) (old middle new : SiteState) (start before after : SourceState) (rest rest' : List ℕ) (refused refused' : Bool) → IsTaken bytes old start rest refused middle before
    → before.left ≡ prepend_known piece after.left → before.faults ≤ after.faults → length rest' ≤ line_limit → IsServed (bytes ++ piece) old rest' refused' new → IsTaken (bytes ++ piece) old start rest' refused' new after
IsTaken-piece bytes piece old middle new start before after rest rest' refused refused' taken gave later short served = record {
  served = served;
  gave = taken.gave ∙ ap (prepend_known bytes) gave ∙ prepend_known-more bytes piece after.left;
  faults = omega (arith, taken.faults, later);
  short = short;
}

pub gave_piece : (bytes piece : List ℕ) (start before after : Option (List ℕ)) → start ≡ prepend_known bytes before → before ≡ prepend_known piece after → start ≡ prepend_known (bytes ++ piece) after
gave_piece bytes piece start before after first second = first ∙ ap (prepend_known bytes) second ∙ prepend_known-more bytes piece after

-- ---- what the calls met

pub met_more : {start before after : SourceState} → MetNothing start before → after.refused ≡ before.refused → after.ends ≡ before.ends → MetNothing start after
met_more met refused ends = record { refused = refused ∙ met.refused; ends = ends ∙ met.ends }

pub met_end : {start before after : SourceState} → MetNothing start before → after.refused ≡ before.refused → Counted 1 before.ends after.ends → MetEnd start after
met_end {start} {before} {after} met refused ends = record { refused = refused ∙ met.refused; ends = subst (λ (n : ℕ). Counted 1 n after.ends) met.ends ends }

pub met_refusal : {start before after : SourceState} → MetNothing start before → Counted 1 before.refused after.refused → after.ends ≡ before.ends → MetRefusal start after
met_refusal {start} {before} {after} met refused ends = record { refused = subst (λ (n : ℕ). Counted 1 n after.refused) met.refused refused; ends = ends ∙ met.ends }
