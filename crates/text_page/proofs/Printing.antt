-- Texts printed one after another.
use Rattle.std.proofs.Common.{◌≡◌, ℕ, ◌+◌, ◌<◌, List, [], ◌++◌, length, take, drop, map, get_or, refl, ap, ◌∙◌, sym, subst, append_assoc, arith, length-append, Option, Some, None, Result, Ok, Err, IsErr}
use Rattle.std.proofs.Math.Seq.{take-append-add}
use Rattle.std.proofs.lemmas.List.{take-append-le, append-nil, take_more, take-append-drop, map-append}
use Rattle.std.proofs.lemmas.List.Folds.{concat-append}
use Rattle.std.proofs.lemmas.Bool.{false≢true}
use Rattle.std.specs.List.{concat}
use Rattle.std.specs.Io.KnownBytes.{append_known}
use Rattle.block_traits.specs.Causes.{Counted}
use Rattle.block_traits.specs.Streams.{SinkState, TookAll, TookPart}
use Rattle.text_page.specs.declared.print.WriteEnd.{WriteEnd}
use Rattle.text_page.specs.Output.{Prints, Puts, PutsAll, PutsPart}

append_known-then : (known : Option (List ℕ)) (first second : List ℕ) → append_known (append_known known first) second ≡ append_known known (first ++ second)
append_known-then None first second = refl
append_known-then (Some bytes) first second = ap Some (append_assoc bytes first second)

append_known-nothing : (known : Option (List ℕ)) → append_known known [] ≡ known
append_known-nothing None = refl
append_known-nothing (Some bytes) = ap Some (append-nil bytes)

-- an empty text was printed if nothing was done
pub TookAll-nothing : (s : SinkState) → TookAll [] s s
TookAll-nothing s = record { took = sym (append_known-nothing s.taken); later = omega arith; refused = refl; idle = refl }

-- two texts, one after the other
pub TookAll-then : (first second : List ℕ) {old middle new : SinkState} → TookAll first old middle → TookAll second middle new → TookAll (first ++ second) old new
TookAll-then first second {old} {middle} {new} a b = record {
  took = b.took ∙ ap (λ (k : Option (List ℕ)). append_known k second) a.took ∙ append_known-then old.taken first second;
  later = omega (arith, a.later, b.later);
  refused = b.refused ∙ a.refused;
  idle = b.idle ∙ a.idle;
}

-- the second of two texts failed
pub TookPart-then : (first second : List ℕ) {old middle new : SinkState} → TookAll first old middle → TookPart second middle new → TookPart (first ++ second) old new
TookPart-then first second {old} {middle} {new} a b = record {
  count = length first + b.count;
  within = omega (arith, b.within, length-append first second);
  took =
      b.took ∙ ap (λ (k : Option (List ℕ)). append_known k (take b.count second)) a.took ∙ append_known-then old.taken first (take b.count second)
      ∙ ap (append_known old.taken) (sym (take-append-add first second b.count));
  later = omega (arith, a.later, b.later);
  rose = omega (arith, a.later, b.rose);
  refused = subst (λ (n : ℕ). Counted 1 n new.refused) a.refused b.refused;
  idle = b.idle ∙ a.idle;
}

-- the first of two texts failed
pub TookPart-more : (first second : List ℕ) {old new : SinkState} → TookPart first old new → TookPart (first ++ second) old new
TookPart-more first second {old} {new} a = record {
  count = a.count;
  within = omega (arith, a.within, length-append first second);
  took = a.took ∙ ap (append_known old.taken) (sym (take-append-le a.count first second a.within));
  later = a.later;
  rose = a.rose;
  refused = a.refused;
  idle = a.idle;
}

-- a result that is an error, and a part of the text that was taken, are a failed print
pub Prints-failed : (text : List ℕ) (old new : SinkState) (result : Result (Unit {0}) WriteEnd) → IsErr result → TookPart text old new → Prints text old result new
Prints-failed text old new (Ok done) failed part = absurd (false≢true failed)
Prints-failed text old new (Err end) failed part = part

-- the pieces up to a place, and those after it
pub concat-split : {X : Type 0} (text : X → List ℕ) (pieces : List X) (n : ℕ) → concat (map text pieces) ≡ concat (map text (take n pieces)) ++ concat (map text (drop n pieces))
concat-split text pieces n =
    ap (λ (ps : List _). concat (map text ps)) (sym (take-append-drop n pieces)) ∙ ap concat (map-append text (take n pieces) (drop n pieces))
    ∙ concat-append (map text (take n pieces)) (map text (drop n pieces))

-- the text of one more piece
pub concat-more : {X : Type 0} (text : X → List ℕ) (pieces : List X) (n : ℕ) (d : X) → n < length pieces → concat (map text (take (n + 1) pieces)) ≡ concat (map text (take n pieces)) ++ text (get_or pieces n d)
concat-more text pieces n d inside =
    rw (take_more pieces n d inside, map-append, concat-append, append-nil) refl

-- a text was put after another
pub PutsAll-then : (first second : List ℕ) {held middle_held left : List ℕ} {old middle new : SinkState} → PutsAll first held old middle_held middle → PutsAll second middle_held middle left new → PutsAll (first ++ second) held old left new
PutsAll-then first second {held} {middle_held} {left} a b = record {
  given = a.given ++ b.given;
  split =
      sym (append_assoc held first second) ∙ ap (λ (bytes : List ℕ). bytes ++ second) a.split ∙ append_assoc a.given middle_held second
      ∙ ap (λ (bytes : List ℕ). a.given ++ bytes) b.split ∙ sym (append_assoc a.given b.given left);
  took = TookAll-then a.given b.given a.took b.took;
}

-- the second of two texts failed
pub PutsPart-then : (first second : List ℕ) {held middle_held : List ℕ} {old middle new : SinkState} → PutsAll first held old middle_held middle → PutsPart second middle_held middle new → PutsPart (first ++ second) held old new
PutsPart-then first second {held} {middle_held} a b =
    let whole : held ++ (first ++ second) ≡ a.given ++ (middle_held ++ second) =
    sym (append_assoc held first second) ∙ ap (λ (bytes : List ℕ). bytes ++ second) a.split ∙ append_assoc a.given middle_held second in
    record { part = rw whole (TookPart-then a.given (middle_held ++ second) a.took b.part) }

-- the first of two texts failed
pub PutsPart-more : (first second : List ℕ) {held : List ℕ} {old new : SinkState} → PutsPart first held old new → PutsPart (first ++ second) held old new
PutsPart-more first second {held} a = record { part = rw (sym (append_assoc held first second)) (TookPart-more (held ++ first) second a.part) }

-- a text was put, and then another, with any result
pub Puts-then : (first second held middle_held left : List ℕ) (old middle new : SinkState) (result : Result (Unit {0}) WriteEnd) → PutsAll first held old middle_held middle → Puts second middle_held middle result left new → Puts (first ++ second) held old result left new
Puts-then first second held middle_held left old middle new (Ok done) a b = PutsAll-then first second a b
Puts-then first second held middle_held left old middle new (Err failed) a b = PutsPart-then first second a b

-- a result that is an error, and a part of the text that was put, are a failed put
pub Puts-failed : (text held left : List ℕ) (old new : SinkState) (result : Result (Unit {0}) WriteEnd) → IsErr result → PutsPart text held old new → Puts text held old result left new
Puts-failed text held left old new (Ok done) failed part = absurd (false≢true failed)
Puts-failed text held left old new (Err end) failed part = part

-- an empty text was put if nothing was done
pub PutsAll-nothing : (held : List ℕ) (s : SinkState) → PutsAll [] held s held s
PutsAll-nothing held s = record { given = []; split = append-nil held; took = TookAll-nothing s }

-- putting an empty text succeeds
pub puts_nothing : (held : List ℕ) (s : SinkState) → Puts [] held s (Ok tt) held s
puts_nothing held s = PutsAll-nothing held s

-- the page went to the sink, and then the text
pub Puts-given : (text held left : List ℕ) (old middle new : SinkState) (result : Result (Unit {0}) WriteEnd) → TookAll held old middle → Prints text middle result new → left ≡ [] → Puts text held old result left new
Puts-given text held left old middle new (Ok done) a b none = record { given = held ++ text; split = rw none (sym (append-nil (held ++ text))); took = TookAll-then held text a b }
Puts-given text held left old middle new (Err failed) a b none = record { part = TookPart-then held text a b }

-- a text was put on an empty page, and then what the page held was printed, with any result
pub Prints-given : (text left : List ℕ) (old middle new : SinkState) (result : Result (Unit {0}) WriteEnd) → PutsAll text [] old left middle → Prints left middle result new → Prints text old result new
Prints-given text left old middle new (Ok done) a b = rw a.split (TookAll-then a.given left a.took b)
Prints-given text left old middle new (Err failed) a b = rw a.split (TookPart-then a.given left a.took b)
