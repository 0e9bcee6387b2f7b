-- Texts that were given to a sink, one after another.
use Rattle.std.proofs.Common.{◌≡◌, ◌∙◌, ℕ, List, [], ◌∷◌, ◌++◌, map, Result, Ok, Err, refl, ap, sym, subst, append_assoc, append-nil}
use Rattle.std.proofs.lemmas.List.{map-append}
use Rattle.std.proofs.lemmas.List.Folds.{concat-append}
use Rattle.std.specs.List.{concat}
use Rattle.block_traits.specs.Streams.{SinkState, TookAll, TookPart}
use Rattle.text_page.proofs.Printing.{TookAll-nothing, TookAll-then}
use Rattle.nbd_negotiation.specs.Streams.{GaveButLast, GivesOn, GivesTexts}
use Rattle.nbd_negotiation.specs.declared.streams.End.{End}
use Rattle.nbd_negotiation.specs.declared.streams.End.TheVariants.{Closed, ReadFault, WriteFault, Malformed}

concat-more : (texts : List (List ℕ)) (text : List ℕ) → concat (texts ++ text ∷ []) ≡ concat texts ++ text
concat-more texts text = concat-append texts (text ∷ []) ∙ ap (λ (l : List ℕ). concat texts ++ l) (append-nil text)

pub map-more : {X : Type 0} (f : X → List ℕ) (xs : List X) (x : X) → map f (xs ++ x ∷ []) ≡ map f xs ++ f x ∷ []
map-more f xs x = map-append f xs (x ∷ [])

-- one more text was given
pub gave-more : {X : Type 0} (f : X → List ℕ) (xs : List X) (x : X) {sink middle after : SinkState} → TookAll (concat (map f xs)) sink middle → TookAll (f x) middle after → TookAll (concat (map f (xs ++ x ∷ []))) sink after
gave-more f xs x {sink} {middle} {after} a b =
    subst (λ (l : List ℕ). TookAll l sink after) (sym (ap concat (map-more f xs x) ∙ concat-more (map f xs) (f x))) (TookAll-then (concat (map f xs)) (f x) a b)

-- one more text was given in part, since the sink failed
pub gave-part : {X : Type 0} (f : X → List ℕ) (xs : List X) (x : X) {sink middle after : SinkState} → TookAll (concat (map f xs)) sink middle → TookPart (f x) middle after → GaveButLast (map f (xs ++ x ∷ [])) sink after
gave-part f xs x {sink} {middle} a b = record { before = map f xs; last = f x; are = map-more f xs x; middle = middle; gave = a; part = b }

-- the first text, in which the sink failed
pub gave-first : (text : List ℕ) {sink after : SinkState} → TookPart text sink after → GaveButLast (text ∷ []) sink after
gave-first text {sink} a = record { before = []; last = text; are = refl; middle = sink; gave = TookAll-nothing sink; part = a }

pub gave-alone : (text : List ℕ) {sink after : SinkState} → TookAll text sink after → TookAll (concat (text ∷ [])) sink after
gave-alone text {sink} {after} a = subst (λ (l : List ℕ). TookAll l sink after) (sym (append-nil text)) a

gave-both : (first second : List (List ℕ)) {sink middle after : SinkState} → TookAll (concat first) sink middle → TookAll (concat second) middle after → TookAll (concat (first ++ second)) sink after
gave-both first second {sink} {middle} {after} a b = subst (λ (l : List ℕ). TookAll l sink after) (sym (concat-append first second)) (TookAll-then (concat first) (concat second) a b)

-- some texts, and then others
pub gave-then : (end : End) (first second : List (List ℕ)) (sink middle after : SinkState) → TookAll (concat first) sink middle → GivesTexts end second middle after → GivesTexts end (first ++ second) sink after
gave-then WriteFault first second sink middle after a b = record {
  before = first ++ b.before;
  last = b.last;
  are = ap (λ (l : List (List ℕ)). first ++ l) b.are ∙ sym (append_assoc first b.before (b.last ∷ []));
  middle = b.middle;
  gave = gave-both first b.before a b.gave;
  part = b.part;
}
gave-then Closed first second sink middle after a b = gave-both first second a b
gave-then ReadFault first second sink middle after a b = gave-both first second a b
gave-then Malformed first second sink middle after a b = gave-both first second a b

pub gave-on : (result : Result (Unit {0}) End) (text : List ℕ) (second : List (List ℕ)) (sink middle after : SinkState) → TookAll text sink middle → GivesOn result second middle after → GivesOn result (text ∷ second) sink after
gave-on (Ok done) text second sink middle after a b = TookAll-then text (concat second) a b
gave-on (Err end) text second sink middle after a b = gave-then end (text ∷ []) second sink middle after (gave-alone text a) b
