-- Bytes of a line are looked at together.
use Rattle.std.proofs.Common.{◌≡◌, ◌∙◌, ℕ, zero, suc, ◌+◌, ◌-◌, ◌≤◌, List, [], ◌∷◌, ◌++◌, length, take, drop, refl, ap, sym, subst, arith, append_assoc, length-drop, Bool}
use Rattle.std.proofs.lemmas.List.{take_all}
use Rattle.std.proofs.Math.Seq.{take-add}
use Rattle.std.specs.List.{AllByRecursion, flat_map}
use Rattle.geli_core.specs.Lines.{IsOneLine, ended}
use Rattle.geli_core.specs.Trace.{lines_of}
use Rattle.geli_core.specs.Served.{IsServed, SiteState}

all_append : {X : Type 0} (P : X → Type 0) (xs ys : List X) → AllByRecursion P xs → AllByRecursion P ys → AllByRecursion P (xs ++ ys)
all_append P [] ys all more = more
all_append P (x ∷ xs) ys all more = (all.0, all_append P xs ys all.1 more)

all_front : {X : Type 0} (P : X → Type 0) (n : ℕ) (xs : List X) → AllByRecursion P xs → AllByRecursion P (take n xs)
all_front P zero xs all = tt
all_front P (suc n) [] all = tt
all_front P (suc n) (x ∷ xs) all = (all.0, all_front P n xs all.1)

-- a text without a newline is more of the line
IsServed-text : (bytes : List ℕ) (old new : SiteState) (rest text : List ℕ) (refused : Bool) → IsOneLine text → IsServed bytes old rest refused new
    → IsServed (bytes ++ text) old (rest ++ text) refused new
IsServed-text bytes old new rest text refused one h = record {
  serves = record {
    served = h.serves.served;
    cut = record {
      whole = ap (λ (l : List ℕ). l ++ text) h.serves.cut.whole ∙ append_assoc (flat_map ended (lines_of h.serves.served)) rest text;
      each = h.serves.cut.each;
      behind = all_append _ rest text h.serves.cut.behind one;
    };
    short = h.serves.short;
    run = h.serves.run;
  };
  printed = h.printed;
  any = h.any;
}

take_twice : (n m : ℕ) (xs : List ℕ) → n ≤ length (take m xs) → take n (take m xs) ≡ take n xs
take_twice zero m xs fits = refl
take_twice (suc n) zero xs fits = absurd (omega (arith, fits))
take_twice (suc n) (suc m) [] fits = refl
take_twice (suc n) (suc m) (x ∷ xs) fits = ap (λ (l : List ℕ). x ∷ l) (take_twice n m xs (omega (arith, fits)))

-- the first bytes of the part of a piece before its first newline
pub IsServed-part : (bytes piece : List ℕ) (place taken : ℕ) (part : List ℕ) (old new : SiteState) (rest : List ℕ) (refused : Bool)
    → IsOneLine part → part ≡ take (length part) (take (length piece - place) (drop place piece)) → taken ≤ length part
    → IsServed (bytes ++ take place piece) old rest refused new → IsServed (bytes ++ take (place + taken) piece) old (rest ++ take taken part) refused new
IsServed-part bytes piece place taken part old new rest refused one cut fits h =
    let long = length-drop place piece in
    let front : part ≡ take (length part) (drop place piece) =
    cut ∙ ap (take (length part)) (take_all (length piece - place) (drop place piece) (omega (arith, long))) in
    let same : take taken part ≡ take taken (drop place piece) =
    ap (take taken) front ∙ take_twice taken (length part) (drop place piece) (subst (λ (l : List ℕ). taken ≤ length l) front fits) in
    let whole : (bytes ++ take place piece) ++ take taken part ≡ bytes ++ take (place + taken) piece =
    append_assoc bytes (take place piece) (take taken part)
    ∙ ap (λ (l : List ℕ). bytes ++ (take place piece ++ l)) same
    ∙ ap (λ (l : List ℕ). bytes ++ l) (sym (take-add place taken piece)) in
    subst (λ (l : List ℕ). IsServed l old (rest ++ take taken part) refused new) whole
    (IsServed-text (bytes ++ take place piece) old new rest (take taken part) refused (all_front _ taken part one) h)
