-- The lines that are answered with a failure of the cabinet or the entropy are counted by the faults of that.
use Rattle.std.proofs.Common.{◌≡◌, inl, inr, ℕ, ◌+◌, ◌≤◌, ◌==◌, List, [], ◌∷◌, refl, ap, sym, subst, arith, Bool, true, false, cond, Option, None, Some, Result, Ok, Err, not}
use Rattle.command_rows.specs.Rows.{Answer, World}
use Rattle.command_rows.specs.Vocabulary.{CabinetState, Command, EntropyState, Rose, passphrase_limit}
use Rattle.eli_base.specs.declared.refusals.Refusal.TheVariants as refusals
use Rattle.reply_text.specs.Answer as answers
use Rattle.command_rows.specs.Counts.{CountsAnswer, CountsFailures}
use Rattle.geli_core.specs.Bounds.{CountsOutside, RoseBy, how_many, is_cabinet_fault, is_entropy_fault, is_miss}
use Rattle.geli_core.specs.Run.{ServesReading}
use Rattle.geli_core.specs.Trace.{Run, ServedLine, answers_of}
use Rattle.command_rows.proofs.LineCounts.{turn_counts}
use Rattle.geli_core.specs.Vocabulary.{Sep, Usage, line_reading}

pub false_is : {P : Type 0} → false ≡ true → P
false_is h = absurd (let none : ⊥ = cc h in none)

-- ---- what a reply says of the counts

cabinet_rose : (cabinet : CabinetState) (entropy : EntropyState) (said : Answer) (cabinet' : CabinetState) (entropy' : EntropyState) → CountsAnswer cabinet entropy said cabinet' entropy' → is_cabinet_fault (Some said) ≡ true
    → Rose cabinet.faults cabinet'.faults
cabinet_rose cabinet entropy (answers.Refused (refusals.CabinetFault word)) cabinet' entropy' h is = h
cabinet_rose cabinet entropy said cabinet' entropy' h is = false_is is

entropy_rose : (cabinet : CabinetState) (entropy : EntropyState) (said : Answer) (cabinet' : CabinetState) (entropy' : EntropyState) → CountsAnswer cabinet entropy said cabinet' entropy' → is_entropy_fault (Some said) ≡ true
    → Rose entropy.faults entropy'.faults
entropy_rose cabinet entropy (answers.Refused refusals.EntropyFault) cabinet' entropy' h is = h
entropy_rose cabinet entropy said cabinet' entropy' h is = false_is is

misses_rose : (cabinet : CabinetState) (entropy : EntropyState) (said : Answer) (cabinet' : CabinetState) (entropy' : EntropyState) → CountsAnswer cabinet entropy said cabinet' entropy' → is_miss (Some said) ≡ true
    → Rose cabinet.misses cabinet'.misses
misses_rose cabinet entropy (answers.Refused (refusals.FileAbsent word)) cabinet' entropy' h is = h
misses_rose cabinet entropy (answers.Refused (refusals.FileTooLong word limit)) cabinet' entropy' (inl h) is =
    let bad : not (passphrase_limit == passphrase_limit) ≡ true = subst (λ (n : ℕ). not (n == passphrase_limit) ≡ true) h is in false_is bad
misses_rose cabinet entropy (answers.Refused (refusals.FileTooLong word limit)) cabinet' entropy' (inr h) is = h
misses_rose cabinet entropy said cabinet' entropy' h is = false_is is

-- ---- one line

-- a count didn't fall, and it rose if the line is answered with such a failure
record Rises (is : Bool) (before now : ℕ) : Type 0 where
  later : before ≤ now
  rose : is ≡ true → Rose before now

record LineRises (answer : Option Answer) (old new : World) : Type 0 where
  cabinet : Rises (is_cabinet_fault answer) old.cabinet.faults new.cabinet.faults
  misses : Rises (is_miss answer) old.cabinet.misses new.cabinet.misses
  entropy : Rises (is_entropy_fault answer) old.entropy.faults new.entropy.faults

stays : (before now : ℕ) → now ≡ before → Rises false before now
stays before now same = record { later = omega (arith, same); rose = λ is. false_is is }

line_same : (old new : World) → new ≡ old → LineRises None old new
line_same old new is = record {
  cabinet = stays old.cabinet.faults new.cabinet.faults (ap (λ (w : World). w.cabinet.faults) is);
  misses = stays old.cabinet.misses new.cabinet.misses (ap (λ (w : World). w.cabinet.misses) is);
  entropy = stays old.entropy.faults new.entropy.faults (ap (λ (w : World). w.entropy.faults) is);
}

usage_same : (usage : Usage) (old new : World) → new ≡ old → LineRises (Some (answers.Refused (refusals.Usage usage.word usage.reason))) old new
usage_same usage old new is = record {
  cabinet = stays old.cabinet.faults new.cabinet.faults (ap (λ (w : World). w.cabinet.faults) is);
  misses = stays old.cabinet.misses new.cabinet.misses (ap (λ (w : World). w.cabinet.misses) is);
  entropy = stays old.entropy.faults new.entropy.faults (ap (λ (w : World). w.entropy.faults) is);
}

line_counted : (old : World) (said : Answer) (new : World) → CountsFailures old said new → LineRises (Some said) old new
line_counted old said new h = record {
  cabinet = record { later = h.faults; rose = λ is. cabinet_rose old.cabinet old.entropy said new.cabinet new.entropy h.counts is };
  misses = record { later = h.misses; rose = λ is. misses_rose old.cabinet old.entropy said new.cabinet new.entropy h.counts is };
  entropy = record { later = h.entropy; rose = λ is. entropy_rose old.cabinet old.entropy said new.cabinet new.entropy h.counts is };
}

line_rises : (read : Result (Option Command) Usage) (line : List ℕ) (answer : Option Answer) (old new : World) → ServesReading read line old answer new → LineRises answer old new
line_rises (Ok None) line answer old new h = subst (λ (o : Option Answer). LineRises o old new) (sym h.0) (line_same old new h.1)
line_rises (Err usage) line answer old new h = subst (λ (o : Option Answer). LineRises o old new) (sym h.0) (usage_same usage old new h.1)
line_rises (Ok (Some command)) line None old new h = absurd h
line_rises (Ok (Some command)) line (Some said) old new h = line_counted old said new (turn_counts line command old said new h)

-- ---- a run

-- one line, and so many after it
one_more : (is : Bool) (before middle now rest : ℕ) → Rises is before middle → RoseBy rest middle now → RoseBy (cond is 1 0 + rest) before now
one_more true before middle now rest one many =
    let r = one.rose refl in
    let l = one.later in
    let m = many.later in
    record { later = omega (arith, l, m); bound = λ small. (let s = many.bound small in omega (arith, r, s, m, small)) }
one_more false before middle now rest one many =
    let l = one.later in
    let m = many.later in
    record { later = omega (arith, l, m); bound = λ small. (let s = many.bound small in omega (arith, l, s)) }

nothing_more : (before now : ℕ) → now ≡ before → RoseBy 0 before now
nothing_more before now same = record { later = omega (arith, same); bound = λ small. omega (arith, same) }

pub run_counts : (sep : Sep) (lines : List ServedLine) (old new : World) → Run sep old lines new → CountsOutside (answers_of lines) old new
run_counts sep [] old new h = record {
  cabinet = nothing_more old.cabinet.faults new.cabinet.faults (ap (λ (w : World). w.cabinet.faults) h.1);
  misses = nothing_more old.cabinet.misses new.cabinet.misses (ap (λ (w : World). w.cabinet.misses) h.1);
  entropy = nothing_more old.entropy.faults new.entropy.faults (ap (λ (w : World). w.entropy.faults) h.1);
}
run_counts sep (l ∷ lines) old new h =
    let one = line_rises (line_reading sep l.line) l.line l.answer old l.next h.0.0 in
    let many = run_counts sep lines l.next new (h.0.1, h.1) in
    record {
      cabinet = one_more (is_cabinet_fault l.answer) old.cabinet.faults l.next.cabinet.faults new.cabinet.faults (how_many is_cabinet_fault (answers_of lines)) one.cabinet many.cabinet;
      misses = one_more (is_miss l.answer) old.cabinet.misses l.next.cabinet.misses new.cabinet.misses (how_many is_miss (answers_of lines)) one.misses many.misses;
      entropy = one_more (is_entropy_fault l.answer) old.entropy.faults l.next.entropy.faults new.entropy.faults (how_many is_entropy_fault (answers_of lines)) one.entropy many.entropy;
    }
