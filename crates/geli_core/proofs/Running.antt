-- One more line is served, and one more byte is looked at.
use Rattle.std.proofs.Common.{◌≡◌, ◌≢◌, ◌∙◌, ℕ, ◌≤◌, List, [], ◌∷◌, ◌++◌, length, refl, ap, sym, subst, arith, append_assoc, length-append, Option, None, Some, Bool, true, false, Result, Ok, Err, ◌||◌}
use Rattle.std.proofs.lemmas.List.{append-nil, map-append}
use Rattle.std.proofs.lemmas.Grind.{flat_map-append}
use Rattle.std.proofs.lemmas.List.Folds.{list_any-append}
use Rattle.std.specs.List.{AllByRecursion, flat_map, list_any}
use Rattle.command_rows.specs.Rows.{Answer, World}
use Rattle.command_rows.specs.Vocabulary.{Command, SinkState, TookAll}
use Rattle.eli_base.specs.declared.refusals.Refusal.TheVariants as refusals
use Rattle.command_words.specs.declared.spans.Sep.TheVariants.{Blanks}
use Rattle.reply_text.specs.Answer as answers
use Rattle.text_page.proofs.Printing.{TookAll-nothing, TookAll-then}
use Rattle.geli_core.specs.Lines.{CutsInto, ended, newline}
use Rattle.geli_core.specs.Trace.{Run, ServedLine, answers_of, lines_of}
use Rattle.geli_core.specs.Run.{FailsInLast, ServesAndPrints, ServesLine, ServesReading, answers_text, any_refused, refuses, text_of}
use Rattle.reply_text.specs.LineEnds.{PrintsAnswer, end_of, is_refusal}
use Rattle.geli_core.specs.Vocabulary.{Sep, Turn, Usage, WriteEnd, line_limit, line_reading}
use Rattle.reply_text.specs.declared.line_ends.LineEnd.{LineEnd}
use Rattle.reply_text.specs.declared.line_ends.LineEnd.TheVariants.{Silent}
use Rattle.geli_core.specs.Served.{IsServed, IsTooLong, IsUnprinted, ServesLines, SiteState}

-- a run goes on by a line
pub Run-more : (sep : Sep) (old middle : World) (lines : List ServedLine) (l : ServedLine) → Run sep old lines middle → ServesLine sep l.line middle l.answer l.next → Run sep old (lines ++ l ∷ []) l.next
Run-more sep old middle [] l run serves = ((subst (λ (w : World). ServesLine sep l.line w l.answer l.next) run.1 serves, tt), refl)
Run-more sep old middle (first ∷ lines) l run serves =
    let rest = Run-more sep first.next middle lines l (run.0.1, run.1) serves in
    ((run.0.0, rest.0), rest.1)

pub lines_of-more : (lines : List ServedLine) (l : ServedLine) → lines_of (lines ++ l ∷ []) ≡ lines_of lines ++ l.line ∷ []
lines_of-more lines l = map-append (λ (x : ServedLine). x.line) lines (l ∷ [])

pub answers_of-more : (lines : List ServedLine) (l : ServedLine) → answers_of (lines ++ l ∷ []) ≡ answers_of lines ++ l.answer ∷ []
answers_of-more lines l = map-append (λ (x : ServedLine). x.answer) lines (l ∷ [])

-- this holds of all items, and of one more
pub all_more : {X : Type 0} (P : X → Type 0) (xs : List X) (x : X) → AllByRecursion P xs → P x → AllByRecursion P (xs ++ x ∷ [])
all_more P [] x all one = (one, tt)
all_more P (y ∷ ys) x all one = (all.0, all_more P ys x all.1 one)

flat_map-more : {X : Type 0} (f : X → List ℕ) (xs : List X) (x : X) → flat_map f (xs ++ x ∷ []) ≡ flat_map f xs ++ f x
flat_map-more f xs x = flat_map-append f xs (x ∷ []) ∙ ap (λ (l : List ℕ). flat_map f xs ++ l) (append-nil (f x))

or_nothing : (b : Bool) → (b || false) ≡ b
or_nothing true = refl
or_nothing false = refl

any-more : {X : Type 0} (p : X → Bool) (xs : List X) (x : X) → list_any p (xs ++ x ∷ []) ≡ (list_any p xs || p x)
any-more p xs x = list_any-append p xs (x ∷ []) ∙ ap (λ (b : Bool). list_any p xs || b) (or_nothing (p x))

-- whether a line that ended so was refused
pub refuses-end : (answer : Option Answer) → refuses answer ≡ is_refusal (end_of answer)
refuses-end None = refl
refuses-end (Some (answers.Refused refusal)) = refl
refuses-end (Some answers.Done) = refl
refuses-end (Some (answers.Payload bytes)) = refl
refuses-end (Some (answers.Dump meta)) = refl
refuses-end (Some (answers.Digest digest)) = refl
refuses-end (Some (answers.Rows rows)) = refl
refuses-end (Some (answers.Tag tag)) = refl
refuses-end (Some (answers.Left left)) = refl
refuses-end (Some (answers.Verified offsets next)) = refl

-- nothing was looked at
pub IsServed-nothing : (site : SiteState) → IsServed [] site [] false site
IsServed-nothing site = record {
  serves = record { served = []; cut = record { whole = refl; each = tt; behind = tt }; short = tt; run = (tt, refl) };
  printed = TookAll-nothing site.sink;
  any = refl;
}

-- one more byte of a line
pub IsServed-byte : (bytes : List ℕ) (old new : SiteState) (rest : List ℕ) (refused : Bool) (b : ℕ) → b ≢ newline → IsServed bytes old rest refused new
    → IsServed (bytes ++ b ∷ []) old (rest ++ b ∷ []) refused new
IsServed-byte bytes old new rest refused b other h = record {
  serves = record {
    served = h.serves.served;
    cut = record {
      whole = ap (λ (l : List ℕ). l ++ b ∷ []) h.serves.cut.whole ∙ append_assoc (flat_map ended (lines_of h.serves.served)) rest (b ∷ []);
      each = h.serves.cut.each;
      behind = all_more _ rest b h.serves.cut.behind other;
    };
    short = h.serves.short;
    run = h.serves.run;
  };
  printed = h.printed;
  any = h.any;
}

-- a line that has its newline now
cut_more : (bytes : List ℕ) (lines : List (List ℕ)) (line : List ℕ) → CutsInto bytes lines line → CutsInto (bytes ++ newline ∷ []) (lines ++ line ∷ []) []
cut_more bytes lines line cut = record {
  whole =
      ap (λ (l : List ℕ). l ++ newline ∷ []) cut.whole ∙ append_assoc (flat_map ended lines) line (newline ∷ [])
      ∙ sym (flat_map-more ended lines line) ∙ sym (append-nil (flat_map ended (lines ++ line ∷ [])));
  each = all_more _ lines line cut.each cut.behind;
  behind = tt;
}

abbrev pub served_line : List ℕ → Option Answer → World → ServedLine
served_line line answer next = record { line = line; answer = answer; next = next }

-- a line that has its newline was served
ServesLines-line : (bytes : List ℕ) (old middle new : SiteState) (line : List ℕ) (h : ServesLines bytes old line middle) (answer : Option Answer) → length line ≤ line_limit
    → ServesLine Blanks line middle.world answer new.world → ServesLines (bytes ++ newline ∷ []) old [] new
ServesLines-line bytes old middle new line h answer short serves =
    let l : ServedLine = served_line line answer new.world in
    let are : lines_of (h.served ++ l ∷ []) ≡ lines_of h.served ++ line ∷ [] = lines_of-more h.served l in
    record {
      served = h.served ++ l ∷ [];
      cut = subst (λ (ls : List (List ℕ)). CutsInto (bytes ++ newline ∷ []) ls []) (sym are) (cut_more bytes (lines_of h.served) line h.cut);
      short = subst (λ (ls : List (List ℕ)). AllByRecursion (λ x. length x ≤ line_limit) ls) (sym are) (all_more _ (lines_of h.served) line h.short short);
      run = Run-more Blanks old.world middle.world h.served l h.run serves;
    }

-- what was printed of a line that ended so
took_by : (answer : Option Answer) (end : LineEnd) (old new : SinkState) → PrintsAnswer answer old (Ok end) new → TookAll (text_of answer) old new
took_by None end old new h = subst (λ (s : SinkState). TookAll [] old s) (sym h.1) (TookAll-nothing old)
took_by (Some answer) end old new h = h.1

ends_by : (answer : Option Answer) (end : LineEnd) (old new : SinkState) → PrintsAnswer answer old (Ok end) new → end ≡ end_of answer
ends_by None end old new h = (let is : end ≡ Silent = cc (h.0) in is)
ends_by (Some answer) end old new h = h.0

-- a line whose reply the sink failed to take
pub failed_more : (said : List (Option Answer)) (answer : Option Answer) (failed : WriteEnd) (old middle new : SinkState) → TookAll (answers_text said) old middle → PrintsAnswer answer middle (Err failed) new
    → FailsInLast (said ++ answer ∷ []) old new
failed_more said None failed old middle new a b = absurd (let no : ⊥ = cc (b.0) in no)
failed_more said (Some answer) failed old middle new a b = record { printed = said; last = answer; are = refl; middle = middle; before = a; part = b }

pub took_more : (said : List (Option Answer)) (answer : Option Answer) (end : LineEnd) (old middle new : SinkState) → TookAll (answers_text said) old middle → PrintsAnswer answer middle (Ok end) new
    → TookAll (answers_text (said ++ answer ∷ [])) old new
took_more said answer end old middle new a b = rw (flat_map-more text_of said answer) (TookAll-then (answers_text said) (text_of answer) a (took_by answer end middle new b))

pub refused_more : (said : List (Option Answer)) (answer : Option Answer) (refused : Bool) (end : LineEnd) (middle new : SinkState) → any_refused said ≡ refused → PrintsAnswer answer middle (Ok end) new
    → any_refused (said ++ answer ∷ []) ≡ (refused || is_refusal end)
refused_more said answer refused end middle new was is =
    any-more refuses said answer ∙ ap (λ (b : Bool). b || refuses answer) was
    ∙ ap (λ (b : Bool). refused || b) (refuses-end answer ∙ ap is_refusal (sym (ends_by answer end middle new is)))

pub IsServed-line : (bytes : List ℕ) (old middle new : SiteState) (line : List ℕ) (refused : Bool) (end : LineEnd) → length line ≤ line_limit → IsServed bytes old line refused middle
    → ServesAndPrints Blanks line middle.world middle.sink (Ok end) new.world new.sink → IsServed (bytes ++ newline ∷ []) old [] (refused || is_refusal end) new
unfolding ServesLines-line
IsServed-line bytes old middle new line refused end short h s = record {
  serves = ServesLines-line bytes old middle new line h.serves s.answer short s.serves;
  printed = subst (λ (a : List (Option Answer)). TookAll (answers_text a) old.sink new.sink) (sym (answers_of-more h.serves.served (served_line line s.answer new.world)))
      (took_more (answers_of h.serves.served) s.answer end old.sink middle.sink new.sink h.printed s.prints);
  any = ap any_refused (answers_of-more h.serves.served (served_line line s.answer new.world)) ∙ refused_more (answers_of h.serves.served) s.answer refused end middle.sink new.sink h.any s.prints;
}

pub IsUnprinted-line : (bytes : List ℕ) (old middle new : SiteState) (line : List ℕ) (refused : Bool) (failed : WriteEnd) → length line ≤ line_limit → IsServed bytes old line refused middle
    → ServesAndPrints Blanks line middle.world middle.sink (Err failed) new.world new.sink → IsUnprinted (bytes ++ newline ∷ []) old new
unfolding ServesLines-line
IsUnprinted-line bytes old middle new line refused failed short h s = record {
  serves = ServesLines-line bytes old middle new line h.serves s.answer short s.serves;
  printed = subst (λ (a : List (Option Answer)). FailsInLast a old.sink new.sink) (sym (answers_of-more h.serves.served (served_line line s.answer new.world)))
      (failed_more (answers_of h.serves.served) s.answer failed old.sink middle.sink new.sink h.printed s.prints);
}

pub IsTooLong-byte : (bytes : List ℕ) (old new : SiteState) (rest : List ℕ) (refused : Bool) (b : ℕ) → b ≢ newline → length rest ≡ line_limit → IsServed bytes old rest refused new
    → IsTooLong (bytes ++ b ∷ []) old new
IsTooLong-byte bytes old new rest refused b other full h = record {
  rest = rest ++ b ∷ [];
  refused = refused;
  served = IsServed-byte bytes old new rest refused b other h;
  long = omega (arith, full, length-append rest (b ∷ []));
}

-- ---- one line is served and printed

-- a line that says a command
pub turns_command : (sep : Sep) (line : List ℕ) (command : Command) (old : World) (sink : SinkState) (answer : Answer) (result : Result LineEnd WriteEnd) (new : World) (after : SinkState)
    → Ok (Some command) ≡ line_reading sep line → Turn line command old answer new → PrintsAnswer (Some answer) sink result after → ServesAndPrints sep line old sink result new after
turns_command sep line command old sink answer result new after says turn prints = record {
  answer = Some answer;
  serves = subst (λ (r : Result (Option Command) Usage). ServesReading r line old (Some answer) new) says turn;
  prints = prints;
}

-- a line whose words are refused
pub refuses_words : (sep : Sep) (line : List ℕ) (usage : Usage) (old : World) (sink : SinkState) (result : Result LineEnd WriteEnd) (after : SinkState)
    → Err usage ≡ line_reading sep line → PrintsAnswer (Some (answers.Refused (refusals.Usage usage.word usage.reason))) sink result after → ServesAndPrints sep line old sink result old after
refuses_words sep line usage old sink result after says prints = record {
  answer = Some (answers.Refused (refusals.Usage usage.word usage.reason));
  serves = subst (λ (r : Result (Option Command) Usage). ServesReading r line old (Some (answers.Refused (refusals.Usage usage.word usage.reason))) old) says (refl, refl);
  prints = prints;
}
