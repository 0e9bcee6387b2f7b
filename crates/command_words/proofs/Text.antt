-- In a line that is text each word is text.
use Rattle.std.proofs.Common.{◌≡◌, ℕ, suc, ◌+◌, ◌-◌, ◌<◌, ◌≤◌, List, [], ◌∷◌, length, take, drop, get_or, refl, sym, ◌∙◌, ap, subst, arith, Bool, true, false, cond, Option, None, Some, IfOk, IfSome, ◌==◌, ◌||◌, length-drop}
use Rattle.std.proofs.lemmas.Bool.Decides.{nat_tests}
use Rattle.std.proofs.lemmas.List.{get_or-drop}
use Rattle.std.proofs.lemmas.Str.{IsCharBoundary-before_ascii, IsCharBoundary-after_ascii, IsCharBoundary-from_take, IsUtf8-between, IsUtf8-from_is_utf8}
use Rattle.std.specs.List.{slice_split, onto_first, AllByRecursion}
use Rattle.std.specs.Option.{option_map_or}
use Rattle.std.specs.Str.{IsUtf8, IsCharBoundary, is_utf8}
use Rattle.command_words.specs.declared.settings.Settings.{Settings}
use Rattle.command_words.specs.declared.spans.Sep.{Sep}
use Rattle.command_words.specs.declared.spans.Sep.TheVariants.{Blanks, Zeros}
use Rattle.command_words.specs.declared.table.Verb.{Verb}
use Rattle.command_words.specs.declared.table.Verb.TheVariants as verbs
use Rattle.command_words.specs.declared.table.Operand.{Operand}
use Rattle.command_words.specs.declared.table.Operand.TheVariants.{Provider}
use Rattle.command_words.specs.declared.table.Valued.{Valued}
use Rattle.command_words.specs.Words.{Word, words, placed_words, is_between, is_word}
use Rattle.command_words.specs.Table.{verb_named}
use Rattle.command_words.specs.Options.{Kind, Ends, Letters, Other, kind_of, Options, options, with_word, first_option_fault}
use Rattle.command_words.specs.Settings.{settings_given, span_of}
use Rattle.command_words.specs.Operands.{operands_of, word_as, span_as, no_span}
use Rattle.command_words.specs.Reading.{line_reading, by_words, by_verb, command_at, is_comment}
use Rattle.command_words.specs.Places.{bytes_at, ProviderIsText}
use Rattle.command_words.proofs.Places.{Stands, AllStand, Parts, parts_stand, drop_one, below_end, words_stand, OptionsStand, options_stand, word_keeps, verb_keeps, text_keeps, bytes_of_span}

-- a test that passes bytes below 128 alone
abbrev IsAsciiTest : (ℕ → Bool) → Type 0
IsAsciiTest p = (b : ℕ) → p b ≡ true → b < 128

-- after a separator: the parts begin and end at the bounds of characters
abbrev Follow : List ℕ → ℕ → List (List ℕ) → Type 0
Follow line start [] = Unit {0}
Follow line start (part ∷ parts) = IsCharBoundary line start × IsCharBoundary line (start + length part) × Follow line (start + length part + 1) parts

-- from any place: there is a first part, and it ends at the bound of a character
abbrev Breaks : List ℕ → ℕ → List (List ℕ) → Type 0
Breaks line start [] = ⊥
Breaks line start (part ∷ parts) = IsCharBoundary line (start + length part) × Follow line (start + length part + 1) parts

follow_from : (line : List ℕ) (start : ℕ) (parts : List (List ℕ)) → IsCharBoundary line start → Breaks line start parts → Follow line start parts
follow_from line start [] b h = tt
follow_from line start (part ∷ parts) b h = (b, h.0, h.1)

breaks_more : (line : List ℕ) (start x : ℕ) (b : Bool) (parts : List (List ℕ))
    → (b ≡ true → IsCharBoundary line start × IsCharBoundary line (start + 1)) → Breaks line (start + 1) parts → Breaks line start (cond b ([] ∷ parts) (onto_first x parts))
breaks_more line start x true parts bound h =
    let here : start ≡ start + 0 = omega arith in
    let next : start + 1 ≡ start + 0 + 1 = omega arith in
    (subst (λ (n : ℕ). IsCharBoundary line n) here (bound refl).0, subst (λ (n : ℕ). Follow line n parts) next (follow_from line (start + 1) parts (bound refl).1 h))
breaks_more line start x false [] bound h = absurd h
breaks_more line start x false (part ∷ parts) bound h =
    let same : start + 1 + length part ≡ start + suc (length part) = omega arith in
    (subst (λ (n : ℕ). IsCharBoundary line n) same h.0, subst (λ (n : ℕ). Follow line (n + 1) parts) same h.1)

first_at : (line : List ℕ) (start x : ℕ) (xs : List ℕ) → drop start line ≡ x ∷ xs → get_or line start 0 ≡ x
first_at line start x xs e =
    let same : start + 0 ≡ start = omega arith in
    sym (subst (λ (n : ℕ). get_or (drop start line) 0 0 ≡ get_or line n 0) same (get_or-drop start line 0 0)) ∙ ap (λ rest. get_or rest 0 0) e

bounds_at : (p : ℕ → Bool) (line : List ℕ) (start x : ℕ) (xs : List ℕ) → IsAsciiTest p → IsUtf8 line → drop start line ≡ x ∷ xs → p x ≡ true
    → IsCharBoundary line start × IsCharBoundary line (start + 1)
bounds_at p line start x xs ascii text e passed =
    let l : start + 1 ≤ length line = below_end line start x xs e in
    let below : start < length line = omega arith in
    let small : get_or line start 0 < 128 = rw (first_at line start x xs e) (ascii x passed) in
    (IsCharBoundary-before_ascii line start below small, IsCharBoundary-after_ascii line start text below small)

parts_break : (p : ℕ → Bool) (rest line : List ℕ) (start : ℕ) → IsAsciiTest p → IsUtf8 line → drop start line ≡ rest → start ≤ length line → Breaks line start (slice_split p rest)
parts_break p [] line start ascii text e h =
    ((omega arith, λ below _. absurd (let no : ⊥ = omega (arith, length-drop start line, ap length e) in no)), tt)
parts_break p (x ∷ xs) line start ascii text e h =
    breaks_more line start x (p x) (slice_split p xs) (bounds_at p line start x xs ascii text e)
    (parts_break p xs line (start + 1) ascii text (drop_one line start x xs e) (below_end line start x xs e))

abbrev AllText : List Word → Type 0
AllText words = AllByRecursion (λ word. IsUtf8 word.bytes) words

text_choice : (b : Bool) (word : Word) (counted skipped : List Word) → IsUtf8 word.bytes → AllText counted → AllText skipped → AllText (cond b (word ∷ counted) skipped)
text_choice true word counted skipped h hs gs = (h, hs)
text_choice false word counted skipped h hs gs = gs

part_text : (line part : List ℕ) (start : ℕ) → IsUtf8 line → IsCharBoundary line start → IsCharBoundary line (start + length part) → take (length part) (drop start line) ≡ part → IsUtf8 part
part_text line part start text b e same =
    let between : IsUtf8 (take (start + length part - start) (drop start line)) = IsUtf8-between line start (start + length part) text (omega arith) b e in
    let len : start + length part - start ≡ length part = omega arith in
    subst (λ (bytes : List ℕ). IsUtf8 bytes) same (subst (λ (n : ℕ). IsUtf8 (take n (drop start line))) len between)

placed_text : (line : List ℕ) (sep : Sep) (number start : ℕ) (parts : List (List ℕ)) → IsUtf8 line → Parts line start parts → Follow line start parts → AllText (placed_words sep number start parts)
placed_text line sep number start [] text h f = tt
placed_text line sep number start (part ∷ parts) text h f =
    text_choice (is_word sep part) _ _ _ (part_text line part start text f.0 f.1 h.1)
    (placed_text line sep (number + 1) (start + length part + 1) parts text h.2 f.2)
    (placed_text line sep number (start + length part + 1) parts text h.2 f.2)

blank_is_ascii : (b : ℕ) → (b == 32 || b == 9) ≡ true → b < 128
blank_is_ascii b passed = grind (arith, nat_tests)

zero_is_ascii : (b : ℕ) → (b == 0) ≡ true → b < 128
zero_is_ascii b passed = grind (arith, nat_tests)

ascii_between : (sep : Sep) → IsAsciiTest (is_between sep)
ascii_between Blanks b passed = blank_is_ascii b passed
ascii_between Zeros b passed = zero_is_ascii b passed

words_text : (sep : Sep) (line : List ℕ) → IsUtf8 line → AllText (words sep line)
words_text sep [] text = tt
words_text sep (b ∷ bs) text =
    placed_text (b ∷ bs) sep 0 0 _ text (parts_stand (is_between sep) (b ∷ bs) (b ∷ bs) 0 refl (omega arith))
    (follow_from (b ∷ bs) 0 _ (IsCharBoundary-from_take (b ∷ bs) 0 text (omega arith) ([], (refl, refl))) (parts_break (is_between sep) (b ∷ bs) (b ∷ bs) 0 (ascii_between sep) text refl (omega arith)))

-- the operands are words

word_text : (kind : Kind) (verb : Verb) (word : Word) (behind : List Word) (rest : Option Valued → Options)
    → IsUtf8 word.bytes → AllText behind → ((waiting : Option Valued) → AllText (rest waiting).operands) → AllText (with_word kind verb word behind rest).operands
word_text Ends verb word behind rest h hs then = hs
word_text (Letters bytes) verb word behind rest h hs then = then _
word_text Other verb word behind rest h hs then = (h, hs)

options_text : (verb : Verb) (total : ℕ) (words : List Word) (waiting : Option Valued) → AllText words → AllText (options verb total words waiting).operands
options_text verb total [] None h = tt
options_text verb total [] (Some option) h = tt
options_text verb total (word ∷ behind) (Some option) h = options_text verb total behind None h.1
options_text verb total (word ∷ behind) None h =
    word_text (kind_of word.bytes) verb word behind _ h.0 h.1 (λ waiting. options_text verb total behind waiting h.1)

found_text : (line : List ℕ) (found : Option Word) → IfSome found (Stands line) → IfSome found (λ word. IsUtf8 word.bytes) → IsUtf8 (bytes_at line (option_map_or span_of found no_span))
found_text line None h g = ([], (refl, refl))
found_text line (Some word) h g = rw (bytes_of_span line word h) g

operand_text : (line : List ℕ) (wanted : Operand) (form : List Operand) (words : List Word) → AllStand line words → AllText words → IsUtf8 (bytes_at line (span_as wanted form words))
operand_text line wanted form words h g =
    found_text line (word_as wanted form words) (word_keeps (Stands line) wanted form words h) (word_keeps (λ word. IsUtf8 word.bytes) wanted form words g)

command_text : (line : List ℕ) (verb : Verb) (settings : Settings) (form : List Operand) (words : List Word) → AllStand line words → AllText words → ProviderIsText line (command_at verb settings (operands_of form words))
command_text line verbs.List settings form words h g = tt
command_text line _ settings form words h g = operand_text line Provider form words h g

verb_text : (line : List ℕ) (verb : Option Verb) (total : ℕ) (words : List Word) → AllStand line words → AllText words → IfOk (by_verb verb total words) (ProviderIsText line)
verb_text line None total words h g = tt
verb_text line (Some verb) total words h g =
    let o : Options = options verb total words None in
    let stand : OptionsStand line o = options_stand line verb total words None h in
    let settings : Settings = settings_given o.items in
    verb_keeps (ProviderIsText line) (first_option_fault [] o.items) verb total settings o.operands
    (λ _ form _ _ _. command_text line verb settings form o.operands stand.operands (options_text verb total words None g))

by_words_text : (line : List ℕ) (sep : Sep) (text : Bool) (words : List Word) → AllStand line words → (text ≡ true → AllText words) → IfOk (by_words sep text words) (λ read. IfSome read (ProviderIsText line))
by_words_text line sep text [] h g = tt
by_words_text line sep text (word ∷ behind) h g =
    text_keeps (ProviderIsText line) (is_comment sep word.bytes) text _ (by_verb (verb_named word.bytes) (1 + length behind) behind)
    (λ passed. verb_text line (verb_named word.bytes) (1 + length behind) behind h.1 (g passed).1)

-- The name of a provider is text.
pub reading_text : (sep : Sep) (line : List ℕ) → IfOk (line_reading sep line) (λ read. IfSome read (ProviderIsText line))
reading_text sep line = by_words_text line sep (is_utf8 line) (words sep line) (words_stand sep line) (λ passed. words_text sep line (IsUtf8-from_is_utf8 line passed))
