-- Words, values and spans stand in the line.
use Rattle.std.proofs.Common.{◌≡◌, ℕ, suc, ◌+◌, ◌-◌, ◌≤◌, List, [], ◌∷◌, ◌++◌, length, take, drop, map, refl, sym, ◌∙◌, ap, subst, arith, Bool, true, false, cond, Option, None, Some, Result, Ok, Err, IfOk, IfSome, ◌==◌, length-drop}
use Rattle.std.proofs.lemmas.List.{drop-drop}
use Rattle.std.proofs.lemmas.List.Elements.{All-from_recursion}
use Rattle.std.specs.Prelude.{All, codes, option_and_then}
use Rattle.std.specs.Option.{option_map_or}
use Rattle.std.specs.List.{slice_split, onto_first, AllByRecursion}
use Rattle.std.specs.Str.{bytes_eq, is_utf8}
use Rattle.eli_base.specs.declared.Reason.{Reason}
use Rattle.command_words.specs.declared.commands.Command.{Command}
use Rattle.command_words.specs.declared.commands.Usage.{Usage}
use Rattle.command_words.specs.declared.settings.Settings.{Settings}
use Rattle.command_words.specs.declared.spans.Sep.{Sep}
use Rattle.command_words.specs.declared.table.Verb.{Verb}
use Rattle.command_words.specs.declared.operands.Operands.{Operands}
use Rattle.command_words.specs.declared.table.JobName.{JobName}
use Rattle.command_words.specs.declared.table.JobName.TheVariants as jobs
use Rattle.command_words.specs.declared.table.Operand.{Operand}
use Rattle.command_words.specs.declared.table.Operand.TheVariants.{Provider, File, Digits}
use Rattle.command_words.specs.declared.table.Verb.TheVariants as verbs
use Rattle.command_words.specs.declared.table.Valued.{Valued}
use Rattle.command_words.specs.declared.table.Valued.TheVariants.{BackupFile, OldFile, OldPass, FreshFile, FreshPass}
use Rattle.command_words.specs.declared.table.Letter.{Letter}
use Rattle.command_words.specs.declared.table.Letter.TheVariants.{Alone, WithValue}
use Rattle.command_words.specs.Words.{Word, words, placed_words, is_between, is_word}
use Rattle.command_words.specs.Table.{letter_of, verb_named, form_of, job_at}
use Rattle.command_words.specs.Options.{Item, Set, Given, Unknown, Missing, Group, letters, with_letter, Kind, Ends, Letters, Other, kind_of, Options, options, onto, with_word, values, value_in, place, first_option_fault}
use Rattle.command_words.specs.Settings.{settings_given, span_of, last, option_files, backup_of}
use Rattle.command_words.specs.Operands.{operands_of, operands_fault, job_as, operand_place, word_as, span_as, no_span}
use Rattle.command_words.specs.Reading.{line_reading, by_words, by_verb, unless_usage, by_form, settled, or_complaint, complaint, command_at, is_comment, some_command}
use Rattle.command_words.specs.Places.{IsWithin, CommandIsWithin, JobIsWithin, KeyIsWithin, bytes_at}

-- a word stands in the line
abbrev pub Stands : List ℕ → Word → Type 0
Stands line word = (word.start + length word.bytes ≤ length line) × (take (length word.bytes) (drop word.start line) ≡ word.bytes)

-- the parts of a line from a place on
abbrev pub Parts : List ℕ → ℕ → List (List ℕ) → Type 0
Parts line start [] = Unit {0}
Parts line start (part ∷ parts) =
    (start + length part ≤ length line) × (take (length part) (drop start line) ≡ part) × Parts line (start + length part + 1) parts

-- the bytes of a line after one more byte
pub drop_one : (line : List ℕ) (start x : ℕ) (xs : List ℕ) → drop start line ≡ x ∷ xs → drop (start + 1) line ≡ xs
drop_one line start x xs e = sym (drop-drop 1 start line) ∙ ap (λ rest. drop 1 rest) e

pub below_end : (line : List ℕ) (start x : ℕ) (xs : List ℕ) → drop start line ≡ x ∷ xs → start + 1 ≤ length line
below_end line start x xs e = omega (arith, length-drop start line, ap length e)

parts_more : (line : List ℕ) (start x : ℕ) (xs : List ℕ) (b : Bool) (parts : List (List ℕ))
    → drop start line ≡ x ∷ xs → Parts line (start + 1) parts → Parts line start (cond b ([] ∷ parts) (onto_first x parts))
parts_more line start x xs true parts e h =
    let l : start + 1 ≤ length line = below_end line start x xs e in
    let same : start + 1 ≡ start + 0 + 1 = omega arith in
    (omega arith, refl, subst (λ (n : ℕ). Parts line n parts) same h)
parts_more line start x xs false [] e h = (below_end line start x xs e, rw e, tt)
parts_more line start x xs false (part ∷ parts) e h =
    let rest : take (length part) xs ≡ part = rw (drop_one line start x xs e) at h.1 in
    let same : start + 1 + length part + 1 ≡ start + suc (length part) + 1 = omega arith in
    (omega (arith, h.0), rw e (ap (λ bytes. x ∷ bytes) rest), subst (λ (n : ℕ). Parts line n parts) same h.2)

pub parts_stand : (p : ℕ → Bool) (rest line : List ℕ) (start : ℕ) → drop start line ≡ rest → start ≤ length line → Parts line start (slice_split p rest)
parts_stand p [] line start e h = (omega arith, refl, tt)
parts_stand p (x ∷ xs) line start e h =
    parts_more line start x xs (p x) (slice_split p xs) e (parts_stand p xs line (start + 1) (drop_one line start x xs e) (below_end line start x xs e))

-- the words of a line

abbrev pub AllStand : List ℕ → List Word → Type 0
AllStand line words = AllByRecursion (Stands line) words

placed_part : (line : List ℕ) (start : ℕ) (part : List ℕ) (number : ℕ) (b : Bool) (counted skipped : List Word)
    → Stands line (record { number = number; start = start; bytes = part }) → AllStand line counted → AllStand line skipped
    → AllStand line (cond b (record { number = number; start = start; bytes = part } ∷ counted) skipped)
placed_part line start part number true counted skipped h hs gs = (h, hs)
placed_part line start part number false counted skipped h hs gs = gs

placed_stand : (line : List ℕ) (sep : Sep) (number start : ℕ) (parts : List (List ℕ)) → Parts line start parts → AllStand line (placed_words sep number start parts)
placed_stand line sep number start [] h = tt
placed_stand line sep number start (part ∷ parts) h =
    placed_part line start part number (is_word sep part) _ _ (h.0, h.1)
    (placed_stand line sep (number + 1) (start + length part + 1) parts h.2)
    (placed_stand line sep number (start + length part + 1) parts h.2)

pub words_stand : (sep : Sep) (line : List ℕ) → AllStand line (words sep line)
words_stand sep [] = tt
words_stand sep (b ∷ bs) = placed_stand (b ∷ bs) sep 0 0 _ (parts_stand (is_between sep) (b ∷ bs) (b ∷ bs) 0 refl (omega arith))

-- the values of options and the operands

abbrev pub ItemStands : List ℕ → Item → Type 0
ItemStands line (Set switch) = Unit {0}
ItemStands line (Given option word) = Stands line word
ItemStands line (Unknown number) = Unit {0}
ItemStands line (Missing number) = Unit {0}

abbrev pub ItemsStand : List ℕ → List Item → Type 0
ItemsStand line items = AllByRecursion (ItemStands line) items

items_append : (line : List ℕ) (items more : List Item) → ItemsStand line items → ItemsStand line more → ItemsStand line (items ++ more)
items_append line [] more h g = g
items_append line (item ∷ items) more h g = (h.0, items_append line items more h.1 g)

-- the bytes after the first
tail_of : (line rest : List ℕ) (start b : ℕ) (bs : List ℕ) → drop start line ≡ rest → take (suc (length bs)) rest ≡ b ∷ bs → take (length bs) (drop (start + 1) line) ≡ bs
tail_of line [] start b bs e h = let no : ⊥ = cc in absurd no
tail_of line (y ∷ ys) start b bs e h =
    let same : take (length bs) ys ≡ bs = cc in
    rw (drop_one line start y ys e) same

tail_stands : (line : List ℕ) (number start b : ℕ) (bs : List ℕ)
    → Stands line (record { number = number; start = start; bytes = b ∷ bs }) → Stands line (record { number = number; start = start + 1; bytes = bs })
tail_stands line number start b bs h = (omega (arith, h.0), tail_of line (drop start line) start b bs refl h.1)

letter_stands : (line : List ℕ) (letter : Option Letter) (number start : ℕ) (rest : List ℕ) (group : Group)
    → Stands line (record { number = number; start = start; bytes = rest }) → ItemsStand line group.items
    → ItemsStand line (with_letter letter number start rest group).items
letter_stands line None number start rest group h g = (tt, tt)
letter_stands line (Some (Alone switch)) number start rest group h g = (tt, g)
letter_stands line (Some (WithValue option)) number start [] group h g = tt
letter_stands line (Some (WithValue option)) number start (b ∷ bs) group h g = (h, tt)

letters_stand : (line : List ℕ) (verb : Verb) (number start : ℕ) (bytes : List ℕ)
    → Stands line (record { number = number; start = start; bytes = bytes }) → ItemsStand line (letters verb number start bytes).items
letters_stand line verb number start [] h = tt
letters_stand line verb number start (b ∷ bs) h =
    let behind : Stands line (record { number = number; start = start + 1; bytes = bs }) = tail_stands line number start b bs h in
    letter_stands line (letter_of verb b) number (start + 1) bs _ behind (letters_stand line verb number (start + 1) bs behind)

-- the letters of a word stand after its dash
abbrev KindStands : List ℕ → ℕ → ℕ → Kind → Type 0
KindStands line number start Ends = Unit {0}
KindStands line number start (Letters bytes) = Stands line (record { number = number; start = start; bytes = bytes })
KindStands line number start Other = Unit {0}

kind_choice : (line : List ℕ) (number start : ℕ) (bytes : List ℕ) (dash ends : Bool)
    → Stands line (record { number = number; start = start; bytes = bytes }) → KindStands line number start (cond dash (cond ends Ends (Letters bytes)) Other)
kind_choice line number start bytes true true h = tt
kind_choice line number start bytes true false h = h
kind_choice line number start bytes false ends h = tt

kind_stands : (line : List ℕ) (number start : ℕ) (bytes : List ℕ)
    → Stands line (record { number = number; start = start; bytes = bytes }) → KindStands line number (start + 1) (kind_of bytes)
kind_stands line number start [] h = tt
kind_stands line number start (b ∷ []) h = tt
kind_stands line number start (b ∷ c ∷ bs) h = kind_choice line number (start + 1) (c ∷ bs) (b == 45) _ (tail_stands line number start b (c ∷ bs) h)

pub record OptionsStand (line : List ℕ) (read : Options) : Type 0 where
  pub items : ItemsStand line read.items
  pub operands : AllStand line read.operands

onto_stands : (line : List ℕ) (items : List Item) (read : Options) → ItemsStand line items → OptionsStand line read → OptionsStand line (onto items read)
onto_stands line items read h g = record { items = items_append line items read.items h g.items; operands = g.operands }

word_stands : (line : List ℕ) (kind : Kind) (verb : Verb) (word : Word) (behind : List Word) (rest : Option Valued → Options)
    → KindStands line word.number (word.start + 1) kind → Stands line word → AllStand line behind → ((waiting : Option Valued) → OptionsStand line (rest waiting))
    → OptionsStand line (with_word kind verb word behind rest)
word_stands line Ends verb word behind rest k h hs then = record { items = tt; operands = hs }
word_stands line (Letters bytes) verb word behind rest k h hs then = onto_stands line _ _ (letters_stand line verb word.number (word.start + 1) bytes k) (then _)
word_stands line Other verb word behind rest k h hs then = record { items = tt; operands = (h, hs) }

pub options_stand : (line : List ℕ) (verb : Verb) (total : ℕ) (words : List Word) (waiting : Option Valued) → AllStand line words → OptionsStand line (options verb total words waiting)
options_stand line verb total [] None h = record { items = tt; operands = tt }
options_stand line verb total [] (Some option) h = record { items = (tt, tt); operands = tt }
options_stand line verb total (word ∷ behind) (Some option) h =
    onto_stands line (Given option word ∷ []) _ (h.0, tt) (options_stand line verb total behind None h.1)
options_stand line verb total (word ∷ behind) None h =
    word_stands line (kind_of word.bytes) verb word behind _ (kind_stands line word.number word.start word.bytes h.0) h.0 h.1
    (λ waiting. options_stand line verb total behind waiting h.1)

-- the spans of a command

stand_append : (line : List ℕ) (words more : List Word) → AllStand line words → AllStand line more → AllStand line (words ++ more)
stand_append line [] more h g = g
stand_append line (word ∷ words) more h g = (h.0, stand_append line words more h.1 g)

value_choice : (line : List ℕ) (b : Bool) (word : Word) → Stands line word → AllStand line (cond b (word ∷ []) [])
value_choice line true word h = (h, tt)
value_choice line false word h = tt

value_stands : (line : List ℕ) (option : Valued) (item : Item) → ItemStands line item → AllStand line (value_in option item)
value_stands line option (Set switch) h = tt
value_stands line option (Given given word) h = value_choice line (place option == place given) word h
value_stands line option (Unknown number) h = tt
value_stands line option (Missing number) h = tt

values_stand : (line : List ℕ) (option : Valued) (items : List Item) → ItemsStand line items → AllStand line (values option items)
values_stand line option [] h = tt
values_stand line option (item ∷ items) h = stand_append line _ _ (value_stands line option item h.0) (values_stand line option items h.1)

-- the bytes of a word's span are the word
pub bytes_of_span : (line : List ℕ) (word : Word) → Stands line word → bytes_at line (span_of word) ≡ word.bytes
bytes_of_span line word h =
    let len : word.start + length word.bytes - word.start ≡ length word.bytes = omega arith in
    rw len h.1

span_within : (line : List ℕ) (word : Word) → Stands line word → IsWithin (length line) (span_of word)
span_within line word h = (omega arith, h.0)

spans_within : (line : List ℕ) (words : List Word) → AllStand line words → AllByRecursion (IsWithin (length line)) (map span_of words)
spans_within line [] h = tt
spans_within line (word ∷ words) h = (span_within line word h.0, spans_within line words h.1)

files_within : (line : List ℕ) (option : Valued) (items : List Item) → ItemsStand line items → All (IsWithin (length line)) (option_files option items)
files_within line option items h = All-from_recursion _ _ (spans_within line (values option items) (values_stand line option items h))

backup_choice : (line : List ℕ) (b : Bool) (word : Word) → Stands line word → IfSome (cond b None (Some (span_of word))) (IsWithin (length line))
backup_choice line true word h = tt
backup_choice line false word h = span_within line word h

backup_within : (line : List ℕ) (words : List Word) → AllStand line words → IfSome (option_and_then backup_of (last words)) (IsWithin (length line))
backup_within line [] h = tt
backup_within line (word ∷ []) h = backup_choice line (bytes_eq word.bytes (codes "none")) word h.0
backup_within line (word ∷ next ∷ words) h = backup_within line (next ∷ words) h.1

-- what holds of all words holds of the one that stands as an operand
found_choice : (P : Word → Type 0) (b : Bool) (word : Word) (rest : Option Word) → P word → IfSome rest P → IfSome (cond b (Some word) rest) P
found_choice P true word rest h g = h
found_choice P false word rest h g = g

pub word_keeps : (P : Word → Type 0) (wanted : Operand) (form : List Operand) (words : List Word) → AllByRecursion P words → IfSome (word_as wanted form words) P
word_keeps P wanted [] words h = tt
word_keeps P wanted (operand ∷ form) [] h = tt
word_keeps P wanted (operand ∷ form) (word ∷ words) h =
    found_choice P (operand_place wanted == operand_place operand) word (word_as wanted form words) h.0 (word_keeps P wanted form words h.1)

found_within : (line : List ℕ) (found : Option Word) → IfSome found (Stands line) → IsWithin (length line) (option_map_or span_of found no_span)
found_within line None h = (omega arith, omega arith)
found_within line (Some word) h = span_within line word h

operand_within : (line : List ℕ) (wanted : Operand) (form : List Operand) (words : List Word) → AllStand line words → IsWithin (length line) (span_as wanted form words)
operand_within line wanted form words h = found_within line (word_as wanted form words) (word_keeps (Stands line) wanted form words h)

job_within : (line : List ℕ) (job : JobName) (o : Operands) → IsWithin (length line) o.digits → JobIsWithin (length line) (job_at job o)
job_within line jobs.Read o h = tt
job_within line jobs.Write o h = h
job_within line jobs.Flush o h = tt

-- the spans of the options and the operands lie in the line
record AreWithin (len : ℕ) (s : Settings) (o : Operands) : Type 0 where
  pub prov : IsWithin len o.prov
  pub file : IsWithin len o.file
  pub digits : IsWithin len o.digits
  pub job : JobIsWithin len (job_at o.job o)
  pub old : KeyIsWithin len s.old_key
  pub fresh : KeyIsWithin len s.fresh_key
  pub backup : IfSome s.backup (IsWithin len)

within_by : (len : ℕ) (verb : Verb) (s : Settings) (o : Operands) → AreWithin len s o → CommandIsWithin len (command_at verb s o)
within_by len verbs.List s o w = (tt, tt)
within_by len _ s o w = assumption

command_within : (line : List ℕ) (verb : Verb) (items : List Item) (form : List Operand) (words : List Word) → ItemsStand line items → AllStand line words
    → CommandIsWithin (length line) (command_at verb (settings_given items) (operands_of form words))
command_within line verb items form words h g =
    let digits = operand_within line Digits form words g in
    within_by (length line) verb (settings_given items) (operands_of form words) (record {
      prov = operand_within line Provider form words g;
      file = operand_within line File form words g;
      digits = digits;
      job = job_within line (job_as form words) (operands_of form words) digits;
      old = (files_within line OldFile items h, files_within line OldPass items h);
      fresh = (files_within line FreshFile items h, files_within line FreshPass items h);
      backup = backup_within line _ (values_stand line BackupFile items h);
    })

-- what holds of a command holds of a result that may refuse it

complaint_keeps : (Q : Command → Type 0) (complaint : Option Reason) (total : ℕ) (result : Result Command Usage) → (complaint ≡ None → IfOk result Q) → IfOk (or_complaint complaint total result) Q
complaint_keeps Q None total result h = h refl
complaint_keeps Q (Some reason) total result h = tt

fault_keeps : (Q : Command → Type 0) (fault : Option Usage) (result : Result Command Usage) → (fault ≡ None → IfOk result Q) → IfOk (unless_usage fault result) Q
fault_keeps Q None result h = h refl
fault_keeps Q (Some usage) result h = tt

form_keeps : (Q : Command → Type 0) (found : Option (List Operand)) (verb : Verb) (total : ℕ) (s : Settings) (words : List Word)
    → ((form : List Operand) → found ≡ Some form → complaint verb s ≡ None → operands_fault form words ≡ None → Q (command_at verb s (operands_of form words)))
    → IfOk (by_form found verb total s words) Q
form_keeps Q None verb total s words h = tt
form_keeps Q (Some form) verb total s words h =
    complaint_keeps Q (complaint verb s) total _ (λ good. fault_keeps Q (operands_fault form words) _ (λ none. h form refl good none))

-- what holds of the command holds of the result, which is an error if options or operands have a fault
pub verb_keeps : (Q : Command → Type 0) (fault : Option Usage) (verb : Verb) (total : ℕ) (s : Settings) (words : List Word)
    → (fault ≡ None → (form : List Operand) → form_of verb words ≡ Some form → complaint verb s ≡ None → operands_fault form words ≡ None → Q (command_at verb s (operands_of form words)))
    → IfOk (unless_usage fault (settled verb total s words)) Q
verb_keeps Q fault verb total s words h = fault_keeps Q fault _ (λ none. form_keeps Q (form_of verb words) verb total s words (h none))

some_keeps : (Q : Command → Type 0) (result : Result Command Usage) → IfOk result Q → IfOk (some_command result) (λ read. IfSome read Q)
some_keeps Q (Ok command) h = h
some_keeps Q (Err usage) h = tt

pub text_keeps : (Q : Command → Type 0) (comment text : Bool) (usage : Usage) (result : Result Command Usage) → (text ≡ true → IfOk result Q)
    → IfOk (cond comment (Ok None) (cond text (some_command result) (Err usage))) (λ (read : Option Command). IfSome read Q)
text_keeps Q true text usage result h = tt
text_keeps Q false true usage result h = some_keeps Q result (h refl)
text_keeps Q false false usage result h = tt

verb_within : (line : List ℕ) (verb : Option Verb) (total : ℕ) (words : List Word) → AllStand line words → IfOk (by_verb verb total words) (CommandIsWithin (length line))
verb_within line None total words h = tt
verb_within line (Some verb) total words h =
    let o : Options = options verb total words None in
    let stand : OptionsStand line o = options_stand line verb total words None h in
    let settings : Settings = settings_given o.items in
    verb_keeps (CommandIsWithin (length line)) (first_option_fault [] o.items) verb total settings o.operands
    (λ _ form _ _ _. command_within line verb o.items form o.operands stand.items stand.operands)

by_words_within : (line : List ℕ) (sep : Sep) (text : Bool) (words : List Word) → AllStand line words → IfOk (by_words sep text words) (λ read. IfSome read (CommandIsWithin (length line)))
by_words_within line sep text [] h = tt
by_words_within line sep text (word ∷ behind) h =
    text_keeps (CommandIsWithin (length line)) (is_comment sep word.bytes) text _ (by_verb (verb_named word.bytes) (1 + length behind) behind)
    (λ _. verb_within line (verb_named word.bytes) (1 + length behind) behind h.1)

-- The spans of what a line says lie in the line.
pub reading_within : (sep : Sep) (line : List ℕ) → IfOk (line_reading sep line) (λ read. IfSome read (CommandIsWithin (length line)))
reading_within sep line = by_words_within line sep (is_utf8 line) (words sep line) (words_stand sep line)
