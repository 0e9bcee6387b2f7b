-- The numbers of a command lie within their bounds, and its digits are hexadecimal.
use Rattle.std.proofs.Common.{◌≡◌, ℕ, suc, ◌+◌, ◌%◌, ◌≤◌, List, [], ◌∷◌, ◌++◌, length, refl, ap, sym, subst, arith, Bool, true, false, cond, not, ◌&&◌, ◌||◌, Option, None, Some, IfOk, IfSome, ◌==◌, nat_le}
use Rattle.std.proofs.lemmas.Bool.Decides.{nat_tests}
use Rattle.std.specs.Prelude.{MatchOption, option_map, unwrap_or, is_some, IsTrue}
use Rattle.std.specs.List.{AllByRecursion, list_all}
use Rattle.std.specs.Option.{option_map_or}
use Rattle.std.specs.Str.{is_utf8}
use Rattle.eli_base.specs.declared.Reason.{Reason}
use Rattle.eli_base.specs.declared.Reason.TheVariants.{BadNumber, BadHex, MissingOption}
use Rattle.command_words.specs.declared.commands.Usage.{Usage}
use Rattle.command_words.specs.declared.spans.Sep.{Sep}
use Rattle.command_words.specs.declared.table.Verb.{Verb}
use Rattle.command_words.specs.declared.table.Verb.TheVariants as verbs
use Rattle.command_words.specs.declared.table.JobName.{JobName}
use Rattle.command_words.specs.declared.table.Rule.{Rule}
use Rattle.command_words.specs.declared.table.Rule.TheVariants.{NeedsOldSize}
use Rattle.command_words.specs.declared.table.Valued.{Valued}
use Rattle.command_words.specs.declared.table.Valued.TheVariants.{OldSize}
use Rattle.command_words.specs.declared.table.JobName.TheVariants as jobs
use Rattle.command_words.specs.declared.table.Operand.{Operand}
use Rattle.command_words.specs.declared.table.Operand.TheVariants.{Provider, File, Sector, FewSectors, ManySectors, Seed, Digits, Job, Tag}
use Rattle.command_words.specs.Words.{Word, words}
use Rattle.command_words.specs.Table.{verb_named, form_of, row_of, job_at}
use Rattle.command_words.specs.Values.{value_fault, operand_fault}
use Rattle.word_values.specs.Values.{decimal, is_numeral, number_within, is_hexadecimal}
use Rattle.command_words.specs.Options.{Item, Set, Given, Unknown, Missing, Options, options, values, value_in, option_fault, first_option_fault, or_else}
use Rattle.command_words.specs.Settings.{settings_given, span_of, last, last_value}
use Rattle.command_words.specs.Operands.{operands_of, operands_fault, operand_place, word_as, no_span, job_or, job_as, number_as, span_as}
use Rattle.command_words.specs.Reading.{line_reading, by_words, by_verb, complaint, lacks_option, command_at, is_comment}
use Rattle.command_words.specs.Places.{bytes_at}
use Rattle.command_words.specs.Bounds.{IsBounded, IsBoundedJob, IsOldSize}
use Rattle.command_words.proofs.Forms.{WhereLong, found_keeps, where_long}
use Rattle.command_words.proofs.OperandsLemmas.{is_among}
use Rattle.command_words.proofs.Places.{Stands, AllStand, words_stand, OptionsStand, options_stand, verb_keeps, text_keeps, bytes_of_span}

and_parts : (a b : Bool) → (a && b) ≡ true → (a ≡ true) × (b ≡ true)
and_parts true b h = (refl, h)
and_parts false b h = let no : ⊥ = cc in absurd no

le_from : (m n : ℕ) → nat_le m n ≡ true → m ≤ n
le_from m n h = grind (arith, nat_tests)

is_from : (m n : ℕ) → (m == n) ≡ true → m ≡ n
is_from m n h = grind (arith, nat_tests)

some_from : (t : Bool) (d : ℕ) → is_some (cond t (Some d) None) ≡ true → t ≡ true
some_from true d h = refl
some_from false d h = let no : ⊥ = cc in absurd no

number_good : (low high : ℕ) (bytes : List ℕ) → is_some (number_within low high bytes) ≡ true → (low ≤ decimal bytes) × (decimal bytes ≤ high)
number_good low high bytes h =
    let all : (is_numeral bytes && nat_le low (decimal bytes) && nat_le (decimal bytes) high) ≡ true = some_from _ (decimal bytes) h in
    let parts = and_parts (is_numeral bytes && nat_le low (decimal bytes)) (nat_le (decimal bytes) high) all in
    (le_from low (decimal bytes) (and_parts (is_numeral bytes) (nat_le low (decimal bytes)) parts.0).1, le_from (decimal bytes) high parts.1)

or_else_none : (a b : Option Usage) → or_else a b ≡ None → (a ≡ None) × (b ≡ None)
or_else_none None b h = (refl, h)
or_else_none (Some usage) b h = let no : ⊥ = cc in absurd no

abbrev usage_at : ℕ → Option Reason → Option Usage
usage_at number fault = option_map (λ r. record { word = number; reason = r }) fault

map_none : (number : ℕ) (fault : Option Reason) → usage_at number fault ≡ None → fault ≡ None
map_none number None h = refl
map_none number (Some reason) h = let no : ⊥ = cc in absurd no

-- ---- the operands without a fault

unless_none : (good : Bool) (reason : Reason) → cond good None (Some reason) ≡ None → good ≡ true
unless_none true reason h = refl
unless_none false reason h = let no : ⊥ = cc in absurd no

-- what holds of a value without a fault, by the kind of its operand
abbrev IsGoodAs : Operand → List ℕ → Type 0
IsGoodAs Provider bytes = Unit {0}
IsGoodAs File bytes = Unit {0}
IsGoodAs Sector bytes = decimal bytes ≤ 9223372036854775807
IsGoodAs FewSectors bytes = (1 ≤ decimal bytes) × (decimal bytes ≤ 256)
IsGoodAs ManySectors bytes = (1 ≤ decimal bytes) × (decimal bytes ≤ 9223372036854775807)
IsGoodAs Seed bytes = Unit {0}
IsGoodAs Digits bytes = IsTrue (is_hexadecimal bytes)
IsGoodAs (Job job) bytes = Unit {0}
IsGoodAs Tag bytes = decimal bytes ≤ 31

good_as : (operand : Operand) (bytes : List ℕ) → operand_fault operand bytes ≡ None → IsGoodAs operand bytes
good_as Provider bytes h = tt
good_as File bytes h = tt
good_as Sector bytes h = (number_good 0 9223372036854775807 bytes (unless_none _ BadNumber h)).1
good_as FewSectors bytes h = number_good 1 256 bytes (unless_none _ BadNumber h)
good_as ManySectors bytes h = number_good 1 9223372036854775807 bytes (unless_none _ BadNumber h)
good_as Seed bytes h = tt
good_as Digits bytes h = unless_none (is_hexadecimal bytes) BadHex h
good_as (Job job) bytes h = tt
good_as Tag bytes h = (number_good 0 31 bytes (unless_none _ BadNumber h)).1

-- operands of one kind require the same of a value
same_kind : (wanted operand : Operand) (bytes : List ℕ) → (operand_place wanted == operand_place operand) ≡ true → IsGoodAs operand bytes → IsGoodAs wanted bytes
same_kind Provider operand bytes is h = tt
same_kind File operand bytes is h = tt
same_kind Sector Sector bytes is h = h
same_kind FewSectors FewSectors bytes is h = h
same_kind ManySectors ManySectors bytes is h = h
same_kind Seed operand bytes is h = tt
same_kind Digits Digits bytes is h = h
same_kind (Job job) operand bytes is h = tt
same_kind Tag Tag bytes is h = h
same_kind _ _ bytes is h = let no : ⊥ = cc in absurd no

-- the word that stands as an operand is there, and is good
abbrev StandsGood : Operand → List ℕ → Option Word → Type 0
StandsGood wanted line found = MatchOption found ⊥ (λ word. IsGoodAs wanted word.bytes × Stands line word)

stands_choice : (line : List ℕ) (wanted operand : Operand) (word : Word) (b : Bool) (rest : Option Word) → (operand_place wanted == operand_place operand) ≡ b
    → operand_fault operand word.bytes ≡ None → Stands line word → (b ≡ false → StandsGood wanted line rest) → StandsGood wanted line (cond b (Some word) rest)
stands_choice line wanted operand word true rest is fault h others = (same_kind wanted operand word.bytes is (good_as operand word.bytes fault), h)
stands_choice line wanted operand word false rest is fault h others = others refl

or_false : (a b : Bool) → (a || b) ≡ true → a ≡ false → b ≡ true
or_false true b h is = let no : ⊥ = cc in absurd no
or_false false b h is = h

suc_same : (m n : ℕ) → (suc m == suc n) ≡ true → (m == n) ≡ true
suc_same m n h = grind (arith, nat_tests)

no_length : (n : ℕ) → (suc n == 0) ≡ true → ⊥
no_length n h = grind (arith, nat_tests)

stands_good : (line : List ℕ) (wanted : Operand) (form : List Operand) (words : List Word) → AllStand line words → is_among (operand_place wanted) form ≡ true → (length form == length words) ≡ true
    → operands_fault form words ≡ None → StandsGood wanted line (word_as wanted form words)
stands_good line wanted [] words g there long none = let no : ⊥ = cc in absurd no
stands_good line wanted (operand ∷ form) [] g there long none = absurd (no_length (length form) long)
stands_good line wanted (operand ∷ form) (word ∷ words) g there long none =
    let faults = or_else_none _ (operands_fault form words) none in
    stands_choice line wanted operand word _ (word_as wanted form words) refl (map_none word.number _ faults.0) g.0
    (λ other. stands_good line wanted form words g.1 (or_false _ _ there other) (suc_same _ _ long) faults.1)

found_number : (line : List ℕ) (P : ℕ → Type 0) (found : Option Word) → MatchOption found ⊥ (λ word. P (decimal word.bytes) × Stands line word) → P (option_map_or (λ word. decimal word.bytes) found 0)
found_number line P None h = absurd h
found_number line P (Some word) h = h.0

found_digits : (line : List ℕ) (found : Option Word) → StandsGood Digits line found → IsTrue (is_hexadecimal (bytes_at line (option_map_or span_of found no_span)))
found_digits line None h = absurd h
found_digits line (Some word) h = rw (bytes_of_span line word h.1) h.0

-- what holds of the operands that a form has
record Facts (line : List ℕ) (form : List Operand) (words : List Word) : Type 0 where
  pub sector : is_among (operand_place Sector) form ≡ true → number_as Sector form words ≤ 9223372036854775807
  pub few_least : is_among (operand_place FewSectors) form ≡ true → 1 ≤ number_as FewSectors form words
  pub few_most : is_among (operand_place FewSectors) form ≡ true → number_as FewSectors form words ≤ 256
  pub many_least : is_among (operand_place ManySectors) form ≡ true → 1 ≤ number_as ManySectors form words
  pub many_most : is_among (operand_place ManySectors) form ≡ true → number_as ManySectors form words ≤ 9223372036854775807
  pub digits : is_among (operand_place Digits) form ≡ true → IsTrue (is_hexadecimal (bytes_at line (span_as Digits form words)))
  pub tag : is_among (operand_place Tag) form ≡ true → number_as Tag form words ≤ 31

facts : (line : List ℕ) (form : List Operand) (words : List Word) → AllStand line words → (length form == length words) ≡ true → operands_fault form words ≡ None → Facts line form words
facts line form words g long none =
    let few : is_among (operand_place FewSectors) form ≡ true → (1 ≤ number_as FewSectors form words) × (number_as FewSectors form words ≤ 256) =
    λ there. found_number line (λ n. (1 ≤ n) × (n ≤ 256)) _ (stands_good line FewSectors form words g there long none) in
    let many : is_among (operand_place ManySectors) form ≡ true → (1 ≤ number_as ManySectors form words) × (number_as ManySectors form words ≤ 9223372036854775807) =
    λ there. found_number line (λ n. (1 ≤ n) × (n ≤ 9223372036854775807)) _ (stands_good line ManySectors form words g there long none) in
    record {
      sector = λ there. found_number line (λ n. n ≤ 9223372036854775807) _ (stands_good line Sector form words g there long none);
      few_least = λ there. (few there).0;
      few_most = λ there. (few there).1;
      many_least = λ there. (many there).0;
      many_most = λ there. (many there).1;
      digits = λ there. found_digits line _ (stands_good line Digits form words g there long none);
      tag = λ there. found_number line (λ n. n ≤ 31) _ (stands_good line Tag form words g there long none);
    }

-- ---- the job of `submit`

abbrev job_in : List Operand → JobName
job_in [] = jobs.Flush
job_in (operand ∷ form) = job_or operand (job_in form)

job_same : (form : List Operand) (words : List Word) → (length form == length words) ≡ true → job_as form words ≡ job_in form
job_same [] words long = refl
job_same (operand ∷ form) [] long = absurd (no_length (length form) long)
job_same (operand ∷ form) (word ∷ words) long = ap (job_or operand) (job_same form words (suc_same _ _ long))

-- the numbers of a request, from operands without a fault
abbrev IsJobOf : List ℕ → List Word → List Operand → Type 0
IsJobOf line words form = operands_fault form words ≡ None → IsBoundedJob line (job_at (job_as form words) (operands_of form words))

abbrev IsJobIn : List ℕ → List Word → List Operand → Type 0
IsJobIn line words form = Facts line form words → IsBoundedJob line (job_at (job_in form) (operands_of form words))

each_job : (line : List ℕ) (words : List Word) (forms : List (List Operand)) → AllStand line words → AllByRecursion (IsJobIn line words) forms → AllByRecursion (WhereLong (IsJobOf line words) (length words)) forms
each_job line words [] g own = tt
each_job line words (form ∷ forms) g own = (
  (λ long none. subst (λ (job : JobName). IsBoundedJob line (job_at job (operands_of form words))) (sym (job_same form words long)) (own.0 (facts line form words g long none))),
  each_job line words forms g own.1,
)

-- `submit` alone has a job
abbrev JobKept : Verb → List ℕ → List Operand → List Word → Type 0
JobKept verbs.Submit line form words = IsBoundedJob line (job_at (job_as form words) (operands_of form words))
JobKept _ line form words = Unit {0}

job_kept : (line : List ℕ) (verb : Verb) (form : List Operand) (words : List Word) → AllStand line words → form_of verb words ≡ Some form → operands_fault form words ≡ None → JobKept verb line form words
job_kept line verbs.Submit form words g found none =
    let own : AllByRecursion (IsJobIn line words) (row_of verbs.Submit).forms =
    ((λ f. tt), ((λ f. (f.sector refl, f.few_least refl, f.few_most refl)), ((λ f. (f.sector refl, f.digits refl)), tt))) in
    found_keeps (IsJobOf line words) verbs.Submit words form (each_job line words (row_of verbs.Submit).forms g own) found none
job_kept line _ form words g found none = tt

-- ---- the options without a fault

abbrev IsGood : Item → Type 0
IsGood (Set switch) = Unit {0}
IsGood (Given option word) = (n : ℕ) × (value_fault option n word.bytes ≡ None)
IsGood (Unknown number) = Unit {0}
IsGood (Missing number) = Unit {0}

item_good : (before : List Item) (item : Item) → option_fault before item ≡ None → IsGood item
item_good before (Set switch) h = tt
item_good before (Given option word) h = (length (values option before), map_none word.number _ h)
item_good before (Unknown number) h = tt
item_good before (Missing number) h = tt

items_good : (before items : List Item) → first_option_fault before items ≡ None → AllByRecursion IsGood items
items_good before [] h = tt
items_good before (item ∷ items) h =
    let parts = or_else_none (option_fault before item) (first_option_fault (before ++ item ∷ []) items) h in
    (item_good before item parts.0, items_good (before ++ item ∷ []) items parts.1)

abbrev IsGoodSize : Word → Type 0
IsGoodSize word = value_fault OldSize 0 word.bytes ≡ None

size_value : (given : Valued) (word : Word) → (n : ℕ) × (value_fault given n word.bytes ≡ None) → AllByRecursion IsGoodSize (value_in OldSize (Given given word))
size_value OldSize word h = (h.1, tt)
size_value _ word h = tt

good_append : (first second : List Word) → AllByRecursion IsGoodSize first → AllByRecursion IsGoodSize second → AllByRecursion IsGoodSize (first ++ second)
good_append [] second h g = g
good_append (word ∷ first) second h g = (h.0, good_append first second h.1 g)

item_sizes : (item : Item) → IsGood item → AllByRecursion IsGoodSize (value_in OldSize item)
item_sizes (Set switch) h = tt
item_sizes (Given option word) h = size_value option word h
item_sizes (Unknown number) h = tt
item_sizes (Missing number) h = tt

sizes_good : (items : List Item) → AllByRecursion IsGood items → AllByRecursion IsGoodSize (values OldSize items)
sizes_good [] h = tt
sizes_good (item ∷ items) h = good_append (value_in OldSize item) (values OldSize items) (item_sizes item h.0) (sizes_good items h.1)

last_good : (words : List Word) → AllByRecursion IsGoodSize words → IfSome (last words) IsGoodSize
last_good [] h = tt
last_good (word ∷ []) h = h.0
last_good (word ∷ next ∷ words) h = last_good (next ∷ words) h.1

size_test : (a b : Bool) (d : ℕ) → cond (is_some (cond a (cond b (Some d) None) None)) None (Some BadNumber) ≡ None → (a ≡ true) × (b ≡ true)
size_test true true d h = (refl, refl)
size_test true false d h = let no : ⊥ = cc in absurd no
size_test false b d h = let no : ⊥ = cc in absurd no

size_good : (word : Word) → IsGoodSize word → IsOldSize (decimal word.bytes)
size_good word h =
    let d : ℕ = decimal word.bytes in
    let tests = size_test (d % 512 == 0) (is_numeral word.bytes && nat_le 1024 d && nat_le d 9007199254740480) d h in
    let parts = and_parts (is_numeral word.bytes && nat_le 1024 d) (nat_le d 9007199254740480) tests.1 in
    (le_from 1024 d (and_parts (is_numeral word.bytes) (nat_le 1024 d) parts.0).1, le_from d 9007199254740480 parts.1, is_from (d % 512) 0 tests.0)

size_found : (found : Option Word) (rest : Option Reason) → IfSome found IsGoodSize
    → cond (not (is_some (option_map (λ word. decimal word.bytes) found))) (Some MissingOption) rest ≡ None
    → IsOldSize (unwrap_or (option_map (λ word. decimal word.bytes) found) 0)
size_found None rest h e = let no : ⊥ = cc in absurd no
size_found (Some word) rest h e = size_good word h

size_kept : (rule : Rule) (items : List Item) (rest : Option Reason) → first_option_fault [] items ≡ None → cond (lacks_option rule (settings_given items)) (Some MissingOption) rest ≡ None
    → rule ≡ NeedsOldSize → IsOldSize (unwrap_or (settings_given items).oldsize 0)
size_kept NeedsOldSize items rest fault good is = size_found (last_value OldSize items) rest (last_good (values OldSize items) (sizes_good items (items_good [] items fault))) good
size_kept _ items rest fault good is = let no : ⊥ = cc is in absurd no

-- ---- the command

each_of : (P : List Operand → Bool) (forms : List (List Operand)) → list_all P forms ≡ true → AllByRecursion (λ form. P form ≡ true) forms
each_of P [] h = tt
each_of P (form ∷ forms) h = let parts = and_parts (P form) (list_all P forms) h in (parts.0, each_of P forms parts.1)

each_long : (count : ℕ) (forms : List (List Operand)) → AllByRecursion (WhereLong (λ form. (length form == count) ≡ true) count) forms
each_long count [] = tt
each_long count (form ∷ forms) = ((λ h. h), each_long count forms)

-- an operand that each form of the verb has is one of the form that is found
abbrev HasEach : Verb → List Operand → Type 0
HasEach verb form = (kind : ℕ) → list_all (is_among kind) (row_of verb).forms ≡ true → is_among kind form ≡ true

has_each : (verb : Verb) (form : List Operand) (words : List Word) → form_of verb words ≡ Some form → HasEach verb form
has_each verb form words found kind all =
    found_keeps (λ (f : List Operand). is_among kind f ≡ true) verb words form (where_long _ (length words) (row_of verb).forms (each_of (is_among kind) (row_of verb).forms all)) found

bounded_by : (line : List ℕ) (verb : Verb) (items : List Item) (form : List Operand) (words : List Word) → Facts line form words → HasEach verb form → JobKept verb line form words
    → ((row_of verb).rule ≡ NeedsOldSize → IsOldSize (unwrap_or (settings_given items).oldsize 0)) → IsBounded line (command_at verb (settings_given items) (operands_of form words))
bounded_by line verbs.Init items form words f each job size = tt
bounded_by line _ items form words f each job size = search (f.sector, f.few_least, f.few_most, f.many_least, f.many_most, f.digits, f.tag, each, size)

command_bounded : (line : List ℕ) (verb : Verb) (items : List Item) (form : List Operand) (words : List Word) → AllStand line words
    → first_option_fault [] items ≡ None → form_of verb words ≡ Some form → complaint verb (settings_given items) ≡ None → operands_fault form words ≡ None
    → IsBounded line (command_at verb (settings_given items) (operands_of form words))
command_bounded line verb items form words g fault found good none =
    let long : (length form == length words) ≡ true = found_keeps (λ (f : List Operand). (length f == length words) ≡ true) verb words form (each_long (length words) (row_of verb).forms) found in
    bounded_by line verb items form words (facts line form words g long none) (has_each verb form words found) (job_kept line verb form words g found none)
    (size_kept (row_of verb).rule items _ fault good)

verb_bounded : (line : List ℕ) (verb : Option Verb) (total : ℕ) (words : List Word) → AllStand line words → IfOk (by_verb verb total words) (IsBounded line)
verb_bounded line None total words h = tt
verb_bounded line (Some verb) total words h =
    let o : Options = options verb total words None in
    let stand : OptionsStand line o = options_stand line verb total words None h in
    verb_keeps (IsBounded line) (first_option_fault [] o.items) verb total (settings_given o.items) o.operands
    (λ fault form found good none. command_bounded line verb o.items form o.operands stand.operands fault found good none)

by_words_bounded : (line : List ℕ) (sep : Sep) (text : Bool) (words : List Word) → AllStand line words → IfOk (by_words sep text words) (λ read. IfSome read (IsBounded line))
by_words_bounded line sep text [] h = tt
by_words_bounded line sep text (word ∷ behind) h =
    text_keeps (IsBounded line) (is_comment sep word.bytes) text _ (by_verb (verb_named word.bytes) (1 + length behind) behind)
    (λ _. verb_bounded line (verb_named word.bytes) (1 + length behind) behind h.1)

-- The numbers of what a line says lie within their bounds, and its digits are hexadecimal.
pub reading_bounded : (sep : Sep) (line : List ℕ) → IfOk (line_reading sep line) (λ read. IfSome read (IsBounded line))
reading_bounded sep line = by_words_bounded line sep (is_utf8 line) (words sep line) (words_stand sep line)
