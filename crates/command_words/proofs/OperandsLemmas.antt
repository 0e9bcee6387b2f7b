-- One pass over the operands gives what they say.
use Rattle.std.proofs.Common.{◌≡◌, ℕ, List, [], ◌∷◌, length, refl, ◌∙◌, ap, Bool, true, false, not, cond, ◌&&◌, ◌||◌, ◌==◌, Option, None, Some, Result, Ok}
use Rattle.std.specs.Prelude.{option_map}
use Rattle.std.specs.List.{AllByRecursion}
use Rattle.std.specs.Option.{option_map_or}
use Rattle.eli_base.specs.declared.Reason.{Reason}
use Rattle.command_words.specs.declared.commands.Command.{Command}
use Rattle.command_words.specs.declared.commands.Usage.{Usage}
use Rattle.command_words.specs.declared.operands.Operands.{Operands}
use Rattle.command_words.specs.declared.settings.Settings.{Settings}
use Rattle.command_words.specs.declared.table.Verb.{Verb}
use Rattle.command_words.specs.declared.table.Verb.TheVariants as verbs
use Rattle.command_words.specs.declared.table.JobName.{JobName}
use Rattle.command_words.specs.declared.table.JobName.TheVariants as jobs
use Rattle.command_words.specs.declared.table.Operand.{Operand}
use Rattle.command_words.specs.declared.table.Operand.TheVariants.{Provider, File, Sector, FewSectors, ManySectors, Seed, Digits, Job, Tag}
use Rattle.command_words.specs.Words.{Word}
use Rattle.command_words.specs.Table.{row_of, form_of}
use Rattle.command_words.specs.Values.{operand_fault}
use Rattle.word_values.specs.Values.{decimal}
use Rattle.command_words.specs.Options.{or_else}
use Rattle.command_words.specs.Operands.{operands_of, operands_fault, operand_place, word_as, job_or, job_as}
use Rattle.command_words.specs.Settings.{span_of}
use Rattle.command_words.specs.Reading.{unless_usage, or_complaint, complaint, command_at, by_form, settled}
use Rattle.command_words.specs.Pass.{and_then, checked, with_operand, taken_operands}
use Rattle.command_words.proofs.Forms.{found_keeps, where_long}
use Rattle.command_words.proofs.Options.{outcome}

-- what results from taking each operand in turn
abbrev put_all : List Operand → List Word → Operands → Operands
put_all [] words o = o
put_all (operand ∷ form) [] o = o
put_all (operand ∷ form) (word ∷ words) o = put_all form words (with_operand o operand word)

step_is : (fault : Option Reason) (number : ℕ) (next : Operands) (more : Option Usage) (last : Operands) (go : Operands → Result Operands Usage)
    → go next ≡ outcome more last
    → and_then (checked fault number next) go ≡ outcome (or_else (option_map (λ reason. record { word = number; reason = reason }) fault) more) last
step_is None number next more last go then = then
step_is (Some reason) number next more last go then = refl

taken_is : (form : List Operand) (words : List Word) (o : Operands) → taken_operands form words o ≡ outcome (operands_fault form words) (put_all form words o)
taken_is [] words o = refl
taken_is (operand ∷ form) [] o = refl
taken_is (operand ∷ form) (word ∷ words) o =
    step_is (operand_fault operand word.bytes) word.number (with_operand o operand word) (operands_fault form words) _ (λ next. taken_operands form words next)
    (taken_is form words (with_operand o operand word))

-- whether one of the operands is of this kind
abbrev pub is_among : ℕ → List Operand → Bool
is_among kind [] = false
is_among kind (operand ∷ form) = (kind == operand_place operand) || is_among kind form

-- whether no kind of operand occurs twice
abbrev no_twice : List Operand → Bool
no_twice [] = true
no_twice (operand ∷ form) = not (is_among (operand_place operand) form) && no_twice form

-- what the words of a form say, over the values that were there before
abbrev job_over : List Operand → List Word → JobName → JobName
job_over [] words job = job
job_over (operand ∷ form) [] job = job
job_over (operand ∷ form) (word ∷ words) job = job_or operand (job_over form words job)

abbrev over : List Operand → List Word → Operands → Operands
over form words o = record {
  prov = option_map_or span_of (word_as Provider form words) o.prov;
  file = option_map_or span_of (word_as File form words) o.file;
  digits = option_map_or span_of (word_as Digits form words) o.digits;
  seed = option_map_or (λ word. decimal word.bytes) (word_as Seed form words) o.seed;
  sector = option_map_or (λ word. decimal word.bytes) (word_as Sector form words) o.sector;
  few = option_map_or (λ word. decimal word.bytes) (word_as FewSectors form words) o.few;
  many = option_map_or (λ word. decimal word.bytes) (word_as ManySectors form words) o.many;
  job = job_over form words o.job;
  tag = option_map_or (λ word. decimal word.bytes) (word_as Tag form words) o.tag;
}

job_over_none : (form : List Operand) (words : List Word) → job_over form words jobs.Flush ≡ job_as form words
job_over_none [] words = refl
job_over_none (operand ∷ form) [] = refl
job_over_none (operand ∷ form) (word ∷ words) = ap (job_or operand) (job_over_none form words)

not_other : (a b : Bool) → (a || b) ≡ false → (a ≡ false) × (b ≡ false)
not_other true b h = let no : ⊥ = cc in absurd no
not_other false b h = (refl, h)

absent_choice : (b : Bool) (word : Word) (rest : Option Word) → b ≡ false → rest ≡ None → cond b (Some word) rest ≡ None
absent_choice true word rest h g = let no : ⊥ = cc in absurd no
absent_choice false word rest h g = g

-- no word stands as an operand that the form lacks
absent : (wanted : Operand) (form : List Operand) (words : List Word) → is_among (operand_place wanted) form ≡ false → word_as wanted form words ≡ None
absent wanted [] words h = refl
absent wanted (operand ∷ form) [] h = refl
absent wanted (operand ∷ form) (word ∷ words) h =
    let parts = not_other (operand_place wanted == operand_place operand) (is_among (operand_place wanted) form) h in
    absent_choice _ word _ parts.0 (absent wanted form words parts.1)

no_job_here : (operand : Operand) (form : List Operand) (words : List Word) (job : JobName) → (7 == operand_place operand) ≡ false → job_over form words job ≡ job → job_or operand (job_over form words job) ≡ job
no_job_here (Job named) form words job h is = let no : ⊥ = cc in absurd no
no_job_here _ form words job h is = is

no_job : (form : List Operand) (words : List Word) (job : JobName) → is_among 7 form ≡ false → job_over form words job ≡ job
no_job [] words job h = refl
no_job (operand ∷ form) [] job h = refl
no_job (operand ∷ form) (word ∷ words) job h =
    let parts = not_other (7 == operand_place operand) (is_among 7 form) h in
    no_job_here operand form words job parts.0 (no_job form words job parts.1)

-- one operand more in front
in_front : (operand : Operand) (form : List Operand) (word : Word) (words : List Word) (o : Operands) → is_among (operand_place operand) form ≡ false
    → over form words (with_operand o operand word) ≡ over (operand ∷ form) (word ∷ words) o
in_front (Job job) form word words o h = rw (no_job form words job h) refl
in_front Provider form word words o h = rw (absent Provider form words h) refl
in_front File form word words o h = rw (absent File form words h) refl
in_front Sector form word words o h = rw (absent Sector form words h) refl
in_front FewSectors form word words o h = rw (absent FewSectors form words h) refl
in_front ManySectors form word words o h = rw (absent ManySectors form words h) refl
in_front Seed form word words o h = rw (absent Seed form words h) refl
in_front Digits form word words o h = rw (absent Digits form words h) refl
in_front Tag form word words o h = rw (absent Tag form words h) refl

front_once : (b rest : Bool) → (not b && rest) ≡ true → (b ≡ false) × (rest ≡ true)
front_once true rest h = let no : ⊥ = cc in absurd no
front_once false rest h = (refl, h)

-- taking each operand in turn gives what the whole form says
put_is : (form : List Operand) (words : List Word) (o : Operands) → no_twice form ≡ true → put_all form words o ≡ over form words o
put_is [] words o h = refl
put_is (operand ∷ form) [] o h = refl
put_is (operand ∷ form) (word ∷ words) o h =
    let parts = front_once (is_among (operand_place operand) form) (no_twice form) h in
    put_is form words (with_operand o operand word) parts.1 ∙ in_front operand form word words o parts.0

-- no form of a verb has a kind of operand twice
forms_once : (verb : Verb) → AllByRecursion (λ form. no_twice form ≡ true) (row_of verb).forms
forms_once verbs.Submit = (refl, (refl, (refl, tt)))
forms_once _ = (refl, tt)

form_agrees : (verb : Verb) (words : List Word) (form : List Operand) → form_of verb words ≡ Some form → put_all form words (operands_of [] []) ≡ operands_of form words
form_agrees verb words form h =
    let once : no_twice form ≡ true = found_keeps (λ (f : List Operand). no_twice f ≡ true) verb words form (where_long _ (length words) (row_of verb).forms (forms_once verb)) h in
    put_is form words (operands_of [] []) once ∙ rw (job_over_none form words) refl

follow : (fault : Option Usage) (o : Operands) (command : Operands → Command) → unless_usage fault (Ok (command o)) ≡ and_then (outcome fault o) (λ read. Ok (command read))
follow None o command = refl
follow (Some usage) o command = refl

-- What the operands of a verb say is what one pass over them gives.
operands_taken : (verb : Verb) (form : List Operand) (words : List Word) (s : Settings) → form_of verb words ≡ Some form
    → unless_usage (operands_fault form words) (Ok (command_at verb s (operands_of form words))) ≡ and_then (taken_operands form words (operands_of [] [])) (λ read. Ok (command_at verb s read))
operands_taken verb form words s h =
    rw (taken_is form words (operands_of [] []), form_agrees verb words form h) (follow (operands_fault form words) (operands_of form words) (λ read. command_at verb s read))

-- What follows the options is what one pass over the operands gives, if they are read by this form.
pub settled_taken : (verb : Verb) (total : ℕ) (form : List Operand) (words : List Word) (s : Settings)
    → form_of verb words ≡ Some form → complaint verb s ≡ None
    → settled verb total s words ≡ and_then (taken_operands form words (operands_of [] [])) (λ read. Ok (command_at verb s read))
settled_taken verb total form words s h k =
    ap (λ (f : Option (List Operand)). by_form f verb total s words) h
    ∙ ap (λ (c : Option Reason). or_complaint c total (unless_usage (operands_fault form words) (Ok (command_at verb s (operands_of form words))))) k
    ∙ operands_taken verb form words s h
