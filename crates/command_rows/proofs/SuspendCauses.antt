-- Why `suspend` and `resume` are refused.
use Rattle.std.proofs.Common.{Bool, Err, List, Ok, Option, Result, refl, subst, sym, ℕ, ◌∙◌, ◌≡◌}
use Rattle.command_rows.specs.Rows.{Attachment, GoesOn, LoadsComponents, Reach, ReadsLastSector, TryRow, admitted}
use Rattle.command_rows.specs.Vocabulary.{Components, KeyWords, Metadata, Refusal}
use Rattle.command_rows.specs.verbs.Attach.{OpensWith}
use Rattle.command_rows.proofs.Causing.{Step}
use Rattle.command_rows.proofs.Grounding.{loading_parts, reading_has, reading_since, since_same}

-- ---- a key that was tried, and opens

-- the steps that end with a value went on
pub record WentOn {A B : Type 0} (Next : A → Step B) (given : Result A Refusal) (middle : Reach) (answer : Result B Refusal) (new : Reach) : Type 0 where
  pub value : A
  pub is : given ≡ Ok value
  pub next : Next value middle answer new

pub went_on : {A B : Type 0} (Next : A → Step B) (given : Result A Refusal) (middle : Reach) (b : B) (new : Reach) → GoesOn Next given middle (Ok b) new → WentOn Next given middle (Ok b) new
went_on Next (Ok a) middle b new h = record { value = a; is = refl; next = h }
went_on Next (Err refusal) middle b new h = absurd (let none : ⊥ = cc (h.0) in none)

-- what was found of a key that opens
pub trial_opens : (line : List ℕ) (slot : Option ℕ) (readonly : Bool) (words : KeyWords) (old : Reach) (a : Attachment) (new : Reach) → TryRow line slot readonly words old (Ok a) new → OpensWith line slot readonly words old a
trial_opens line slot readonly words old a new h =
    let read = went_on _ h.given h.middle a new h.next in
    let first : ReadsLastSector old (Ok read.value) h.middle = subst (λ (r : Result Metadata Refusal). ReadsLastSector old r h.middle) read.is h.first in
    let since = reading_since old read.value h.middle first in
    let then = read.next in
    let admits = went_on _ then.given then.middle a new then.next in
    let loads = admits.next in
    let loaded = went_on _ loads.given loads.middle a new loads.next in
    let parts : LoadsComponents line words then.middle (Ok loaded.value) loads.middle = subst (λ (r : Result Components Refusal). LoadsComponents line words then.middle r loads.middle) loaded.is loads.first in
    record {
      m = read.value;
      found = reading_has old read.value h.middle first;
      settings = admits.value;
      admits = subst (λ (n : ℕ). admitted read.value n slot ≡ Ok admits.value) since.size (sym then.first.0 ∙ admits.is);
      parts = loaded.value;
      named = loading_parts line words old then.middle loaded.value loads.middle (since_same old h.middle then.middle since then.first.1).files parts;
      opens = sym loaded.next.0;
    }
