-- What the answer of a row comes to as a reply, whatever it is.
use Rattle.std.proofs.Common.{◌≡◌, ◌∙◌, ℕ, List, refl, ap, sym, subst, Option, Some, None, Result, Ok, Err}
use Rattle.reply_text.specs.Answer as answers
use Rattle.command_rows.specs.Rows.{Answer, digest_or, done_or, dump_or, left_or, payload_or, reaped_or, tag_or}
use Rattle.command_rows.specs.Vocabulary.{Refusal}
use Rattle.command_rows.specs.verbs.Verify.{verified_or}

-- an answer is no refusal
abbrev pub IsServed : Answer → Type 0
IsServed (answers.Refused refusal) = ⊥
IsServed answer = Unit {0}

-- a value is no refusal, and a refusal stays one
pub record Replying {A : Type 0} (answer_to : Result A Refusal → Answer) : Type 0 where
  pub value : (v : A) → IsServed (answer_to (Ok v))
  pub refusal : (r : Refusal) → answer_to (Err r) ≡ answers.Refused r

pub done_replying : Replying done_or
done_replying = record { value = λ v. tt; refusal = λ r. refl }

pub dump_replying : Replying dump_or
dump_replying = record { value = λ v. tt; refusal = λ r. refl }

pub payload_replying : Replying payload_or
payload_replying = record { value = λ v. tt; refusal = λ r. refl }

pub digest_replying : Replying digest_or
digest_replying = record { value = λ v. tt; refusal = λ r. refl }

pub tag_replying : Replying tag_or
tag_replying = record { value = λ v. tt; refusal = λ r. refl }

pub left_replying : Replying left_or
left_replying = record { value = λ v. tt; refusal = λ r. refl }

reaped_served : (given : Option (List ℕ)) → IsServed (reaped_or (Ok given))
reaped_served (Some bytes) = tt
reaped_served None = tt

pub reaped_replying : Replying reaped_or
reaped_replying = record { value = reaped_served; refusal = λ r. refl }

pub verified_replying : Replying verified_or
verified_replying = record { value = λ v. tt; refusal = λ r. refl }

same_refusal : (found refusal : Refusal) → answers.Refused refusal ≡ answers.Refused found → found ≡ refusal
same_refusal found refusal is = cc is

-- what is refused was answered so
pub refused_by_row : {A : Type 0} (answer_to : Result A Refusal → Answer) (answer : Result A Refusal) (refusal : Refusal) → Replying answer_to → answers.Refused refusal ≡ answer_to answer → answer ≡ Err refusal
refused_by_row answer_to (Ok v) refusal r is = absurd (subst IsServed (sym is) (r.value v))
refused_by_row {A} answer_to (Err found) refusal r is = ap Err (same_refusal found refusal (is ∙ r.refusal found))

-- what holds of any reply but a refusal, and of the refusal that a row answers, holds of its reply
pub of_reply : {A : Type 0} (answer_to : Result A Refusal → Answer) (answer : Result A Refusal) (reply : Answer) (Claim : Answer → Type 0) → Replying answer_to → reply ≡ answer_to answer
    → ((value : A) → answer ≡ Ok value → (said : Answer) → IsServed said → Claim said) → ((refusal : Refusal) → answer ≡ Err refusal → Claim (answers.Refused refusal)) → Claim reply
of_reply answer_to (Ok v) reply Claim r is served refused = subst Claim (sym is) (served v refl (answer_to (Ok v)) (r.value v))
of_reply answer_to (Err found) reply Claim r is served refused = subst Claim (sym (is ∙ r.refusal found)) (refused found refl)
