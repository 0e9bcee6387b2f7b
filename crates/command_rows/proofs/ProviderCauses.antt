-- Why `dump`, `attach` and `init` are refused.
use Rattle.eli_base.specs.declared.refusals.Refusal.TheVariants as refusals
use Rattle.command_rows.specs.Causes.{may_lack_memory}
use Rattle.command_rows.specs.Rows.{Attaches, Attachment, LacksMetadata, Reach, RefusesFiles, TryRow, admitted, tried}
use Rattle.command_rows.specs.Vocabulary.{Command, KeyWords, Refusal, user_key}
use Rattle.command_rows.proofs.Causing.{Why, then_since, then_why}
use Rattle.std.proofs.Common.{Bool, Err, List, Ok, Option, Result, inl, inr, subst, sym, true, ℕ, ◌≡◌, ◌⊎◌}
use Rattle.command_rows.specs.verbs.Attach.{RefusesAttach, RefusesTrial}
use Rattle.command_rows.proofs.Grounding.{BadFiles, Grounds, Since, decides_why, loading_parts, loading_why, reading_has, reading_since, reading_why, since_same}
use Rattle.command_rows.proofs.Plain.{or_plain, tried_plain}

-- ---- `attach`

pub trial_why : (line : List ℕ) (command : Command) (slot : Option ℕ) (readonly : Bool) (words : KeyWords) (old : Reach) (answer : Result Attachment Refusal) (new : Reach) → may_lack_memory command ≡ true
    → BadFiles line command old (RefusesFiles line words old.cabinet) → Grounds line command old (λ refusal. LacksMetadata old.disk refusal ⊎ RefusesAttach line slot readonly words old refusal) → TryRow line slot readonly words old answer new
    → Why line command old answer new
trial_why line command slot readonly words old answer new memory bad grounds h =
    then_why line command old answer new h (λ given middle. reading_why line command old given middle (λ refusal lacks. grounds refusal (inl lacks)))
    (λ m r1 f1 n1. let s1 : Since old r1 = reading_since old m r1 f1 in
    let ground : Grounds line command old (λ refusal. (admitted m old.disk.size slot ≡ Err refusal) ⊎ RefusesTrial line slot readonly words m old refusal) =
    λ refusal is. grounds refusal (inr (record { m = m; found = reading_has old m r1 f1; refused = is })) in
    then_since line command old r1 answer new n1
    (λ given middle. decides_why line command old (admitted m r1.disk.size slot) r1 given middle (or_plain _) (λ refusal is. ground refusal (inl (subst (λ (n : ℕ). admitted m n slot ≡ Err refusal) s1.size is))))
    (λ settings r2 f2 n2. let s2 : Since old r2 = since_same old r1 r2 s1 f2.1 in
    then_since line command old r2 answer new n2 (λ given middle. loading_why line command words old r2 given middle memory bad s2)
    (λ parts r3 f3 n3. decides_why line command old (tried m settings slot readonly (user_key parts m.salt m.iterations)) r3 answer new (tried_plain m settings slot readonly _)
    (λ refusal is. ground refusal (inr (record {
      settings = settings;
      admits = subst (λ (n : ℕ). admitted m n slot ≡ Ok settings) s1.size (sym f2.0);
      parts = parts;
      named = loading_parts line words old r2 parts r3 s2.files f3;
      refused = is;
    }))) n3)))

pub attaching_why : (line : List ℕ) (command : Command) (start : Reach) (a : Attachment) (old : Reach) (answer : Result (Unit {0}) Refusal) (new : Reach) → may_lack_memory command ≡ true → Attaches a old answer new → Why line command start answer new
attaching_why line command start a old (Ok done) new memory h = tt
attaching_why line command start a old (Err refusals.NoMemory) new memory h = memory
attaching_why line command start a old (Err refusal) new memory h = absurd h
