-- Loads one after another.
use Rattle.std.proofs.Common.{◌≡◌, ◌∙◌, ℕ, ◌+◌, List, ◌++◌, length, length-append, Option, IfSome, ap, arith, inl, inr, subst, sym}
use Rattle.std.proofs.lemmas.List.{get_or-append-add}
use Rattle.block_traits.proofs.Causes.{Counted-then, Rose-earlier}
use Rattle.block_traits.specs.Causes.{Counted}
use Rattle.block_traits.specs.Cabinet.{CabinetState, Files}
use Rattle.command_words.specs.declared.spans.KeyWords.{KeyWords}
use Rattle.command_words.specs.declared.spans.Span.{Span}
use Rattle.eli_base.specs.declared.refusals.Refusal.{Refusal}
use Rattle.eli_base.specs.declared.refusals.Refusal.TheVariants.{CabinetFault, FileAbsent, FileTooLong, NoMemory}
use Rattle.key_components.specs.declared.parts.Part.{Part}
use Rattle.key_components.specs.declared.parts.Part.TheVariants.{KeyFiles, Passphrase}
use Rattle.key_components.specs.Answers.{IsAt, IsOfPassphrases, KeepsFiles, MayRefuse, MayRefusePassphrase, StopsAtFile, StopsLoading, file_word_at, refused_word}
use Rattle.key_components.specs.Files.{file_limit, key_files}
use Rattle.key_components.specs.Parts.{MayRefuseOf}

pub KeepsFiles-then : {old middle new : CabinetState} → KeepsFiles old middle → KeepsFiles middle new → KeepsFiles old new
KeepsFiles-then first second =
    record { files = second.files ∙ first.files; faults = omega (arith, first.faults, second.faults); misses = omega (arith, first.misses, second.misses) }

MayRefuse-earlier : (named : ℕ) (old middle new : CabinetState) (refusal : Refusal) → KeepsFiles old middle → MayRefuse named middle new refusal → MayRefuse named old new refusal
MayRefuse-earlier named old middle new (CabinetFault word) keeps may = Rose-earlier old.faults middle.faults new.faults keeps.faults may
MayRefuse-earlier named old middle new (FileAbsent word) keeps may = Rose-earlier old.misses middle.misses new.misses keeps.misses may
MayRefuse-earlier named old middle new (FileTooLong word limit) keeps may = (may.0, Rose-earlier old.misses middle.misses new.misses keeps.misses may.1)
MayRefuse-earlier named old middle new NoMemory keeps may = tt
MayRefuse-earlier named old middle new refusal keeps may = may

MayRefusePassphrase-earlier : (old middle new : CabinetState) (refusal : Refusal) → KeepsFiles old middle → MayRefusePassphrase middle new refusal → MayRefusePassphrase old new refusal
MayRefusePassphrase-earlier old middle new (FileTooLong word limit) keeps (inl may) = inl (MayRefuse-earlier file_limit old middle new (FileTooLong word limit) keeps may)
MayRefusePassphrase-earlier old middle new (FileTooLong word limit) keeps (inr own) = inr own
MayRefusePassphrase-earlier old middle new refusal keeps may = MayRefuse-earlier file_limit old middle new refusal keeps may

pub MayRefuseOf-earlier : (part : Part) (old middle new : CabinetState) (refusal : Refusal) → KeepsFiles old middle → MayRefuseOf part middle new refusal → MayRefuseOf part old new refusal
MayRefuseOf-earlier KeyFiles = MayRefuse-earlier file_limit
MayRefuseOf-earlier Passphrase = MayRefusePassphrase-earlier

-- a passphrase file may be refused as any file may
MayRefuse-any : (old new : CabinetState) (refusal : Refusal) → MayRefuse file_limit old new refusal → MayRefusePassphrase old new refusal
MayRefuse-any old new (FileTooLong word limit) may = inl may
MayRefuse-any old new refusal may = may

-- a refusal of the files of a key is one that may come at such a file
pub StopsAtFile-cause : (line : List ℕ) (words : KeyWords) (old : CabinetState) (refusal : Refusal) (new : CabinetState) → StopsAtFile line words old refusal new → MayRefusePassphrase old new refusal
StopsAtFile-cause line words old refusal new (inl at) = MayRefuse-any old new refusal at.cause
StopsAtFile-cause line words old refusal new (inr at) = at.cause

pub StopsAtFile-earlier : (line : List ℕ) (words : KeyWords) (old middle : CabinetState) (refusal : Refusal) (new : CabinetState) → KeepsFiles old middle → StopsAtFile line words middle refusal new → StopsAtFile line words old refusal new
StopsAtFile-earlier line words old middle refusal new keeps (inl at) = inl (record {
  word = subst (λ (files : Option Files). IfSome (refused_word refusal) (IsAt key_files files line words.files)) keeps.files at.word;
  cause = MayRefuse-earlier file_limit old middle new refusal keeps at.cause;
})
StopsAtFile-earlier line words old middle refusal new keeps (inr at) = inr (record {
  word = subst (λ (files : Option Files). IfSome (refused_word refusal) (IsOfPassphrases files line words)) keeps.files at.word;
  cause = MayRefusePassphrase-earlier old middle new refusal keeps at.cause;
})

-- loading stopped at one of the later files
pub stops_behind : (front back : List Span) (old middle : CabinetState) (refusal : Refusal) (new : CabinetState)
    → Counted (length front) old.loads middle.loads → StopsLoading back middle refusal new → StopsLoading (front ++ back) old refusal new
stops_behind front back old middle refusal new first then =
    let same : file_word_at (front ++ back) (length front + then.place) ≡ file_word_at back then.place =
    ap (λ (span : Span). span.word) (get_or-append-add front back then.place (record { start = 0; end = 0; word = 0 })) in
    record {
      place = length front + then.place;
      within = omega (arith, length-append front back, then.within);
      named = subst (λ (n : ℕ). IfSome (refused_word refusal) (λ word. n ≡ word)) (sym same) then.named;
      asked = Counted-then (length front) (then.place + 1) ((length front + then.place) + 1) (omega arith) first then.asked;
    }
