-- What a disk logs is what is left of its file.
use Rattle.std.proofs.Common.{◌≡◌, ◌∙◌, ℕ, zero, suc, ◌+◌, ◌/◌, ◌*◌, ◌<◌, ◌≤◌, length, take, List, [], Option, Some, None, true, false, refl, sym, ap, subst, arith}
use Rattle.std.proofs.Math.Seq.{take-length}
use Rattle.std.proofs.lemmas.List.{take_all}
use Rattle.block_traits.specs.declared.disk.Event.{Event}
use Rattle.block_traits.specs.Content.{Content, logged, present}
use Rattle.block_traits.specs.Parts.{part}
use Rattle.block_traits.specs.Disk.{DiskState, FailsIn, FitsSize, GivesFrom, Logs}
use Rattle.block_traits.proofs.Logs.{logged-none}
use Rattle.file_edge.specs.Told.{EndsTold, Leaves, ReadsTold, contents}
use Rattle.edge_tests.specs.LoggedFile.{told_from, told_of, contents-told_from}

contents-told_of : (d : DiskState) → contents (told_of d) ≡ d.content
contents-told_of d = contents-told_from d.size d.content d.well_formed.fits

pub leaves_logged : (events : List Event) (sectors : ℕ) (old new : DiskState) → Logs events old new → Leaves events sectors true (contents (told_of old)) (contents (told_of new))
leaves_logged events sectors old new logs =
    let was : contents (told_of old) ≡ old.content = contents-told_of old in
    let is : contents (told_of new) ≡ new.content = contents-told_of new in
    record {
      count = length events;
      within = omega arith;
      all = λ reaches done. refl;
      left = is ∙ logs.content ∙ ap (λ (es : List Event). logged es old.content) (sym (take-length events)) ∙ ap (logged (take (length events) events)) (sym was);
    }

pub leaves_failed : (events : List Event) (sectors : ℕ) (old new : DiskState) → FailsIn events old new → Leaves events sectors false (contents (told_of old)) (contents (told_of new))
leaves_failed events sectors old new fails =
    let was : contents (told_of old) ≡ old.content = contents-told_of old in
    let is : contents (told_of new) ≡ new.content = contents-told_of new in
    record {
      count = fails.count;
      within = fails.within;
      all = λ reaches done. absurd (cc done);
      left = is ∙ fails.logs.content ∙ ap (logged (take fails.count events)) (sym was);
    }

pub same_logged : (old new : DiskState) → Logs [] old new → contents (told_of new) ≡ contents (told_of old)
same_logged old new logs = contents-told_of new ∙ logs.content ∙ logged-none old.content ∙ sym (contents-told_of old)

nothing_of : (count : ℕ) → take {A = Event} count [] ≡ []
nothing_of zero = refl
nothing_of (suc count) = refl

pub same_failed : (old new : DiskState) → FailsIn [] old new → contents (told_of new) ≡ contents (told_of old)
same_failed old new fails =
    let none : take fails.count [] ≡ [] = nothing_of fails.count in
    contents-told_of new ∙ fails.logs.content ∙ ap (λ (es : List Event). logged es old.content) none ∙ logged-none old.content ∙ sym (contents-told_of old)

one_reads : (c : Content) (at : ℕ) (bytes : List ℕ) (j : ℕ) → length bytes ≡ 512 → bytes ≡ present c (at / 512) → j < length bytes / 512 → part 512 j bytes ≡ present c (at / 512 + j)
one_reads c at bytes j sized gives below =
    let first : 0 ≡ j = omega (arith, sized, below) in
    let short : length bytes ≤ 512 = omega (arith, sized) in
    let here : at / 512 ≡ at / 512 + 0 = omega arith in
    let P : ℕ → Type 0 = λ k. part 512 k bytes ≡ present c (at / 512 + k) in
    subst P first (take_all 512 bytes short ∙ gives ∙ ap (present c) here)

reads_from : (size at : ℕ) (told : Option Content) (fits : FitsSize size told) (bytes : List ℕ) → length bytes ≡ 512 → GivesFrom told (at / 512) bytes → ReadsTold (told_from size told fits) at bytes
reads_from size at None fits bytes sized gives = tt
reads_from size at (Some c) fits bytes sized gives = λ j below inside. one_reads c at bytes j sized gives below

pub reads_told : (d : DiskState) (at : ℕ) (bytes : List ℕ) → length bytes ≡ 512 → GivesFrom d.content (at / 512) bytes → ReadsTold (told_of d) at bytes
reads_told d at bytes sized gives = reads_from d.size at d.content d.well_formed.fits bytes sized gives

ends_from : (size : ℕ) (told : Option Content) (fits : FitsSize size told) → EndsTold (told_from size told fits) (512 * size)
ends_from size None fits = tt
ends_from size (Some c) fits = let there : size ≡ 512 * size / 512 = omega arith in fits.sectors ∙ there

pub ends_told : (d : DiskState) → EndsTold (told_of d) (512 * d.size)
ends_told d = ends_from d.size d.content d.well_formed.fits
