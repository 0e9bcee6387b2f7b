-- What was opened is what the run is over.
use Rattle.std.proofs.Common.{◌≡◌, ◌∙◌, Option, ap, inl, inr, length, map, refl, rules, string_bytes, sym, arith}
use Rattle.std.proofs.lemmas.Grind.{common_steps}
use Rattle.std.proofs.lemmas.List.{length-map}
use Rattle.command_words.proofs.Said.{names_said}
use Rattle.geli_core.proofs.ImageNames.{images_fit}
use Rattle.geli_core.proofs.Lawful.{run_ends}
use Rattle.image_layers.proofs.Images.{as_many, opened_told}
use Rattle.file_edge.specs.FileCabinet.{new_cabinet}
use Rattle.file_edge.specs.Names.{NamedFiles}
use Rattle.image_run.proofs.Ended.{read_failed, write_failed}
use Rattle.image_run.specs.Program.{AsksFirstFiles}
use Rattle.image_run.proofs.Images.{over_new, same_outside}
use Rattle.image_run.proofs.Saying.{same_changes}
use Rattle.image_run.proofs.Surviving.{survive_in_files}
use Rattle.image_run.proofs.run.run_files.Goals as goal

pub returns-in_default-clause-asked : goal.returns-in_default-clause-asked
returns-in_default-clause-asked g c = inl (inl refl)

pub returns-in_default-images-clause-asked : goal.returns-in_default-images-clause-asked
returns-in_default-images-clause-asked g c = inl (inl refl)

pub returns-in_err-disks-clause-asked : goal.returns-in_err-disks-clause-asked
returns-in_err-disks-clause-asked g c =
    let words = map string_bytes c.args.words.now in
    let says = c.in-Ok.ensures.says in
    let changed = c.changes.ensures ∙ same_changes words _ says in
    let named = ap (map string_bytes) c.as_slice.ensures.value ∙ c.in-Ok-images.ensures ∙ names_said words _ says in
    let part = rw (changed, named) at c.in_err-disks.ensures.asked_part in
    let first : AsksFirstFiles g.O.Opener.asked words c.args.opener _ = inr part in
    search (rules, first)

pub run_over-requires-clause-named : goal.run_over-requires-clause-named
run_over-requires-clause-named g c =
    let opened = c.in_ok-disks.field-0 in
    as_many g.O.Opener g.O.File.ImageFile _ _ opened.disks.items _ _ c.in_ok-disks.ensures.opens.images
    ∙ length-map c.as_slice.result.now string_bytes ∙ ap length (c.as_slice.ensures.value ∙ sym c.as_slice-2.ensures.value)

pub returns-in-Ok-run_over-clause-runs : goal.returns-in-Ok-run_over-clause-runs
returns-in-Ok-run_over-clause-runs g c =
    let words = map string_bytes c.args.words.now in
    let says = c.in-Ok.ensures.says in
    let opened = c.in_ok-disks.field-0 in
    let changed = c.changes.ensures ∙ same_changes words _ says in
    let named = c.in-Ok-images.ensures ∙ names_said words _ says in
    let now = c.new-outside.ensures.now in
    let ran = rw (now.0, now.1, now.2, now.3) at (c.in-Ok-run_over.ensures.runs words says) in
    let opens = rw (changed, ap (map string_bytes) c.as_slice.ensures.value ∙ named) at c.in_ok-disks.ensures.opens in
    let told = opened_told g.O.Opener g.O.File.ImageFile _ _ opened.disks.items opened.files.images.items opened.entropy c.args.opener opened.files.opener opens in
    let files_told = c.in_ok-disks.ensures.files ∙ ap (λ (t : Option NamedFiles). new_cabinet opened.files.images.items t) told.0 in
    let begun = same_outside _ _ _ _ _ _ files_told c.in_ok-disks.ensures.random in
    let over = over_new words _ _ _ _ _ _ _ (ap (map string_bytes) c.as_slice-2.ensures.value ∙ named) begun ran in
    let files : c.files-2-1.given.0 ≡ c.run_over.new.outside.files.now = search rules in
    let entropy : c.entropy-2-1.given.0 ≡ c.run_over.new.outside.entropy.now = search rules in
    let input : c.input-1.given.0 ≡ c.run_over.new.outside.input.now = search rules in
    let output : c.output-1.given.0 ≡ c.run_over.new.outside.output.now = search rules in
    rw (files, entropy, input, output) (record {
      disks = opened.disks.items;
      files = opened.files.images.items;
      random = opened.entropy;
      opened = opened.files.opener;
      opens = opens;
      telling = c.in_ok-disks.ensures.tells;
      device = told.1;
      runs = over;
      survives = survive_in_files g.O.File.ImageFile.told (λ d. refl) _ opened.disks.items c.in_ok-disks.ensures.tells words _ _ _ _ over;
    })

pub returns-in-Ok-run_over-clause-ends : goal.returns-in-Ok-run_over-clause-ends
returns-in-Ok-run_over-clause-ends g c =
    let words = map string_bytes c.args.words.now in
    run_ends words _ _ c.in-Ok-run_over.status (c.in-Ok-run_over.ensures.runs words c.in-Ok.ensures.says).lawful

pub returns-in-Ok-run_over-clause-read : goal.returns-in-Ok-run_over-clause-read
returns-in-Ok-run_over-clause-read g c =
    let words = map string_bytes c.args.words.now in
    let now = c.new-outside.ensures.now in
    let ran = rw (now.0, now.1, now.2, now.3) at (c.in-Ok-run_over.ensures.runs words c.in-Ok.ensures.says) in
    let input : c.input-1.given.0 ≡ c.run_over.new.outside.input.now = search rules in
    rw input (read_failed words _ _ c.in-Ok-run_over.status ran.lawful)

pub returns-in-Ok-run_over-clause-write : goal.returns-in-Ok-run_over-clause-write
returns-in-Ok-run_over-clause-write g c =
    let words = map string_bytes c.args.words.now in
    let now = c.new-outside.ensures.now in
    let ran = rw (now.0, now.1, now.2, now.3) at (c.in-Ok-run_over.ensures.runs words c.in-Ok.ensures.says) in
    let output : c.output-1.given.0 ≡ c.run_over.new.outside.output.now = search rules in
    rw output (write_failed words _ _ c.in-Ok-run_over.status ran.lawful)

pub memory_fault-requires : goal.memory_fault-requires
memory_fault-requires g c =
    let words = map string_bytes c.args.words.now in
    let named = ap (map string_bytes) c.as_slice-2.ensures.value ∙ c.in-Ok-images.ensures ∙ names_said words _ c.in-Ok.ensures.says in
    images_fit words _ _ c.in-Err.refused.fault named c.in-Err.ensures.refused

pub returns-clause-asked : goal.returns-clause-asked
returns-clause-asked g c =
    let words = map string_bytes c.args.words.now in
    let says = c.in-Ok.ensures.says in
    let opened = c.in_ok-disks.field-0 in
    let changed = c.changes.ensures ∙ same_changes words _ says in
    let named = ap (map string_bytes) c.as_slice.ensures.value ∙ c.in-Ok-images.ensures ∙ names_said words _ says in
    let opens = rw (changed, named) at c.in_ok-disks.ensures.opens in
    let now = c.new-outside.ensures.now in
    let nothing = c.in-Err.ensures.nothing in
    let left : c.run_over.new.outside.files.now ≡ opened.files = nothing.2 ∙ now.2 in
    let files : c.files-2-1.given.0 ≡ c.run_over.new.outside.files.now = search rules in
    let handed : c.into_opener.result ≡ opened.files.opener = rw (files, left) at c.into_opener.ensures in
    inr (record {
      disks = opened.disks.items;
      files = opened.files.images.items;
      random = opened.entropy;
      opens = rw handed opens;
    })

pub returns-clause-told : goal.returns-clause-told
returns-clause-told g c =
    let opened = c.in_ok-disks.field-0 in
    let told = opened_told g.O.Opener g.O.File.ImageFile _ _ opened.disks.items opened.files.images.items opened.entropy c.args.opener opened.files.opener c.in_ok-disks.ensures.opens in
    let now = c.new-outside.ensures.now in
    let nothing = c.in-Err.ensures.nothing in
    let left : c.run_over.new.outside.files.now ≡ opened.files = nothing.2 ∙ now.2 in
    let files : c.files-2-1.given.0 ≡ c.run_over.new.outside.files.now = search rules in
    let handed : c.into_opener.result ≡ opened.files.opener = rw (files, left) at c.into_opener.ensures in
    ap g.O.Opener.told handed ∙ told.0

pub returns-in_default-clause-runs : goal.returns-in_default-clause-runs
returns-in_default-clause-runs g c = grind (arith, common_steps) steps 400000

pub returns-in_default-clause-ends : goal.returns-in_default-clause-ends
returns-in_default-clause-ends g c = grind (arith, common_steps) steps 400000

pub returns-in_default-clause-read : goal.returns-in_default-clause-read
returns-in_default-clause-read g c = grind (arith, common_steps) steps 400000

pub returns-in_default-clause-write : goal.returns-in_default-clause-write
returns-in_default-clause-write g c = grind (arith, common_steps) steps 400000

pub returns-in_default-clause-unread : goal.returns-in_default-clause-unread
returns-in_default-clause-unread g c = grind (arith, common_steps) steps 400000

pub returns-in_default-clause-nothing : goal.returns-in_default-clause-nothing
returns-in_default-clause-nothing g c = grind (arith, common_steps) steps 400000

pub returns-in_default-clause-told : goal.returns-in_default-clause-told
returns-in_default-clause-told g c = grind (arith, common_steps) steps 400000

pub returns-in_default-images-clause-runs : goal.returns-in_default-images-clause-runs
returns-in_default-images-clause-runs g c = grind (arith, common_steps) steps 400000

pub returns-in_default-images-clause-ends : goal.returns-in_default-images-clause-ends
returns-in_default-images-clause-ends g c = grind (arith, common_steps) steps 400000

pub returns-in_default-images-clause-read : goal.returns-in_default-images-clause-read
returns-in_default-images-clause-read g c = grind (arith, common_steps) steps 400000

pub returns-in_default-images-clause-write : goal.returns-in_default-images-clause-write
returns-in_default-images-clause-write g c = grind (arith, common_steps) steps 400000

pub returns-in_default-images-clause-unread : goal.returns-in_default-images-clause-unread
returns-in_default-images-clause-unread g c = grind (arith, common_steps) steps 400000

pub returns-in_default-images-clause-nothing : goal.returns-in_default-images-clause-nothing
returns-in_default-images-clause-nothing g c = grind (arith, common_steps) steps 400000

pub returns-in_default-images-clause-told : goal.returns-in_default-images-clause-told
returns-in_default-images-clause-told g c = grind (arith, common_steps) steps 400000

pub returns-in_err-disks-clause-runs : goal.returns-in_err-disks-clause-runs
returns-in_err-disks-clause-runs g c = grind (arith, common_steps)

pub returns-in_err-disks-clause-ends : goal.returns-in_err-disks-clause-ends
returns-in_err-disks-clause-ends g c = grind (arith, common_steps)

pub returns-in_err-disks-clause-read : goal.returns-in_err-disks-clause-read
returns-in_err-disks-clause-read g c = grind (arith, common_steps)

pub returns-in_err-disks-clause-write : goal.returns-in_err-disks-clause-write
returns-in_err-disks-clause-write g c = grind (arith, common_steps)

pub returns-in_err-disks-clause-unread : goal.returns-in_err-disks-clause-unread
returns-in_err-disks-clause-unread g c = grind (arith, common_steps)

pub returns-in_err-disks-clause-nothing : goal.returns-in_err-disks-clause-nothing
returns-in_err-disks-clause-nothing g c = grind (arith, common_steps)

pub returns-in_err-disks-clause-told : goal.returns-in_err-disks-clause-told
returns-in_err-disks-clause-told g c = grind (arith, common_steps)

pub returns-in-Ok-run_over-clause-nothing : goal.returns-in-Ok-run_over-clause-nothing
returns-in-Ok-run_over-clause-nothing g c = grind (arith, common_steps) steps 400000

pub returns-in-Ok-run_over-clause-told : goal.returns-in-Ok-run_over-clause-told
returns-in-Ok-run_over-clause-told g c = grind (arith, common_steps) steps 400000

pub returns-in-Ok-run_over-clause-asked : goal.returns-in-Ok-run_over-clause-asked
returns-in-Ok-run_over-clause-asked g c = grind (arith, common_steps) steps 400000

pub returns-clause-runs : goal.returns-clause-runs
returns-clause-runs g c = grind (arith, common_steps) steps 400000

pub returns-clause-ends : goal.returns-clause-ends
returns-clause-ends g c = grind (arith, common_steps) steps 400000

pub returns-clause-read : goal.returns-clause-read
returns-clause-read g c = grind (arith, common_steps) steps 400000

pub returns-clause-write : goal.returns-clause-write
returns-clause-write g c = grind (arith, common_steps) steps 400000

pub returns-clause-unread : goal.returns-clause-unread
returns-clause-unread g c = grind (arith, common_steps) steps 400000
