use Rattle.std.proofs.Common.{ap, ◌∙◌, sym, get_or, option_map, Some, [], List, ℕ}
use Rattle.crash_disk.specs.declared.mem_cabinet.NamedFile.{NamedFile}
use Rattle.crash_disk.proofs.Cabinets.{file_in-file_place}
use Rattle.crash_disk.proofs.mem_cabinet.find.Goals as goal

pub returns-in_err-place : goal.returns-in_err-place
returns-in_err-place c =
    let other : NamedFile = record { name = []; bytes = [] } in
    let none = ap (option_map (λ (n : ℕ). (get_or c.args.files.now n other).bytes)) (sym c.in_err-place.ensures.place) in
    rw c.from_residual.ensures (sym (file_in-file_place c.args.name.now c.args.files.now other ∙ none))

pub returns : goal.returns
returns c =
    let other = c.index-files-place.result in
    let found = ap (option_map (λ (n : ℕ). (get_or c.args.files.now n other).bytes)) (sym c.in_ok-place.ensures.place) in
    ap (λ (bytes : List ℕ). Some bytes) c.as_slice.ensures ∙ sym (file_in-file_place c.args.name.now c.args.files.now other ∙ found)
