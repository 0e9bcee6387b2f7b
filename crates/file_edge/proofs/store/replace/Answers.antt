use Rattle.std.proofs.Common.{◌≡◌, Bool, not, Option, List, ap, ◌∙◌}
use Rattle.file_edge.specs.Asked.{Asked, FileRequest, asking, more}
use Rattle.file_edge.proofs.Logs.{more_then}
use Rattle.file_edge.proofs.Names.{left-folder_synced, left-renamed, left-synced, left-written, stored_as}
use Rattle.file_edge.proofs.store.replace.Goals as goal

-- a request, by whether its test found that it failed
asked : (request : FileRequest) (was failed is : Bool) (old new : Option (List Asked)) → was ≡ not failed → failed ≡ is
    → new ≡ more (asking request was) old → new ≡ more (asking request (not is)) old
asked request was failed is old new answer test log = log ∙ ap (λ (b : Bool). more (asking request b) old) (answer ∙ ap not test)

-- whether a request was done
done_by : (was failed is : Bool) → was ≡ not failed → failed ≡ is → was ≡ not is
done_by was failed is answer test = answer ∙ ap not test

pub returns-then-is_err : goal.returns-then-is_err
returns-then-is_err g c =
    let write = asked _ _ _ _ _ _ c.is_err.ensures.negation c.if-is_err.true c.write.ensures.asked in
    record {
      brings = record { move = tt; asked = more_then _ _ _ _ _ write c.remove.ensures.asked };
      told = λ first made_beside. left-written c.args.name.now c.args.beside.now c.args.bytes.now first _ made_beside _ _ _ (done_by _ _ _ c.is_err.ensures.negation c.if-is_err.true) c.write.ensures.told c.remove.ensures.told;
    }

pub returns-then-is_err-2 : goal.returns-then-is_err-2
returns-then-is_err-2 g c =
    let write = asked _ _ _ _ _ _ c.is_err.ensures.negation c.if-is_err.false c.write.ensures.asked in
    let sync = asked _ _ _ _ _ _ c.is_err-2.ensures.negation c.if-is_err-2.true c.sync.ensures.asked in
    record {
      brings = record { move = tt; asked = more_then _ _ _ _ _ (more_then _ _ _ _ _ write sync) c.remove-then-is_err-2.ensures.asked };
      told = λ first made_beside. left-synced c.args.name.now c.args.beside.now c.args.bytes.now first _ made_beside _ _ _ _ (done_by _ _ _ c.is_err.ensures.negation c.if-is_err.false) c.write.ensures.told c.sync.ensures.told c.remove-then-is_err-2.ensures.told;
    }

pub returns-then-is_err-3 : goal.returns-then-is_err-3
returns-then-is_err-3 g c =
    let write = asked _ _ _ _ _ _ c.is_err.ensures.negation c.if-is_err.false c.write.ensures.asked in
    let sync = asked _ _ _ _ _ _ c.is_err-2.ensures.negation c.if-is_err-2.false c.sync.ensures.asked in
    let rename = asked _ _ _ _ _ _ c.is_err-3.ensures.negation c.if-is_err-3.true c.rename.ensures.asked in
    record {
      brings = record { move = tt; asked = more_then _ _ _ _ _ (more_then _ _ _ _ _ (more_then _ _ _ _ _ write sync) rename) c.remove-then-is_err-3.ensures.asked };
      told = λ first made_beside. left-renamed c.args.name.now c.args.beside.now c.args.bytes.now first _ made_beside _ _ _ _ _ _ (done_by _ _ _ c.is_err.ensures.negation c.if-is_err.false) c.write.ensures.told c.sync.ensures.told
          (done_by _ _ _ c.is_err-3.ensures.negation c.if-is_err-3.true) c.rename.ensures.told c.remove-then-is_err-3.ensures.told;
    }

pub returns-then-is_err-4 : goal.returns-then-is_err-4
returns-then-is_err-4 g c =
    let write = asked _ _ _ _ _ _ c.is_err.ensures.negation c.if-is_err.false c.write.ensures.asked in
    let sync = asked _ _ _ _ _ _ c.is_err-2.ensures.negation c.if-is_err-2.false c.sync.ensures.asked in
    let rename = asked _ _ _ _ _ _ c.is_err-3.ensures.negation c.if-is_err-3.false c.rename.ensures.asked in
    let folder = asked _ _ _ _ _ _ c.is_err-4.ensures.negation c.if-is_err-4.true c.sync_folder.ensures.asked in
    record {
      brings = record { move = tt; asked = more_then _ _ _ _ _ (more_then _ _ _ _ _ (more_then _ _ _ _ _ write sync) rename) folder };
      told = λ first made_beside. left-folder_synced c.args.name.now c.args.beside.now c.args.bytes.now first _ made_beside _ _ _ _ _ _ _ (done_by _ _ _ c.is_err.ensures.negation c.if-is_err.false) c.write.ensures.told c.sync.ensures.told
          (done_by _ _ _ c.is_err-3.ensures.negation c.if-is_err-3.false) c.rename.ensures.told (done_by _ _ _ c.is_err-4.ensures.negation c.if-is_err-4.true) c.sync_folder.ensures.told;
    }

pub returns : goal.returns
returns g c =
    let write = asked _ _ _ _ _ _ c.is_err.ensures.negation c.if-is_err.false c.write.ensures.asked in
    let sync = asked _ _ _ _ _ _ c.is_err-2.ensures.negation c.if-is_err-2.false c.sync.ensures.asked in
    let rename = asked _ _ _ _ _ _ c.is_err-3.ensures.negation c.if-is_err-3.false c.rename.ensures.asked in
    let folder = asked _ _ _ _ _ _ c.is_err-4.ensures.negation c.if-is_err-4.false c.sync_folder.ensures.asked in
    record {
      brings = record { move = tt; asked = more_then _ _ _ _ _ (more_then _ _ _ _ _ (more_then _ _ _ _ _ write sync) rename) folder };
      told = λ first made_beside. stored_as c.args.name.now c.args.beside.now c.args.bytes.now first _ made_beside _ _ _ _ _ _ (done_by _ _ _ c.is_err.ensures.negation c.if-is_err.false) c.write.ensures.told c.sync.ensures.told
          (done_by _ _ _ c.is_err-3.ensures.negation c.if-is_err-3.false) c.rename.ensures.told c.sync_folder.ensures.told.stays;
    }
