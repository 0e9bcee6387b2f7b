use Rattle.std.proofs.Common.{◌≡◌, [], take}
use Rattle.std.specs.Prelude.{All, map, string_bytes}
use Rattle.image_layers.specs.Images.{OpensImages, TellsImage, opening}
use Rattle.image_layers.proofs.opening.open_images.Given as goal

-- the images of the first names were opened, each disk of a file alone reports what that file reports, nothing else was
-- asked, and names have what they had
abbrev pub invariant-loop-name : goal.invariant-loop-name
invariant-loop-name g l =
    record {
      opens : OpensImages g.O.Opener g.O.File.ImageFile l.changes
          (map string_bytes (take l.name-index l.names)) l.disks.items (opening l.fn.opener []) (opening l.opener l.files.items);
      tells : All (TellsImage g.O.File.ImageFile.told) l.disks.items;
      told : g.O.Opener.told l.opener ≡ g.O.Opener.told l.fn.opener;
    }
