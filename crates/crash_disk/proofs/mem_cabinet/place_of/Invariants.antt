use Rattle.std.proofs.Common.{◌≡◌, ◌+◌, drop}
use Rattle.std.specs.Option.{option_map}
use Rattle.crash_disk.specs.MemCabinet.{file_place}
use Rattle.crash_disk.proofs.mem_cabinet.place_of.Given as goal

abbrev pub invariant-loop-place : goal.invariant-loop-place
invariant-loop-place l = file_place l.name l.files ≡ option_map (λ n. n + l.place) (file_place l.name (drop l.place l.files))
