-- What a client is told of a provider (the NBD project's doc/proto.md, "Block size constraints").
use Rattle.std.specs.Prelude.{ℕ, max}
use Rattle.block_traits.specs.Disk.{DiskState}
use Rattle.byte_ranges.specs.Ranges.{data_size}
use Rattle.nbd_words.specs.Negotiation.{transmission_flags}
use Rattle.nbd_words.specs.declared.negotiation.Export.{Export}
use Rattle.nbd_session.specs.Requests.{Side}

-- what a client is told of a provider on this disk: the bytes of its data; requests should be of whole sectors, and of
-- 4,096 bytes at least; they have no more than so many
abbrev pub export_for : Side → DiskState → ℕ → Export
export_for side d most = record {
  size = data_size side.keying d;
  flags = transmission_flags side.readonly;
  preferred = max side.keying.sectorsize 4096;
  most = most;
}
