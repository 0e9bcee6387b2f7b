-- Requests and their replies as bytes: the NBD project's doc/proto.md, "Request message", "Request types", "Command
-- flags", "Simple reply message" and "Error values".
use Rattle.std.specs.Prelude.{ℕ, ◌^◌, ◌<◌, ◌==◌, ◌%◌, Bool, List, ◌++◌, Option, Some, None, if◌then◌else◌}
use Rattle.byteorder.specs.Endian.{big_bytes}
use Rattle.nbd_words.specs.Negotiation.{big_number_at}
use Rattle.nbd_words.specs.declared.transmission.Request.{Request}
use Rattle.nbd_words.specs.declared.transmission.RequestKind.{RequestKind}
use Rattle.nbd_words.specs.declared.transmission.RequestKind.TheVariants.{Read, Write, Disconnect, Flush, WriteZeroes, Unknown}
use Rattle.nbd_words.specs.declared.transmission.ReplyError.{ReplyError}
use Rattle.nbd_words.specs.declared.transmission.ReplyError.TheVariants.{Done, ReadOnly, Failed, Invalid, PassesEnd, NoRoom}

-- the request in 28 bytes that begin with its magic number
abbrev pub request_in : List ℕ → Option Request
request_in bytes =
    if big_number_at bytes 0 4 == 0x25609513
    then Some (record { flags = big_number_at bytes 4 2; code = big_number_at bytes 6 2; cookie = big_number_at bytes 8 8; offset = big_number_at bytes 16 8; length = big_number_at bytes 24 4 })
    else None

-- NBD_CMD_READ, NBD_CMD_WRITE, NBD_CMD_DISC, NBD_CMD_FLUSH and NBD_CMD_WRITE_ZEROES
abbrev pub request_kind : ℕ → RequestKind
request_kind code =
    if code == 0 then Read else if code == 1 then Write else if code == 2 then Disconnect else if code == 3 then Flush else
    if code == 6 then WriteZeroes else Unknown

-- the highest flags of a request: NBD_CMD_FLAG_FUA is bit 0, NBD_CMD_FLAG_NO_HOLE bit 1
abbrev pub flags_limit : RequestKind → ℕ
flags_limit Read = 1
flags_limit Write = 1
flags_limit Disconnect = 1
flags_limit Flush = 1
flags_limit WriteZeroes = 3
flags_limit Unknown = 1

abbrev pub has_fua : ℕ → Bool
has_fua flags = flags % 2 == 1

-- NBD_EPERM, NBD_EIO, NBD_EINVAL and NBD_ENOSPC
abbrev pub error_number : ReplyError → ℕ
error_number Done = 0
error_number ReadOnly = 1
error_number Failed = 5
error_number Invalid = 22
error_number PassesEnd = 28
error_number NoRoom = 28

-- the head of a simple reply
abbrev pub reply_head : ReplyError → ℕ → List ℕ
reply_head error cookie = big_bytes 4 0x67446698 ++ (big_bytes 4 (error_number error) ++ big_bytes 8 cookie)

-- the bytes of a request, before those of a write
abbrev pub request_bytes : Request → List ℕ
request_bytes q = big_bytes 4 0x25609513 ++ (big_bytes 2 q.flags ++ (big_bytes 2 q.code ++ (big_bytes 8 q.cookie ++ (big_bytes 8 q.offset ++ big_bytes 4 q.length))))

-- each field is a number of its type
pub record HasRequestInRange (q : Request) : Type 0 where
  pub flags : q.flags < 256 ^ 2
  pub code : q.code < 256 ^ 2
  pub cookie : q.cookie < 256 ^ 8
  pub offset : q.offset < 256 ^ 8
  pub length : q.length < 256 ^ 4
