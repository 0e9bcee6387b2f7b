-- What is said before an export is served, as bytes: the NBD project's doc/proto.md, "Fixed newstyle negotiation",
-- "Option types" and "Option reply types".
use Rattle.std.specs.Prelude.{ℕ, ◌+◌, ◌*◌, ◌^◌, ◌<◌, ◌==◌, ◌&&◌, Bool, true, false, List, [], ◌∷◌, ◌++◌, length, take, drop, replicate, nat_le, Option, Some, None, if◌then◌else◌}
use Rattle.byteorder.specs.Endian.{big_bytes, big_number}
use Rattle.nbd_words.specs.declared.negotiation.ClientFlags.{ClientFlags}
use Rattle.nbd_words.specs.declared.negotiation.Export.{Export}
use Rattle.nbd_words.specs.declared.negotiation.OptionHead.{OptionHead}
use Rattle.nbd_words.specs.declared.negotiation.OptionKind.{OptionKind}
use Rattle.nbd_words.specs.declared.negotiation.OptionKind.TheVariants.{ExportName, Abort, List as Listing, Info, Go, Unknown}
use Rattle.nbd_words.specs.declared.negotiation.OptionReply.{OptionReply}
use Rattle.nbd_words.specs.declared.negotiation.OptionReply.TheVariants as replies

-- the number of n bytes at a place
abbrev pub big_number_at : List ℕ → ℕ → ℕ → ℕ
big_number_at bytes place n = big_number n (take n (drop place bytes))

-- `NBDMAGIC`, `IHAVEOPT`, and the flags NBD_FLAG_FIXED_NEWSTYLE and NBD_FLAG_NO_ZEROES
abbrev pub greeting : List ℕ
greeting = 78 ∷ 66 ∷ 68 ∷ 77 ∷ 65 ∷ 71 ∷ 73 ∷ 67 ∷ 73 ∷ 72 ∷ 65 ∷ 86 ∷ 69 ∷ 79 ∷ 80 ∷ 84 ∷ 0 ∷ 3 ∷ []

-- NBD_FLAG_C_FIXED_NEWSTYLE is bit 0, NBD_FLAG_C_NO_ZEROES bit 1; a client has no other
abbrev pub client_flags_of : ℕ → Option ClientFlags
client_flags_of flags =
    if flags == 0 then Some (record { fixed_newstyle = false; no_zeroes = false }) else
    if flags == 1 then Some (record { fixed_newstyle = true; no_zeroes = false }) else
    if flags == 2 then Some (record { fixed_newstyle = false; no_zeroes = true }) else
    if flags == 3 then Some (record { fixed_newstyle = true; no_zeroes = true }) else None

abbrev pub client_flags_in : List ℕ → Option ClientFlags
client_flags_in bytes = client_flags_of (big_number_at bytes 0 4)

-- `IHAVEOPT`, the code, the length of the data
abbrev pub option_head_in : List ℕ → Option OptionHead
option_head_in bytes =
    if big_number_at bytes 0 8 == 0x49484156454f5054 then Some (record { code = big_number_at bytes 8 4; length = big_number_at bytes 12 4 }) else None

-- the bytes of an option before its data
abbrev pub option_head : OptionHead → List ℕ
option_head h = big_bytes 8 0x49484156454f5054 ++ (big_bytes 4 h.code ++ big_bytes 4 h.length)

-- each field is a number of its type
pub record HasHeadInRange (h : OptionHead) : Type 0 where
  pub code : h.code < 256 ^ 4
  pub length : h.length < 256 ^ 4

-- NBD_OPT_EXPORT_NAME, NBD_OPT_ABORT, NBD_OPT_LIST, NBD_OPT_INFO and NBD_OPT_GO
abbrev pub option_kind : ℕ → OptionKind
option_kind code =
    if code == 1 then ExportName else if code == 2 then Abort else if code == 3 then Listing else
    if code == 6 then Info else if code == 7 then Go else Unknown

-- NBD_REP_ACK, NBD_REP_SERVER, NBD_REP_INFO, NBD_REP_ERR_UNSUP and NBD_REP_ERR_INVALID: an error has bit 31
abbrev pub option_reply_number : OptionReply → ℕ
option_reply_number replies.Acknowledged = 1
option_reply_number replies.Server = 2
option_reply_number replies.Info = 3
option_reply_number replies.Unsupported = 2 ^ 31 + 1
option_reply_number replies.Invalid = 2 ^ 31 + 3

-- the head of a reply to an option of this code, with so many bytes of data after it
abbrev pub option_reply_head : ℕ → OptionReply → ℕ → List ℕ
option_reply_head code reply size =
    big_bytes 8 0x3e889045565a9 ++ (big_bytes 4 code ++ (big_bytes 4 (option_reply_number reply) ++ big_bytes 4 size))

-- the data of NBD_OPT_INFO and NBD_OPT_GO: the name's length and the name, the number of wishes and two bytes for each
abbrev pub has_info_shape : List ℕ → Bool
has_info_shape bytes =
    let name = big_number_at bytes 0 4 in
    nat_le (6 + name) (length bytes) && length bytes == 6 + name + 2 * big_number_at bytes (4 + name) 2

-- the transmission flags NBD_FLAG_HAS_FLAGS (bit 0), NBD_FLAG_SEND_FLUSH (bit 2), NBD_FLAG_SEND_FUA (bit 3) and
-- NBD_FLAG_SEND_WRITE_ZEROES (bit 6), and for a read-only export NBD_FLAG_READ_ONLY (bit 1)
abbrev pub transmission_flags : Bool → ℕ
transmission_flags false = 1 + 4 + 8 + 64
transmission_flags true = 1 + 2 + 4 + 8 + 64

-- NBD_INFO_EXPORT: 0, the size, the transmission flags
abbrev pub export_info : Export → List ℕ
export_info export = big_bytes 2 0 ++ (big_bytes 8 export.size ++ big_bytes 2 export.flags)

-- NBD_INFO_BLOCK_SIZE: 3, the least, the preferred and the most bytes of a request
abbrev pub block_size_info : Export → List ℕ
block_size_info export = big_bytes 2 3 ++ (big_bytes 4 1 ++ (big_bytes 4 export.preferred ++ big_bytes 4 export.most))

-- the reply to NBD_OPT_EXPORT_NAME
abbrev pub plain_export : Export → List ℕ
plain_export export = big_bytes 8 export.size ++ (big_bytes 2 export.flags ++ replicate 124 0)
