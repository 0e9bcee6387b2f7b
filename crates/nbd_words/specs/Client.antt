-- The client's side of the messages: the bytes of its own, and what it reads in the server's (the NBD project's
-- doc/proto.md). By these, the laws say that each message is read back from its bytes.
use Rattle.std.specs.Prelude.{ℕ, ◌+◌, ◌^◌, ◌<◌, ◌==◌, ◌&&◌, Bool, true, false, List, ◌++◌, length, Option, Some, None, if◌then◌else◌}
use Rattle.byteorder.specs.Endian.{big_bytes}
use Rattle.nbd_words.specs.Negotiation.{big_number_at}
use Rattle.nbd_words.specs.declared.negotiation.ClientFlags.{ClientFlags}
use Rattle.nbd_words.specs.declared.negotiation.Export.{Export}
use Rattle.nbd_words.specs.declared.negotiation.OptionReply.{OptionReply}
use Rattle.nbd_words.specs.declared.negotiation.OptionReply.TheVariants as replies
use Rattle.nbd_words.specs.declared.transmission.ReplyError.{ReplyError}
use Rattle.nbd_words.specs.declared.transmission.ReplyError.TheVariants as errors

-- ---- negotiation

-- the server's handshake flags, if it begins as a server does
abbrev pub greeting_in : List ℕ → Option ℕ
greeting_in bytes =
    if big_number_at bytes 0 8 == 0x4e42444d41474943 && big_number_at bytes 8 8 == 0x49484156454f5054 then Some (big_number_at bytes 16 2) else None

-- what a client says of itself
abbrev pub flag : Bool → ℕ → ℕ
flag true bit = bit
flag false bit = 0

abbrev pub client_flags : ClientFlags → List ℕ
client_flags flags = big_bytes 4 (flag flags.fixed_newstyle 1 + flag flags.no_zeroes 2)

-- the data of NBD_OPT_INFO and NBD_OPT_GO for a name, with so many wishes of two bytes each
abbrev pub info_request : List ℕ → ℕ → List ℕ → List ℕ
info_request name count wishes = big_bytes 4 (length name) ++ (name ++ (big_bytes 2 count ++ wishes))

abbrev pub option_reply_of : ℕ → Option OptionReply
option_reply_of number =
    if number == 1 then Some replies.Acknowledged else if number == 2 then Some replies.Server else if number == 3 then Some replies.Info else
    if number == 0x80000001 then Some replies.Unsupported else if number == 0x80000003 then Some replies.Invalid else None

-- the head of a reply to an option
pub record OptionReplyHead : Type 0 where
  pub code : ℕ
  pub reply : OptionReply
  pub length : ℕ

abbrev pub option_reply_with : ℕ → Option OptionReply → ℕ → Option OptionReplyHead
option_reply_with code (Some reply) size = Some (record { code = code; reply = reply; length = size })
option_reply_with code None size = None

abbrev pub option_reply_in : List ℕ → Option OptionReplyHead
option_reply_in bytes =
    if big_number_at bytes 0 8 == 0x3e889045565a9 then option_reply_with (big_number_at bytes 8 4) (option_reply_of (big_number_at bytes 12 4)) (big_number_at bytes 16 4) else None

-- what a client is told of an export: its size and its transmission flags
pub record ToldExport : Type 0 where
  pub size : ℕ
  pub flags : ℕ

abbrev pub export_info_in : List ℕ → Option ToldExport
export_info_in bytes = if big_number_at bytes 0 2 == 0 then Some (record { size = big_number_at bytes 2 8; flags = big_number_at bytes 10 2 }) else None

abbrev pub plain_export_in : List ℕ → ToldExport
plain_export_in bytes = record { size = big_number_at bytes 0 8; flags = big_number_at bytes 8 2 }

-- how many bytes the requests to an export have: the least, the preferred and the most
pub record BlockSizes : Type 0 where
  pub least : ℕ
  pub preferred : ℕ
  pub most : ℕ

abbrev pub block_sizes_in : List ℕ → Option BlockSizes
block_sizes_in bytes =
    if big_number_at bytes 0 2 == 3 then Some (record { least = big_number_at bytes 2 4; preferred = big_number_at bytes 6 4; most = big_number_at bytes 10 4 }) else None

-- each field of an export is a number of its type
pub record HasExportInRange (export : Export) : Type 0 where
  pub size : export.size < 256 ^ 8
  pub flags : export.flags < 256 ^ 2
  pub preferred : export.preferred < 256 ^ 4
  pub most : export.most < 256 ^ 4

-- ---- replies

abbrev pub error_of : ℕ → Option ReplyError
error_of number =
    if number == 0 then Some errors.Done else if number == 1 then Some errors.ReadOnly else if number == 5 then Some errors.Failed else
    if number == 22 then Some errors.Invalid else if number == 28 then Some errors.PassesEnd else None

-- the error that a client reads: two have the number of NBD_ENOSPC
abbrev pub told_error : ReplyError → ReplyError
told_error errors.NoRoom = errors.PassesEnd
told_error error = error

-- the head of a simple reply
pub record ReplyHead : Type 0 where
  pub error : ReplyError
  pub cookie : ℕ

abbrev pub reply_with : Option ReplyError → ℕ → Option ReplyHead
reply_with (Some error) cookie = Some (record { error = error; cookie = cookie })
reply_with None cookie = None

abbrev pub reply_in : List ℕ → Option ReplyHead
reply_in bytes = if big_number_at bytes 0 4 == 0x67446698 then reply_with (error_of (big_number_at bytes 4 4)) (big_number_at bytes 8 8) else None
