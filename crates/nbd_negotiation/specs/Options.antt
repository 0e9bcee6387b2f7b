-- The options of a client before it is served, and the reply to each (the NBD project's doc/proto.md, "Option types",
-- "Option reply types" and "Baseline"). An export may have any name.
use Rattle.std.specs.Prelude.{◌≡◌, ℕ, ◌==◌, ◌&&◌, ◌||◌, nat_le, Bool, true, false, List, [], ◌∷◌, ◌++◌, length, map, take, if◌then◌else◌, Some}
use Rattle.nbd_words.specs.Negotiation.{block_size_info, client_flags_in, export_info, has_info_shape, option_head_in, option_kind, option_reply_head, plain_export}
use Rattle.nbd_words.specs.declared.negotiation.ClientFlags.{ClientFlags}
use Rattle.nbd_words.specs.declared.negotiation.Export.{Export}
use Rattle.nbd_words.specs.declared.negotiation.OptionHead.{OptionHead}
use Rattle.nbd_words.specs.declared.negotiation.OptionKind.{OptionKind}
use Rattle.nbd_words.specs.declared.negotiation.OptionKind.TheVariants as kinds
use Rattle.nbd_words.specs.declared.negotiation.OptionReply.{OptionReply}
use Rattle.nbd_words.specs.declared.negotiation.OptionReply.TheVariants as replies
use Rattle.nbd_negotiation.specs.declared.negotiation.Outcome.{Outcome}
use Rattle.nbd_negotiation.specs.declared.negotiation.Outcome.TheVariants.{More, Serving, Ending}

-- ---- who asks

-- the four bytes of the flags of this client
pub record IsClient (flags : List ℕ) (client : ClientFlags) : Type 0 where
  pub size : length flags ≡ 4
  pub reads : client_flags_in flags ≡ Some client

-- ---- an option

-- an option, as its head says, with its data
pub record ClientOption : Type 0 where
  pub head : List ℕ
  pub code : ℕ
  pub bytes : List ℕ

abbrev pub option_bytes : ClientOption → List ℕ
option_bytes o = o.head ++ o.bytes

-- the most bytes of an option's data
abbrev pub option_limit : ℕ
option_limit = 16384

abbrev pub is_export_name : OptionKind → Bool
is_export_name kinds.ExportName = true
is_export_name kind = false

-- whether an option is taken of this client: its data aren't too many; without fixed newstyle, it is
-- NBD_OPT_EXPORT_NAME
abbrev pub is_taken : ClientFlags → OptionHead → Bool
is_taken client head = nat_le head.length option_limit && (client.fixed_newstyle || is_export_name (option_kind head.code))

-- an option that is answered: its 16 bytes are read as its code and the number of its data, and it is taken
pub record IsOption (client : ClientFlags) (o : ClientOption) : Type 0 where
  pub size : length o.head ≡ 16
  pub reads : option_head_in o.head ≡ Some (record { code = o.code; length = length o.bytes })
  pub taken : is_taken client (record { code = o.code; length = length o.bytes }) ≡ true

-- ---- the reply to an option

abbrev pub option_reply : ℕ → OptionReply → List ℕ → List ℕ
option_reply code reply bytes = option_reply_head code reply (length bytes) ++ bytes

-- a reply without data
abbrev pub bare_reply : ℕ → OptionReply → List ℕ
bare_reply code reply = option_reply code reply []

-- an export with an empty name: there is one export, which has any name
abbrev pub listed : ℕ → List ℕ
listed code = option_reply code replies.Server (0 ∷ 0 ∷ 0 ∷ 0 ∷ []) ++ bare_reply code replies.Acknowledged

-- what the export is, and its block sizes
abbrev pub told : ℕ → Export → List ℕ
told code export =
    option_reply code replies.Info (export_info export)
    ++ (option_reply code replies.Info (block_size_info export) ++ bare_reply code replies.Acknowledged)

-- the export, as the reply to NBD_OPT_EXPORT_NAME; a client may ask to leave out the zeros after it
abbrev pub plain_answer : Export → ClientFlags → List ℕ
plain_answer export client = if client.no_zeroes then take 10 (plain_export export) else plain_export export

-- NBD_OPT_LIST has no data
abbrev pub list_answer : ℕ → List ℕ → List ℕ
list_answer code bytes = if length bytes == 0 then listed code else bare_reply code replies.Invalid

-- the data of NBD_OPT_INFO and NBD_OPT_GO have the right shape
abbrev pub info_answer : ℕ → List ℕ → Export → List ℕ
info_answer code bytes export = if has_info_shape bytes then told code export else bare_reply code replies.Invalid

-- the reply to an option by its kind
abbrev pub answer_by : OptionKind → ℕ → List ℕ → Export → ClientFlags → List ℕ
answer_by kinds.ExportName code bytes export client = plain_answer export client
answer_by kinds.Abort code bytes export client = bare_reply code replies.Acknowledged
answer_by kinds.List code bytes export client = list_answer code bytes
answer_by kinds.Info code bytes export client = info_answer code bytes export
answer_by kinds.Go code bytes export client = info_answer code bytes export
answer_by kinds.Unknown code bytes export client = bare_reply code replies.Unsupported

abbrev pub answer : Export → ClientFlags → ClientOption → List ℕ
answer export client o = answer_by (option_kind o.code) o.code o.bytes export client

-- the replies to some options, one each
abbrev pub answers : Export → ClientFlags → List ClientOption → List (List ℕ)
answers export client os = map (answer export client) os

-- ---- what an option leads to: more options, requests, or the end

abbrev pub outcome_by : OptionKind → List ℕ → Outcome
outcome_by kinds.ExportName bytes = Serving
outcome_by kinds.Abort bytes = Ending
outcome_by kinds.List bytes = More
outcome_by kinds.Info bytes = More
outcome_by kinds.Go bytes = if has_info_shape bytes then Serving else More
outcome_by kinds.Unknown bytes = More

abbrev pub outcome : ClientOption → Outcome
outcome o = outcome_by (option_kind o.code) o.bytes

-- options of a client of which each but the last leads to more; the last leads to this
abbrev pub LeadTo : ClientFlags → Outcome → List ClientOption → Type 0
LeadTo client last [] = last ≡ More
LeadTo client last (o ∷ []) = IsOption client o × (outcome o ≡ last)
LeadTo client last (o ∷ next ∷ os) = IsOption client o × (outcome o ≡ More) × LeadTo client last (next ∷ os)
