-- Which requests to change or to flush the disk were answered with an error.
use Rattle.std.specs.Prelude.{ℕ, ◌+◌, ◌-◌, ◌^◌, ◌<◌, Bool, true, false, Option, Some, None, List, [], ◌∷◌}
use Rattle.nbd_words.specs.Transmission.{request_kind}
use Rattle.nbd_words.specs.declared.transmission.RequestKind.{RequestKind}
use Rattle.nbd_words.specs.declared.transmission.RequestKind.TheVariants as kinds
use Rattle.nbd_words.specs.declared.transmission.ReplyError.{ReplyError}
use Rattle.nbd_words.specs.declared.transmission.ReplyError.TheVariants.{Done}
use Rattle.nbd_session.specs.Requests.{Exchange}
use Rattle.nbd_session.specs.declared.denials.Denial.{Denial}
use Rattle.nbd_session.specs.declared.denials.Denials.{Denials}
use Rattle.nbd_session.specs.declared.denials.DeniedKind.{DeniedKind}
use Rattle.nbd_session.specs.declared.denials.DeniedKind.TheVariants.{Write, Zeros, Flush}

-- a request of this kind was denied, if its reply is an error
abbrev pub denial_where : ReplyError → DeniedKind → ℕ → Option Denial
denial_where Done kind offset = None
denial_where error kind offset = Some (record { kind = kind; offset = offset; error = error })

-- what is denied is a write, a request for zeros or a flush
abbrev pub denial_by : RequestKind → ReplyError → ℕ → Option Denial
denial_by kinds.Write error offset = denial_where error Write offset
denial_by kinds.WriteZeroes error offset = denial_where error Zeros offset
denial_by kinds.Flush error offset = denial_where error Flush offset
denial_by kind error offset = None

abbrev pub denial_of : Exchange → Option Denial
denial_of x = denial_by (request_kind x.request.code) x.error x.request.offset

-- ---- how many were denied, and the first

abbrev pub no_denials : Denials
no_denials = record { writes = 0; zeros = 0; flushes = 0; first = None }

abbrev pub first_with : Option Denial → Denial → Option Denial
first_with None denial = Some denial
first_with (Some first) denial = Some first

abbrev pub with_denied_as : DeniedKind → Denials → Denial → Denials
with_denied_as Write d denial = record { writes = d.writes + 1; zeros = d.zeros; flushes = d.flushes; first = first_with d.first denial }
with_denied_as Zeros d denial = record { writes = d.writes; zeros = d.zeros + 1; flushes = d.flushes; first = first_with d.first denial }
with_denied_as Flush d denial = record { writes = d.writes; zeros = d.zeros; flushes = d.flushes + 1; first = first_with d.first denial }

-- with one more, if it was denied
abbrev pub with_denied : Denials → Option Denial → Denials
with_denied d None = d
with_denied d (Some denial) = with_denied_as denial.kind d denial

-- the exchanges are counted after those of before
abbrev pub tally : Denials → List Exchange → Denials
tally d [] = d
tally d (x ∷ xs) = tally (with_denied d (denial_of x)) xs

-- what was denied of these exchanges
abbrev pub denials_in : List Exchange → Denials
denials_in xs = tally no_denials xs

-- one more can be counted of each kind
pub record MayCount (d : Denials) : Type 0 where
  pub writes : d.writes < 2 ^ 64 - 1
  pub zeros : d.zeros < 2 ^ 64 - 1
  pub flushes : d.flushes < 2 ^ 64 - 1

-- whether something was denied
abbrev pub is_some_denied : Option Denial → Bool
is_some_denied None = false
is_some_denied (Some denial) = true

abbrev pub some_denied : Denials → Bool
some_denied d = is_some_denied d.first
