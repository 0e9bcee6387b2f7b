-- What the log says of how a session ended, where something was refused or the last flush failed.
use Rattle.std.specs.Prelude.{◌≡◌, ◌⊎◌, Bool, true, false, List, [], ◌∷◌, ℕ, Option, Some, None, codes}
use Rattle.std.specs.Fmt.{decimal}
use Rattle.std.specs.List.{concat}
use Rattle.block_traits.specs.Streams.{SinkState, TookAll, TookPart}
use Rattle.nbd_session.specs.declared.denials.Denial.{Denial}
use Rattle.nbd_session.specs.declared.denials.Denials.{Denials}
use Rattle.nbd_session.specs.declared.denials.DeniedKind.{DeniedKind}
use Rattle.nbd_session.specs.declared.denials.DeniedKind.TheVariants.{Write, Zeros, Flush}
use Rattle.nbd_words.specs.declared.transmission.ReplyError.{ReplyError}
use Rattle.nbd_words.specs.declared.transmission.ReplyError.TheVariants.{Done, ReadOnly, Failed, Invalid, PassesEnd, NoRoom}

-- what was to be done
abbrev pub kind_words : DeniedKind → List ℕ
kind_words Write = codes "write at "
kind_words Zeros = codes "zeros at "
kind_words Flush = codes "flush"

-- where; a flush is of the whole disk
abbrev pub place_words : DeniedKind → List ℕ → List ℕ
place_words Write digits = digits
place_words Zeros digits = digits
place_words Flush digits = []

-- why
abbrev pub cause_words : ReplyError → List ℕ
cause_words Done = codes "none"
cause_words ReadOnly = codes "read-only"
cause_words Failed = codes "input or output error"
cause_words Invalid = codes "invalid request"
cause_words PassesEnd = codes "past the end"
cause_words NoRoom = codes "no space left on the device"

abbrev pub flush_words : Bool → List ℕ
flush_words true = codes "made"
flush_words false = codes "failed"

-- how many were refused, which was the first, and whether the last flush was made
abbrev pub end_text_by : Option Denial → Denials → Bool → List ℕ
end_text_by None d flushed = concat (
    codes "refused: writes " ∷ decimal d.writes ∷ codes ", zeros " ∷ decimal d.zeros ∷ codes ", flushes " ∷ decimal d.flushes
    ∷ codes "\nlast flush: " ∷ flush_words flushed ∷ codes "\n" ∷ [])
end_text_by (Some first) d flushed = concat (
    codes "refused: writes " ∷ decimal d.writes ∷ codes ", zeros " ∷ decimal d.zeros ∷ codes ", flushes " ∷ decimal d.flushes
    ∷ codes "\nfirst refused: " ∷ kind_words first.kind ∷ place_words first.kind (decimal first.offset) ∷ codes ", " ∷ cause_words first.error
    ∷ codes "\nlast flush: " ∷ flush_words flushed ∷ codes "\n" ∷ [])

abbrev pub end_text : Denials → Bool → List ℕ
end_text d flushed = end_text_by d.first d flushed

-- the log took this, or its first bytes; if nothing was denied and the last flush was made, the log is as it was
abbrev pub IsToldBy : Bool → Bool → Denials → SinkState → SinkState → Type 0
IsToldBy false true d old new = new ≡ old
IsToldBy denied flushed d old new = TookAll (end_text d flushed) old new ⊎ TookPart (end_text d flushed) old new
