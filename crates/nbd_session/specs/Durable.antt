-- What a session leaves of the provider if power fails at any moment of it.
use Rattle.std.specs.Prelude.{◌≡◌, ◌⊎◌, ℕ, ◌+◌, ◌<◌, ◌≤◌, Bool, true, false, List, [], ◌∷◌, ◌++◌, length, take, Some}
use Rattle.aes_core.specs.Schedule.{AreBytes}
use Rattle.block_traits.specs.Content.{Content}
use Rattle.block_traits.specs.Disk.{DiskState}
use Rattle.byte_ranges.specs.Ranges.{IsSpliced, first_sector, sectors_covered}
use Rattle.eli_base.specs.Keying.{Keying}
use Rattle.range_keys.specs.Ring.{IsKeying}
use Rattle.readings.specs.Crashes.{Endures}
use Rattle.readings.specs.Steps.{Step, Flush, after}
use Rattle.readings.specs.Survivors.{AreSteps, content_media}
use Rattle.readings.specs.Writes.{data_steps}
use Rattle.nbd_words.specs.Transmission.{has_fua, request_kind}
use Rattle.nbd_words.specs.declared.transmission.Request.{Request}
use Rattle.nbd_words.specs.declared.transmission.ReplyError.{ReplyError}
use Rattle.nbd_words.specs.declared.transmission.ReplyError.TheVariants.{Done, ReadOnly, Failed, Invalid, PassesEnd, NoRoom}
use Rattle.nbd_words.specs.declared.transmission.RequestKind.{RequestKind}
use Rattle.nbd_words.specs.declared.transmission.RequestKind.TheVariants as kinds
use Rattle.nbd_session.specs.Requests.{Exchange, range_of, zeros_of}

-- ---- what one exchange did

-- the plain bytes that the sectors of a write were given, and how many of the steps of its kind were done
pub record Deed : Type 0 where
  pub whole : List ℕ
  pub count : ℕ

abbrev pub flush_steps : Bool → List Step
flush_steps true = Flush ∷ []
flush_steps false = []

-- the steps of a write of these bytes to all sectors of a request's range
abbrev pub steps_of_write : ℕ → Keying → Request → List ℕ → List Step
steps_of_write number k q whole =
    data_steps number k (first_sector k (range_of q)) (sectors_covered k (range_of q)) whole ++ flush_steps (has_fua q.flags)

-- the steps of a request of this kind, of which each write has a number of its own
abbrev pub steps_of_kind : RequestKind → ℕ → Keying → Exchange → List ℕ → List Step
steps_of_kind kinds.Write number k x whole = steps_of_write number k x.request whole
steps_of_kind kinds.WriteZeroes number k x whole = steps_of_write number k x.request whole
steps_of_kind kinds.Flush number k x whole = Flush ∷ []
steps_of_kind kind number k x whole = []

abbrev pub all_steps : ℕ → Keying → Exchange → List ℕ → List Step
all_steps number k x whole = steps_of_kind (request_kind x.request.code) number k x whole

abbrev pub exchange_steps : ℕ → Keying → Exchange → Deed → List Step
exchange_steps number k x d = take d.count (all_steps number k x d.whole)

-- the sectors of a write of these bytes are there, and have them, and beside them what stood there before
pub record IsOfWrite (k : Keying) (c : Content) (q : Request) (bytes whole : List ℕ) : Type 0 where
  pub inside : first_sector k (range_of q) + sectors_covered k (range_of q) ≤ content_media k c
  pub are : AreBytes whole
  pub splices : IsSpliced k c (range_of q) bytes whole

abbrev pub IsOfKind : RequestKind → Keying → Content → Exchange → List ℕ → Type 0
IsOfKind kinds.Write k c x whole = IsOfWrite k c x.request x.payload whole
IsOfKind kinds.WriteZeroes k c x whole = IsOfWrite k c x.request (zeros_of x.request) whole
IsOfKind kind k c x whole = Unit {0}

-- What an exchange did, by its reply: if it was done, all of its steps; if the disk failed, the first of them or none;
-- if it was refused, none. A write gave its sectors what its own bytes are spliced into.
abbrev pub DidBy : ReplyError → RequestKind → ℕ → Keying → Content → Exchange → Deed → Type 0
DidBy Done kind number k c x d = IsOfKind kind k c x d.whole × (d.count ≡ length (steps_of_kind kind number k x d.whole))
DidBy Failed kind number k c x d =
    (d.count ≡ 0) ⊎ (IsOfKind kind k c x d.whole × (d.count ≤ length (steps_of_kind kind number k x d.whole)))
DidBy NoRoom kind number k c x d =
    (d.count ≡ 0) ⊎ (IsOfKind kind k c x d.whole × (d.count ≤ length (steps_of_kind kind number k x d.whole)))
DidBy ReadOnly kind number k c x d = d.count ≡ 0
DidBy Invalid kind number k c x d = d.count ≡ 0
DidBy PassesEnd kind number k c x d = d.count ≡ 0

-- ---- what all exchanges did

abbrev pub session_steps : ℕ → Keying → List Exchange → List Deed → List Step
session_steps number k (x ∷ xs) (d ∷ ds) = exchange_steps number k x d ++ session_steps (number + 1) k xs ds
session_steps number k xs ds = []

-- an exchange did its deed on a disk that reported this content, and left it so
pub record DidIts (number : ℕ) (k : Keying) (c : Content) (x : Exchange) (d : Deed) : Type 0 where
  pub by : DidBy x.error (request_kind x.request.code) number k c x d
  pub left : x.next.content ≡ Some (after (exchange_steps number k x d) c)

-- each exchange did its deed, on the content that those before it left; its number is the first, or the next
abbrev pub DidEach : ℕ → Keying → Content → List Exchange → List Deed → Type 0
DidEach number k c [] [] = Unit {0}
DidEach number k c (x ∷ xs) (d ∷ ds) =
    DidIts number k c x d × DidEach (number + 1) k (after (exchange_steps number k x d) c) xs ds
DidEach number k c [] (d ∷ ds) = ⊥
DidEach number k c (x ∷ xs) [] = ⊥

-- What exchanges did to a disk that reported this content before, as steps: its history grew by exactly their events.
-- If power fails at any moment of them, each logical sector of the image that is left reads as promised, under each
-- keying.
pub record Survives (k : Keying) (xs : List Exchange) (c : Content) (new : DiskState) : Type 0 where
  pub deeds : List Deed
  pub did : DidEach 0 k c xs deeds
  pub content : new.content ≡ Some (after (session_steps 0 k xs deeds) c)
  pub fit : AreSteps (session_steps 0 k xs deeds)
  pub endures : (t : ℕ) (key : Keying) (sector : ℕ) → IsKeying key → sector < content_media key c →
      Endures c (session_steps 0 k xs deeds) t key sector
