-- What `write` and `fill` place: the bytes of their sectors, and the first of their events.
use Rattle.std.proofs.Common.{◌≡◌, ◌∙◌, inl, inr, ℕ, zero, suc, ◌*◌, ◌/◌, ◌%◌, ◌<◌, List, [], ◌∷◌, length, take, refl, sym, ap, arith, false, Result, Ok, Err}
use Rattle.std.proofs.Math.Seq.{take-length}
use Rattle.std.specs.Int.{byte_at, bytes_low_first, to_le_bytes, w64}
use Rattle.aes_core.proofs.KeyBytes.{AreBytes-append, AreBytes-cons, byte_at-lt}
use Rattle.command_rows.specs.Rows.{Answer, bytes_spelled, decoded}
use Rattle.command_rows.specs.Vocabulary.{Event, Refusal}
use Rattle.eli_base.specs.declared.refusals.Refusal.TheVariants as refusals
use Rattle.hex.specs.Hex.{decode_of}
use Rattle.hex.specs.declared.error.FromHexError.{FromHexError}
use Rattle.hex.proofs.HexLemmas.{decode_of-ok}
use Rattle.rand_core.specs.Steps.{word_bytes}
use Rattle.rand_pcg.specs.Lcg.{Lcg}
use Rattle.rand_pcg.specs.Pcg.{pcg64}
use Rattle.reply_text.specs.Answer as answers
use Rattle.geli_core.specs.Vocabulary.{AreBytes, AreFirst, BreaksOff, EventsBy, generated, words_of_sectors}

-- ---- the events

take-taken : {X : Type 0} (n : ℕ) (xs : List X) → take n xs ≡ take (length (take n xs)) xs
take-taken zero [] = refl
take-taken (suc n) [] = refl
take-taken zero (x ∷ xs) = refl
take-taken (suc n) (x ∷ xs) = ap (λ l. x ∷ l) (take-taken n xs)

-- what a row logged that has these events in the end
first_of_row : (row events : List Event) → AreFirst (λ found. found ≡ row) events → events ≡ take (length events) row
first_of_row row events h =
    let is : events ≡ take h.count row = h.part ∙ ap (take h.count) h.is_row in
    is ∙ take-taken h.count row ∙ ap (λ (e : List Event). take (length e) row) (sym is)

whole_row : (row events : List Event) → events ≡ row → events ≡ take (length events) row
whole_row row events h = h ∙ sym (take-length row) ∙ ap (λ (e : List Event). take (length e) row) (sym h)

no_event : (row events : List Event) → events ≡ [] → events ≡ take (length events) row
no_event row events h = rw h refl

broken_row : (row : List Event) (refusal : Refusal) (events : List Event) → BreaksOff (λ found. found ≡ row) false refusal events → events ≡ take (length events) row
broken_row row refusals.DeviceFault events (inl none) = no_event row events none
broken_row row refusals.DeviceFault events (inr first) = first_of_row row events first
broken_row row refusal events h = no_event row events h

pub row_events : (row : List Event) (said : Answer) (events : List Event) → EventsBy (λ found. found ≡ row) false said events → events ≡ take (length events) row
row_events row (answers.Refused refusal) events h = broken_row row refusal events h
row_events row said events h = whole_row row events h

-- ---- the bytes

spelled_by : (r : Result (List ℕ) FromHexError) → ((bytes : List ℕ) → r ≡ Ok bytes → AreBytes bytes) → AreBytes (decoded r)
spelled_by (Ok bytes) h = h bytes refl
spelled_by (Err fault) h = λ k. (let small : 0 < 256 = omega arith in small)

pub bytes_spelled-bytes : (digits : List ℕ) → AreBytes (bytes_spelled digits)
bytes_spelled-bytes digits = spelled_by (decode_of digits) (λ bytes is. (decode_of-ok digits bytes is).3)

-- the bytes of words are bytes, eight of each
low_first-bytes : (i k n : ℕ) → AreBytes (bytes_low_first i k n)
low_first-bytes i zero n = λ j. (let small : 0 < 256 = omega arith in small)
low_first-bytes i (suc k) n = AreBytes-cons (byte_at i n) (bytes_low_first (suc i) k n) (byte_at-lt i n) (low_first-bytes (suc i) k n)

pub generated-bytes : (words : ℕ) (g : Lcg) → AreBytes (generated words g).0
unfolding word_bytes
generated-bytes zero g = λ j. (let small : 0 < 256 = omega arith in small)
generated-bytes (suc words) g =
    let before = generated words g in
    AreBytes-append before.0 (to_le_bytes w64 (pcg64 before.1).0) (generated-bytes words g) (low_first-bytes 0 8 (pcg64 before.1).0)

pub whole_words : (size count : ℕ) → size % 512 ≡ 0 → count * size ≡ 8 * words_of_sectors size count
whole_words size count whole =
    let eight : size ≡ 8 * (size / 8) = omega arith in
    ap (λ (s : ℕ). count * s) eight ∙ omega arith
