-- What stands now, what was flushed, and why a unit is a fault.
use Rattle.std.proofs.Common.{◌≡◌, ◌≢◌, ◌⊎◌, inl, inr, ℕ, ◌+◌, ◌-◌, ◌*◌, ◌<◌, ◌≤◌, ◌==◌, nat_lt, List, [], ◌∷◌, ◌++◌, length, map, get_or, take, drop, cond, Bool, true, false, Option, Some, None, Result, Ok, Err, All, Contains, refl, sym, ap, subst, ◌∙◌, arith, length-take-le, length-drop, take-append-drop}
use Rattle.std.proofs.lemmas.Bool.{eq-eqb, cond-true, cond-false, and_left, and_right, le-ltb}
use Rattle.std.proofs.lemmas.List.{append_cancel_left, get_or-take, get_or-drop, length-map}
use Rattle.std.proofs.lemmas.List.FromFn.{length-map-range_with_len, get_or-map-range_with_len}
use Rattle.std.proofs.lemmas.List.Elements.{All-from_get_or, Contains-push_cases}
use Rattle.std.specs.List.{range_with_len}
use Rattle.eli_base.specs.declared.algorithms.Auth.TheVariants.{Off}
use Rattle.eli_base.specs.Keying.{Keying}
use Rattle.eli_base.proofs.Units.{off_or_not}
use Rattle.block_traits.specs.Content.{Content, IsContentOf, kept_values, last_of, present}
use Rattle.block_traits.specs.Crash.{IsTorn, IsUnsettled}
use Rattle.block_traits.proofs.Contents.{last_of-kept_values}
use Rattle.range_keys.specs.Ring.{IsKeying}
use Rattle.sealing.specs.Runs.{opened_run}
use Rattle.sealing.specs.TaggedUnits.{kept_tag, tag_of}
use Rattle.sealing.specs.Sectors.{unit_place, units, unit_reading_at, unit_readings}
use Rattle.sealing.proofs.TaggedUnitLaws.{unit_reading-alone}
use Rattle.readings.specs.Writings.{PutUnit, Writing, Put, Raw, AreWritings, device_bytes, all_device_bytes, plain_bytes}
use Rattle.readings.specs.Steps.{Step, Place, Flush, after, last_writing, cell_after, cell}
use Rattle.readings.specs.Read.{Matches, matching, writing_in, opened_unit, opened_bytes, are_chained, loses_front, unit_from, read_unit, read}
use Rattle.readings.specs.Ever.{placed_at, cipher_text_at, is_accepted, ReadsAsOneOf, IsForged}
use Rattle.readings.specs.Survivors.{sectors_in, sectors_now, last_writings, content_media, placed, AreSteps, IsOfCell, IsStrange, ReadsAsPut}
use Rattle.readings.proofs.Cells.{kept_values-cell, last_of-device_bytes}
use Rattle.readings.proofs.Matching.{matching-matches}
use Rattle.readings.proofs.Plain.{opened_unit-off}
use Rattle.readings.proofs.Readings.{unit_readings-read}
use Rattle.readings.proofs.Forged.{same_bytes, fault-is, known_or_forged}
use Rattle.readings.proofs.Survivors.{Fits, Fits-cell, AreWritings-fit, All-last, some-cell, some-units, room, torn-reads}

-- ---- what matches

-- bytes that are whole, or whole but for their front
rest_of : (lost : Bool) (bytes front plain : List ℕ) → front ≡ take 16 bytes → bytes ≡ cond lost (front ++ drop 16 plain) plain → drop 16 bytes ≡ drop 16 plain
rest_of true bytes front plain is all =
    append_cancel_left (take 16 bytes) (drop 16 bytes) (drop 16 plain) (take-append-drop 16 bytes ∙ all ∙ ap (λ (l : List ℕ). l ++ drop 16 plain) is)
rest_of false bytes front plain is all = ap (drop 16) all

pub opened_unit-read : (k : Keying) (sector j : ℕ) (ws : List Writing) → IsKeying k → AreWritings k ws → j < units k → opened_unit k sector ws j ≡ read_unit k sector ws j
opened_unit-read k sector j ws is are lt =
    ap (λ (l : List (Result (List ℕ) ℕ)). get_or l j (Ok [])) (unit_readings-read k sector ws is are)
    ∙ get_or-map-range_with_len (read_unit k sector ws) 0 (units k) j j (Ok []) lt (omega arith)

pub put-reads : (k : Keying) (sector j : ℕ) (ws : List Writing) (p : PutUnit) → IsKeying k → AreWritings k ws → j < units k → Matches k sector j (writing_in ws j) p
    → ReadsAsPut k p (opened_unit k sector ws j)
put-reads k sector j ws p is are lt m =
    let left : Option PutUnit = matching k sector (j - 1) (writing_in ws (j - 1)) in
    let opened : Result (List ℕ) ℕ = opened_unit k sector ws j in
    let lost : Bool = loses_front k j left p in
    let plain : List ℕ = plain_bytes p in
    let bytes : List ℕ = cond lost (take 16 (opened_bytes opened) ++ drop 16 plain) plain in
    let reads : opened ≡ Ok bytes =
    opened_unit-read k sector j ws is are lt
    ∙ ap (λ (o : Option PutUnit). unit_from k j o left opened) (matching-matches k sector j (writing_in ws j) p m) in
    record {
      bytes = bytes;
      is = reads;
      rest = rest_of lost bytes (take 16 (opened_bytes opened)) plain (ap (λ (r : Result (List ℕ) ℕ). take 16 (opened_bytes r)) reads) refl;
      unchained = λ none. cond-false lost _ plain (and_left (are_chained k.cipher k.auth) _ none);
      first = λ zero_unit.
          let none : nat_lt 0 j ≡ false = le-ltb 0 j (omega (arith, m.unit, zero_unit)) in
          cond-false lost _ plain (and_right (are_chained k.cipher k.auth) _ (and_left (nat_lt 0 j) _ none));
    }

-- ---- what stands now

pub present-cell : (c : Content) (steps : List Step) (n : ℕ) → present (after steps c) n ≡ device_bytes (last_writing (cell c steps n))
present-cell c steps n = sym (last_of-kept_values (after steps c) n) ∙ ap last_of (kept_values-cell c steps n) ∙ last_of-device_bytes (cell c steps n)

map-each : (f : ℕ → List ℕ) (g : ℕ → Writing) (js : List ℕ) → ((j : ℕ) → f j ≡ device_bytes (g j)) → map f js ≡ all_device_bytes (map g js)
map-each f g [] same = refl
map-each f g (j ∷ js) same = λ i. same j i ∷ map-each f g js same i

pub now-reads : (c : Content) (steps : List Step) (k : Keying) (sector : ℕ) → IsContentOf (length c.base) c → AreSteps steps → IsKeying k → sector < content_media k c
    → unit_readings k sector (sectors_now k sector (after steps c)) ≡ read k sector (last_writings k sector (cell c steps))
now-reads c steps k sector content are is below =
    let last : ℕ → Writing = λ j. last_writing (cell c steps (unit_place k sector j)) in
    let ws : List Writing = last_writings k sector (cell c steps) in
    let fits = room (units k) sector (length c.base) (some-units k is) below in
    let count : length ws ≡ units k = length-map-range_with_len last 0 (units k) in
    let all : All (Fits (placed steps)) ws = All-from_get_or (Fits (placed steps)) ws (Raw []) (λ j lt.
    let inside : j < units k = omega arith in
    subst (Fits (placed steps)) (sym (get_or-map-range_with_len last 0 (units k) j j (Raw []) inside (omega arith)))
    (All-last (Fits (placed steps)) (cell c steps (unit_place k sector j)) (some-cell c steps (unit_place k sector j)) (Fits-cell c steps (unit_place k sector j) content (omega arith) are))) in
    ap (unit_readings k sector) (map-each (λ j. present (after steps c) (unit_place k sector j)) last (range_with_len 0 (units k)) (λ j. present-cell c steps (unit_place k sector j)))
    ∙ unit_readings-read k sector ws is (AreWritings-fit k steps ws are count all)

-- ---- what was flushed

pub cell_after-append : (steps more : List Step) (n : ℕ) (ws : List Writing) → cell_after (steps ++ more) n ws ≡ cell_after more n (cell_after steps n ws)
cell_after-append [] more n ws = refl
cell_after-append (Place m w ∷ steps) more n ws = cell_after-append steps more n (cond (m == n) (ws ++ w ∷ []) ws)
cell_after-append (Flush ∷ steps) more n ws = cell_after-append steps more n (last_writing ws ∷ [])

pub last_writing-push : (ws : List Writing) (w : Writing) → last_writing (ws ++ w ∷ []) ≡ w
last_writing-push [] w = refl
last_writing-push (first ∷ []) w = refl
last_writing-push (first ∷ second ∷ ws) w = last_writing-push (second ∷ ws) w

-- a step that places nothing here
pub quiet_step : (here : Bool) (w : Writing) (later : List Writing) → cond here (w ∷ later) later ≡ [] → (here ≡ false) × (later ≡ [])
quiet_step true w later none = absurd cc
quiet_step false w later none = (refl, none)

pub last-quiet : (steps : List Step) (n : ℕ) (ws : List Writing) → placed_at steps n ≡ [] → last_writing (cell_after steps n ws) ≡ last_writing ws
last-quiet [] n ws none = refl
last-quiet (Place m w ∷ steps) n ws none =
    let quiet = quiet_step (m == n) w (placed_at steps n) none in
    ap (λ (l : List Writing). last_writing (cell_after steps n l)) (cond-false (m == n) (ws ++ w ∷ []) ws quiet.0) ∙ last-quiet steps n ws quiet.1
last-quiet (Flush ∷ steps) n ws none = last-quiet steps n (last_writing ws ∷ []) none

pub one-quiet : (steps : List Step) (n : ℕ) (v : Writing) → placed_at steps n ≡ [] → cell_after steps n (v ∷ []) ≡ v ∷ []
one-quiet [] n v none = refl
one-quiet (Place m w ∷ steps) n v none =
    let quiet = quiet_step (m == n) w (placed_at steps n) none in
    ap (cell_after steps n) (cond-false (m == n) (v ∷ w ∷ []) (v ∷ []) quiet.0) ∙ one-quiet steps n v quiet.1
one-quiet (Flush ∷ steps) n v none = one-quiet steps n v none

pub cell-flushed : (c : Content) (earlier between since : List Step) (n : ℕ) (w : Writing) → placed_at between n ≡ [] → placed_at since n ≡ []
    → cell c (earlier ++ (Place n w ∷ (between ++ (Flush ∷ since)))) n ≡ w ∷ []
cell-flushed c earlier between since n w quiet still =
    let start : List Writing = map Raw (kept_values c n) in
    let ws : List Writing = cell_after earlier n start in
    let here : n == n ≡ true = eq-eqb n n refl in
    cell_after-append earlier (Place n w ∷ (between ++ (Flush ∷ since))) n start
    ∙ ap (cell_after (between ++ (Flush ∷ since)) n) (cond-true (n == n) (ws ++ w ∷ []) ws here)
    ∙ cell_after-append between (Flush ∷ since) n (ws ++ w ∷ [])
    ∙ ap (λ (v : Writing). cell_after since n (v ∷ [])) (last-quiet between n (ws ++ w ∷ []) quiet ∙ last_writing-push ws w)
    ∙ one-quiet since n w still

-- if a cell has one writing, a torn image has it
only-stands : (c : Content) (steps : List Step) (n : ℕ) (p : PutUnit) (there : List ℕ) (w : Writing) → cell c steps n ≡ Put p ∷ []
    → IsOfCell (cell c steps n) there w ⊎ (IsStrange (cell c steps n) there w × IsUnsettled (after steps c) n) → w ≡ Put p
only-stands c steps n p there w one (inl h) =
    let is_in : Contains (Put p ∷ []) w = subst (λ (l : List Writing). Contains l w) one h.is_in in
    elim (Contains-push_cases [] (Put p) w is_in) [ inl nowhere ↦ absurd (omega (arith, nowhere.1)) | inr is ↦ sym is ]
only-stands c steps n p there w one (inr h) =
    let count : length (kept_values (after steps c) n) ≡ 1 = ap length (kept_values-cell c steps n) ∙ length-map (cell c steps n) device_bytes ∙ ap length one in
    absurd (omega (arith, h.1, count))

pub settled-reads : (c : Content) (steps : List Step) (image : List (List ℕ)) (k : Keying) (sector j : ℕ) (p : PutUnit)
    → IsContentOf (length c.base) c → AreSteps steps → IsKeying k → sector < content_media k c → j < units k → IsTorn (after steps c) image
    → cell c steps (unit_place k sector j) ≡ Put p ∷ [] → Matches k sector j (Put p) p
    → ReadsAsPut k p (get_or (unit_readings k sector (sectors_in k sector image)) j (Ok []))
settled-reads c steps image k sector j p content are is below lt torn one m =
    let r = torn-reads c (after steps c) steps image k sector refl content are is below torn in
    let ws : List Writing = r.writings in
    let stands = only-stands c steps (unit_place k sector j) p (get_or image (unit_place k sector j) []) (writing_in ws j) one (r.each j lt) in
    let matches : Matches k sector j (writing_in ws j) p = record { is = stands; keying = m.keying; of_sector = m.of_sector; unit = m.unit } in
    subst (λ (l : List (Result (List ℕ) ℕ)). ReadsAsPut k p (get_or l j (Ok []))) (unit_readings-read k sector ws is r.fits ∙ sym r.readings)
    (put-reads k sector j ws p is r.fits lt matches)

-- ---- why a unit is a fault

ok_is_no_fault : (k : Keying) (j : ℕ) (own left : Option PutUnit) (opened : Result (List ℕ) ℕ) (offset : ℕ) → unit_from k j own left opened ≡ Err offset → own ≡ None
ok_is_no_fault k j None left opened offset e = refl
ok_is_no_fault k j (Some p) left opened offset e = absurd (cc e)

-- a unit is a fault at its own offset alone
fault-offset : (accepted : Bool) (plain : List ℕ) (own offset : ℕ) (r : Result (List ℕ) ℕ) → r ≡ cond accepted (Ok plain) (Err own) → r ≡ Err offset → offset ≡ own
fault-offset true plain own offset r is e = absurd (cc (is, e))
fault-offset false plain own offset r is e = cc (is, e)

tagged_alone : (k : Keying) (sector j : ℕ) (ws : List Writing) (offset : ℕ) → j < units k → length ws ≡ units k → opened_unit k sector ws j ≡ Err offset
    → (k.auth ≢ Off) × (offset ≡ 512 * unit_place k sector j)
tagged_alone k sector j ws offset lt count e = elim (off_or_not k.auth) [
  | inl off ↦ absurd (cc (opened_unit-off k sector j ws off lt, e))
  | inr on ↦
      let n : ℕ = unit_place k sector j in
      let bytes : List ℕ = get_or (all_device_bytes ws) j [] in
      let piece = unit_reading-alone k sector j (all_device_bytes ws) on (length-map ws device_bytes ∙ count) lt in
      (on, fault-offset (is_accepted k n bytes) (opened_run k (512 * n) (cipher_text_at k n bytes)) (512 * n) offset (opened_unit k sector ws j) piece e)
]

pub fault-cause : (k : Keying) (sector j : ℕ) (ws : List Writing) (offset : ℕ) → IsKeying k → AreWritings k ws → j < units k → read_unit k sector ws j ≡ Err offset
    → (matching k sector j (writing_in ws j) ≡ None) × (k.auth ≢ Off) × (offset ≡ 512 * unit_place k sector j)
fault-cause k sector j ws offset is are lt e =
    let tagged = tagged_alone k sector j ws offset lt are.count (opened_unit-read k sector j ws is are lt ∙ e) in
    (ok_is_no_fault k j (matching k sector j (writing_in ws j)) (matching k sector (j - 1) (writing_in ws (j - 1))) (opened_unit k sector ws j) offset e, tagged.0, tagged.1)

-- ---- any image, with authentication

pub tagged-image : (k : Keying) (sector j : ℕ) (image : List (List ℕ)) (ever : List Writing) → k.auth ≢ Off → sector * units k + units k ≤ length image → j < units k
    → let n = unit_place k sector j in let there = get_or image n [] in let reading = get_or (unit_readings k sector (sectors_in k sector image)) j (Ok []) in
    (reading ≡ Err (512 * n)) ⊎ ((reading ≡ unit_reading_at k n there) × (ReadsAsOneOf k n there ever ⊎ IsForged k n there ever))
tagged-image k sector j image ever on fits lt =
    let n : ℕ = unit_place k sector j in
    let there : List ℕ = get_or image n [] in
    let rest : List (List ℕ) = drop (sector * units k) image in
    let left = length-drop (sector * units k) image in
    let count : length (take (units k) rest) ≡ units k = length-take-le (units k) rest (omega arith) in
    let at : get_or (sectors_in k sector image) j [] ≡ there = get_or-take (units k) rest j [] lt ∙ get_or-drop (sector * units k) image j [] in
    let piece = unit_reading-alone k sector j (sectors_in k sector image) on count lt ∙ ap (unit_reading_at k n) at in
    elim (same_bytes (kept_tag k there) (tag_of k (512 * n) (cipher_text_at k n there))) [
      | inl tag ↦ inr (piece, known_or_forged k n there ever tag)
      | inr differs ↦ inl (piece ∙ (fault-is k n there).1 differs)
    ]
