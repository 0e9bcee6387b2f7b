-- Writes that wait, and what is done of them.
use Rattle.std.proofs.Common.{◌≡◌, ◌≢◌, ◌≤◌, ℕ, ◌==◌, arith, length, length-append, Bool, true, false, Bor, eq-eqb, ne_eqb, List, [], ◌∷◌, ◌++◌, map, cond, Option, Some, None, refl, sym, ap, ◌∙◌, subst, append_assoc, get_or, unwrap_or, Contains}
use Rattle.block_traits.specs.declared.disk.Event.{Event}
use Rattle.block_traits.specs.Content.{Content, kept_after, kept_values, logged, present, present_after, with_events}
use Rattle.block_traits.specs.Disk.{DiskState, FailsIn, GivesFrom, Logs}
use Rattle.block_traits.proofs.Contents.{kept_after-append, present_after-append}
use Rattle.std.proofs.lemmas.List.Elements.{Contains-append_left}
use Rattle.block_traits.proofs.Logs.{Logs-then}
use Rattle.disk_layers.specs.declared.write_behind.Waiting.{Waiting}
use Rattle.disk_layers.specs.Waiting.{StopsIn, last_after, last_waiting, write_of, writes_of}

-- the writes that were looked at, from the references to them
abbrev seen : List (Bor Waiting) → List Waiting
seen writes = map (λ write. write.now) writes

-- one more write was looked at
last_after-push : (n : ℕ) (writes : List (Bor Waiting)) (write : Bor Waiting) (found : Option (List ℕ))
    → last_after n (seen (writes ++ write ∷ [])) found ≡ cond (write.now.n == n) (Some write.now.bytes) (last_after n (seen writes) found)
last_after-push n [] write found = refl
last_after-push n (first ∷ writes) write found = last_after-push n writes write (cond (first.now.n == n) (Some first.now.bytes) found)

-- a write of this sector, and one of another
pub found_here : (n : ℕ) (writes : List (Bor Waiting)) (write : Bor Waiting) → write.now.n ≡ n → Some write.now.bytes ≡ last_waiting n (seen (writes ++ write ∷ []))
found_here n writes write here =
    sym (last_after-push n writes write None ∙ ap (λ (b : Bool). cond b (Some write.now.bytes) (last_waiting n (seen writes))) (eq-eqb write.now.n n here))

pub found_before : (n : ℕ) (writes : List (Bor Waiting)) (write : Bor Waiting) (found : Option (List ℕ)) → write.now.n ≢ n → found ≡ last_waiting n (seen writes)
    → found ≡ last_waiting n (seen (writes ++ write ∷ []))
found_before n writes write found other before =
    before ∙ sym (last_after-push n writes write None ∙ ap (λ (b : Bool). cond b (Some write.now.bytes) (last_waiting n (seen writes))) (ne_eqb write.now.n n other))

pub writes_of-append : (waiting more : List Waiting) → writes_of (waiting ++ more) ≡ writes_of waiting ++ writes_of more
writes_of-append [] more = refl
writes_of-append (write ∷ waiting) more = ap (λ (l : List Event). write_of write ∷ l) (writes_of-append waiting more)

-- the first of these writes were done, and the others are left
pub record Wrote (all left : List Waiting) (old new : DiskState) : Type 0 where
  pub done : List Waiting
  pub were : all ≡ done ++ left
  pub logs : Logs (writes_of done) old new

pub Wrote-one : (all left : List Waiting) (write : Waiting) {old middle new : DiskState} → Wrote all (write ∷ left) old middle → Logs (write_of write ∷ []) middle new → Wrote all left old new
Wrote-one all left write wrote one = record {
  done = wrote.done ++ write ∷ [];
  were = wrote.were ∙ sym (append_assoc wrote.done (write ∷ []) left);
  logs = rw (writes_of-append wrote.done (write ∷ [])) (Logs-then (writes_of wrote.done) (write_of write ∷ []) wrote.logs one);
}

pub StopsIn-wrote : (all left now : List Waiting) (write : Waiting) {old middle new : DiskState} → Wrote all (write ∷ left) old middle → now ≡ write ∷ left → FailsIn (write_of write ∷ []) middle new → StopsIn all now old new
StopsIn-wrote all left now write {old} {middle} wrote is fails = record {
  done = wrote.done;
  refused = write;
  behind = left;
  middle = middle;
  were = wrote.were;
  are = is;
  logs = wrote.logs;
  fails = fails;
}

-- ---- what a sector keeps

kept_more : (here : Bool) (values : List (List ℕ)) (new value : List ℕ) → Contains values value → Contains (cond here (values ++ new ∷ []) values) value
kept_more true values new value is = Contains-append_left values (new ∷ []) value is
kept_more false values new value is = is

kept_by_writes : (waiting : List Waiting) (n : ℕ) (values : List (List ℕ)) (value : List ℕ) → Contains values value → Contains (kept_after (writes_of waiting) n values) value
kept_by_writes [] n values value is = is
kept_by_writes (write ∷ waiting) n values value is =
    kept_by_writes waiting n (cond (write.n == n) (values ++ write.bytes ∷ []) values) value (kept_more (write.n == n) values write.bytes value is)

pub kept_in_order : (c : Content) (waiting : List Waiting) (n : ℕ) (value : List ℕ) → Contains (kept_values c n) value → Contains (kept_values (with_events (writes_of waiting) c) n) value
kept_in_order c waiting n value is =
    let P : List (List ℕ) → Type 0 = λ values. Contains values value in
    subst P (sym (kept_after-append c.history (writes_of waiting) n (get_or c.base n [] ∷ []))) (kept_by_writes waiting n (kept_values c n) value is)

longer_written : (here : Bool) (values : List (List ℕ)) (new : List ℕ) → length values ≤ length (cond here (values ++ new ∷ []) values)
longer_written true values new = omega (arith, length-append values (new ∷ []))
longer_written false values new = omega arith

longer_by_writes : (waiting : List Waiting) (n : ℕ) (values : List (List ℕ)) → length values ≤ length (kept_after (writes_of waiting) n values)
longer_by_writes [] n values = omega arith
longer_by_writes (write ∷ waiting) n values =
    omega (arith, longer_written (write.n == n) values write.bytes, longer_by_writes waiting n (cond (write.n == n) (values ++ write.bytes ∷ []) values))

-- with the writes that wait a sector keeps no fewer values
pub longer_in_order : (c : Content) (waiting : List Waiting) (n : ℕ) → length (kept_values c n) ≤ length (kept_values (with_events (writes_of waiting) c) n)
longer_in_order c waiting n =
    omega (arith, longer_by_writes waiting n (kept_values c n), ap length (kept_after-append c.history (writes_of waiting) n (get_or c.base n [] ∷ [])))

-- ---- what a read gives

-- the last of the writes, or what stood there before them
present_after-writes : (waiting : List Waiting) (n : ℕ) (found : Option (List ℕ)) (bytes : List ℕ)
    → present_after (writes_of waiting) n (unwrap_or found bytes) ≡ unwrap_or (last_after n waiting found) bytes
present_after-writes [] n found bytes = refl
present_after-writes (write ∷ waiting) n found bytes =
    ap (present_after (writes_of waiting) n) (one_more (write.n == n))
    ∙ present_after-writes waiting n (cond (write.n == n) (Some write.bytes) found) bytes
  where
    one_more : (here : Bool) → cond here write.bytes (unwrap_or found bytes) ≡ unwrap_or (cond here (Some write.bytes) found) bytes
    one_more true = refl
    one_more false = refl

-- after the writes that wait
present-order : (c : Content) (waiting : List Waiting) (n : ℕ) → present (with_events (writes_of waiting) c) n ≡ unwrap_or (last_waiting n waiting) (present c n)
present-order c waiting n =
    present_after-append c.history (writes_of waiting) n (get_or c.base n []) ∙ present_after-writes waiting n None (present c n)

pub gives_waiting : (told : Option Content) (waiting : List Waiting) (n : ℕ) (last bytes : List ℕ) → last_waiting n waiting ≡ Some last → bytes ≡ last
    → GivesFrom (logged (writes_of waiting) told) n bytes
gives_waiting None waiting n last bytes is same = tt
gives_waiting (Some c) waiting n last bytes is same = same ∙ sym (present-order c waiting n ∙ ap (λ (o : Option (List ℕ)). unwrap_or o (present c n)) is)

pub gives_below : (told : Option Content) (waiting : List Waiting) (n : ℕ) (bytes : List ℕ) → last_waiting n waiting ≡ None → GivesFrom told n bytes
    → GivesFrom (logged (writes_of waiting) told) n bytes
gives_below None waiting n bytes is gives = tt
gives_below (Some c) waiting n bytes is gives = gives ∙ sym (present-order c waiting n ∙ ap (λ (o : Option (List ℕ)). unwrap_or o (present c n)) is)
