-- What two disks that are one log, and what their sectors keep.
use Rattle.std.proofs.Common.{◌≡◌, ℕ, ◌-◌, ◌<◌, ◌≤◌, ◌==◌, nat_lt, Bool, true, false, cond, List, [], ◌∷◌, ◌++◌, get_or, refl, sym, ap, ◌∙◌, subst, arith, eq-eqb, ne_eqb}
use Rattle.std.proofs.lemmas.Bool.{eqb-true, eqb-false, ltb-true, ltb-false}
use Rattle.block_traits.specs.declared.disk.Event.{Event}
use Rattle.block_traits.specs.declared.disk.Event.TheVariants.{Write, Flush}
use Rattle.block_traits.specs.Content.{Content, kept_after, kept_values, last_of, with_events}
use Rattle.block_traits.specs.Disk.{DiskState, Logs}
use Rattle.block_traits.proofs.Contents.{kept_after-append}
use Rattle.block_traits.proofs.Logs.{Logs-then}
use Rattle.disk_layers.specs.Concat.{BothLog, first_events, second_events}

-- ---- events one after the other

cond-append : (b : Bool) (event : Event) (events more : List Event) → cond b (event ∷ (events ++ more)) (events ++ more) ≡ cond b (event ∷ events) events ++ more
cond-append true event events more = refl
cond-append false event events more = refl

cond-append_else : (b : Bool) (event : Event) (events more : List Event) → cond b (events ++ more) (event ∷ (events ++ more)) ≡ cond b events (event ∷ events) ++ more
cond-append_else true event events more = refl
cond-append_else false event events more = refl

first_events-append : (size : ℕ) (events more : List Event) → first_events size (events ++ more) ≡ first_events size events ++ first_events size more
first_events-append size [] more = refl
first_events-append size (Write n bytes ∷ events) more =
    ap (λ (l : List Event). cond (nat_lt n size) (Write n bytes ∷ l) l) (first_events-append size events more)
    ∙ cond-append (nat_lt n size) (Write n bytes) (first_events size events) (first_events size more)
first_events-append size (Flush ∷ events) more = ap (λ (l : List Event). Flush ∷ l) (first_events-append size events more)

second_events-append : (size : ℕ) (events more : List Event) → second_events size (events ++ more) ≡ second_events size events ++ second_events size more
second_events-append size [] more = refl
second_events-append size (Write n bytes ∷ events) more =
    ap (λ (l : List Event). cond (nat_lt n size) l (Write (n - size) bytes ∷ l)) (second_events-append size events more)
    ∙ cond-append_else (nat_lt n size) (Write (n - size) bytes) (second_events size events) (second_events size more)
second_events-append size (Flush ∷ events) more = ap (λ (l : List Event). Flush ∷ l) (second_events-append size events more)

pub add_up : (events more : List Event) (a middle_a new_a b middle_b new_b : DiskState) → BothLog events a middle_a b middle_b → BothLog more middle_a new_a middle_b new_b
    → BothLog (events ++ more) a new_a b new_b
add_up events more a middle_a new_a b middle_b new_b one two =
    let same : middle_a.size ≡ a.size = one.first.size in
    let F : ℕ → Type 0 = λ size. Logs (first_events size more) middle_a new_a in
    let S : ℕ → Type 0 = λ size. Logs (second_events size more) middle_b new_b in
    let L : List Event → Type 0 = λ events. Logs events a new_a in
    let M : List Event → Type 0 = λ events. Logs events b new_b in
    record {
      first = subst L (sym (first_events-append a.size events more)) (Logs-then (first_events a.size events) (first_events a.size more) one.first (subst F same two.first));
      second = subst M (sym (second_events-append a.size events more)) (Logs-then (second_events a.size events) (second_events a.size more) one.second (subst S same two.second));
    }

-- ---- kept values

module _ (size n : ℕ) where
  first-write : (inside here : Bool) (m : ℕ) (new : List ℕ) (values : List (List ℕ)) (events : List Event) → n < size → nat_lt m size ≡ inside → (m == n) ≡ here
      → ((old : List (List ℕ)) → kept_after (first_events size events) n old ≡ kept_after events n old)
      → kept_after (cond inside (Write m new ∷ first_events size events) (first_events size events)) n values ≡ kept_after events n (cond here (values ++ new ∷ []) values)
  first-write true here m new values events small is test rest = ap (λ (b : Bool). kept_after (first_events size events) n (cond b (values ++ new ∷ []) values)) test ∙ rest (cond here (values ++ new ∷ []) values)
  first-write false true m new values events small is test rest =
      let same = eqb-true m n test in let behind = ltb-false m size is in absurd (omega arith)
  first-write false false m new values events small is test rest = rest values

  kept-first : (events : List Event) (values : List (List ℕ)) → n < size → kept_after (first_events size events) n values ≡ kept_after events n values
  kept-first [] values small = refl
  kept-first (Write m new ∷ events) values small = first-write (nat_lt m size) (m == n) m new values events small refl refl (λ old. kept-first events old small)
  kept-first (Flush ∷ events) values small = kept-first events (last_of values ∷ []) small

  same_test : (here : Bool) (m : ℕ) → size ≤ n → size ≤ m → (m == n) ≡ here → ((m - size) == (n - size)) ≡ here
  same_test true m behind there test = let same = eqb-true m n test in eq-eqb (m - size) (n - size) (omega arith)
  same_test false m behind there test = ne_eqb (m - size) (n - size) (λ e. eqb-false m n test (omega arith))

  second-write : (inside here : Bool) (m : ℕ) (new : List ℕ) (values : List (List ℕ)) (events : List Event) → size ≤ n → nat_lt m size ≡ inside → (m == n) ≡ here
      → ((old : List (List ℕ)) → kept_after (second_events size events) (n - size) old ≡ kept_after events n old)
      → kept_after (cond inside (second_events size events) (Write (m - size) new ∷ second_events size events)) (n - size) values ≡ kept_after events n (cond here (values ++ new ∷ []) values)
  second-write true true m new values events behind is test rest =
      let same = eqb-true m n test in let small = ltb-true m size is in absurd (omega arith)
  second-write true false m new values events behind is test rest = rest values
  second-write false here m new values events behind is test rest =
      ap (λ (b : Bool). kept_after (second_events size events) (n - size) (cond b (values ++ new ∷ []) values)) (same_test here m behind (ltb-false m size is) test)
      ∙ rest (cond here (values ++ new ∷ []) values)

  kept-second : (events : List Event) (values : List (List ℕ)) → size ≤ n → kept_after (second_events size events) (n - size) values ≡ kept_after events n values
  kept-second [] values behind = refl
  kept-second (Write m new ∷ events) values behind = second-write (nat_lt m size) (m == n) m new values events behind refl refl (λ old. kept-second events old behind)
  kept-second (Flush ∷ events) values behind = kept-second events (last_of values ∷ []) behind

pub kept_in_first : (size n : ℕ) (events : List Event) (c : Content) → n < size → kept_values (with_events (first_events size events) c) n ≡ kept_after events n (kept_values c n)
kept_in_first size n events c small = kept_after-append c.history (first_events size events) n (get_or c.base n [] ∷ []) ∙ kept-first size n events (kept_values c n) small

pub kept_in_second : (size n : ℕ) (events : List Event) (c : Content) → size ≤ n → kept_values (with_events (second_events size events) c) (n - size) ≡ kept_after events n (kept_values c (n - size))
kept_in_second size n events c behind =
    kept_after-append c.history (second_events size events) (n - size) (get_or c.base (n - size) [] ∷ []) ∙ kept-second size n events (kept_values c (n - size)) behind
