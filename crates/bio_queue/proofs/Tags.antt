-- Tags that ascend, and the least that isn't in use.
use Rattle.std.proofs.Common.{inl, inr, ◌≡◌, ◌≢◌, ℕ, suc, ◌+◌, ◌-◌, ◌<◌, ◌≤◌, ◌==◌, nat_lt, Bool, true, false, cond, List, [], ◌∷◌, length, Option, Some, None, IsSome, refl, sym, ap, ◌∙◌, subst, arith}
use Rattle.std.specs.List.{insert}
use Rattle.std.proofs.lemmas.Bool.{cases_eq, eqb-true, eqb-false, eq-eqb, ne_eqb, lt-ltb, le-ltb}
use Rattle.bio_queue.specs.Kept.{gap_from}
use Rattle.bio_queue.specs.Requests.{AscendsFrom, IsLeastFree, Request, exchanged, put_in, request_with, without}

-- ---- ascending tags

ascends-weaker : (m n : ℕ) (queue : List Request) → m ≤ n → AscendsFrom n queue → AscendsFrom m queue
ascends-weaker m n [] le h = tt
ascends-weaker m n (x ∷ queue) le h = let low = h.0 in (omega arith, h.1, h.2)

-- at most as many as there are tags
pub few_from : (n : ℕ) (queue : List Request) → n ≤ 32 → AscendsFrom n queue → n + length queue ≤ 32
few_from n [] le h = omega arith
few_from n (x ∷ queue) le h =
    let low = h.0 in
    let top = h.1 in
    let rest = few_from (x.tag + 1) queue (omega arith) h.2 in
    omega arith

ascends_out : (tag : ℕ) (n : ℕ) (x : Request) (queue : List Request) (b : Bool) → AscendsFrom n (x ∷ queue) → AscendsFrom (x.tag + 1) (without tag queue) → AscendsFrom n (cond b queue (x ∷ without tag queue))
ascends_out tag n x queue true h rest = let low = h.0 in ascends-weaker n (x.tag + 1) queue (omega arith) h.2
ascends_out tag n x queue false h rest = (h.0, h.1, rest)

pub ascends-without : (tag n : ℕ) (queue : List Request) → AscendsFrom n queue → AscendsFrom n (without tag queue)
ascends-without tag n [] h = tt
ascends-without tag n (x ∷ queue) h = ascends_out tag n x queue (x.tag == tag) h (ascends-without tag (x.tag + 1) queue h.2)

ascends_new : (new : Request) (n : ℕ) (x : Request) (queue : List Request) (b : Bool) → (x.tag == new.tag) ≡ b → AscendsFrom n (x ∷ queue) → AscendsFrom (x.tag + 1) (exchanged new queue)
    → AscendsFrom n (cond b (new ∷ queue) (x ∷ exchanged new queue))
ascends_new new n x queue true same h rest =
    let e = eqb-true x.tag new.tag same in
    (subst (λ (t : ℕ). n ≤ t) e h.0, subst (λ (t : ℕ). t < 32) e h.1, subst (λ (t : ℕ). AscendsFrom (t + 1) queue) e h.2)
ascends_new new n x queue false same h rest = (h.0, h.1, rest)

pub ascends-exchanged : (new : Request) (n : ℕ) (queue : List Request) → AscendsFrom n queue → AscendsFrom n (exchanged new queue)
ascends-exchanged new n [] h = tt
ascends-exchanged new n (x ∷ queue) h = ascends_new new n x queue (x.tag == new.tag) refl h (ascends-exchanged new (x.tag + 1) queue h.2)

-- ---- the first gap

-- what the first gap of tags from n on is
pub record IsGap (n : ℕ) (queue : List Request) (gap : ℕ) : Type 0 where
  pub from : n ≤ gap
  pub to : gap ≤ n + length queue
  pub free : request_with gap queue ≡ None
  pub least : (t : ℕ) → n ≤ t → t < gap → IsSome (request_with t queue)
  pub placed : (new : Request) → new.tag ≡ gap → put_in new queue ≡ insert queue (gap - n) new
  pub ascends : (new : Request) → new.tag ≡ gap → gap < 32 → AscendsFrom n (put_in new queue)

-- no request has a tag below those of the queue
none_below : (t n : ℕ) (queue : List Request) → t < n → AscendsFrom n queue → request_with t queue ≡ None
none_below t n [] lt h = refl
none_below t n (x ∷ queue) lt h =
    let low = h.0 in
    let other : (x.tag == t) ≡ false = ne_eqb x.tag t (λ e. absurd (let none : ⊥ = omega arith in none)) in
    ap (λ (c : Bool). cond c (Some x) (request_with t queue)) other ∙ none_below t (x.tag + 1) queue (omega arith) h.2

gap_step : (n : ℕ) (x : Request) (queue : List Request) (b : Bool) → (x.tag == n) ≡ b → AscendsFrom n (x ∷ queue) → IsGap (n + 1) queue (gap_from (n + 1) queue)
    → IsGap n (x ∷ queue) (cond b (gap_from (n + 1) queue) n)
gap_step n x queue true same h rest =
    let gap : ℕ = gap_from (n + 1) queue in
    let e : x.tag ≡ n = eqb-true x.tag n same in
    let from = rest.from in
    let to = rest.to in
    let other : (x.tag == gap) ≡ false = ne_eqb x.tag gap (λ q. absurd (let none : ⊥ = omega arith in none)) in
    record {
      from = omega arith;
      to = omega arith;
      free = ap (λ (c : Bool). cond c (Some x) (request_with gap queue)) other ∙ rest.free;
      least = λ t low lt. elim (cases_eq x.tag t) [
        | inl q ↦ subst (λ (o : Option Request). IsSome o) (sym (ap (λ (c : Bool). cond c (Some x) (request_with t queue)) (eq-eqb x.tag t q))) refl
        | inr ne ↦ subst (λ (o : Option Request). IsSome o) (sym (ap (λ (c : Bool). cond c (Some x) (request_with t queue)) (ne_eqb x.tag t ne)))
            (rest.least t (let above : n ≢ t = λ q. ne (e ∙ q) in omega arith) lt)
      ];
      placed = λ new is.
          let behind : nat_lt new.tag x.tag ≡ false = le-ltb new.tag x.tag (omega (arith, is)) in
          let next : gap - n ≡ suc (gap - (n + 1)) = omega arith in
          ap (λ (c : Bool). cond c (new ∷ x ∷ queue) (x ∷ put_in new queue)) behind
          ∙ ap (λ (q : List Request). x ∷ q) (rest.placed new is)
          ∙ ap (λ (p : ℕ). insert (x ∷ queue) p new) (sym next);
      ascends = λ new is room.
          let behind : nat_lt new.tag x.tag ≡ false = le-ltb new.tag x.tag (omega (arith, is)) in
          subst (AscendsFrom n) (sym (ap (λ (c : Bool). cond c (new ∷ x ∷ queue) (x ∷ put_in new queue)) behind))
          (h.0, h.1, subst (λ (m : ℕ). AscendsFrom (m + 1) (put_in new queue)) (sym e) (rest.ascends new is room));
    }
gap_step n x queue false same h rest =
    let low = h.0 in
    let ne = eqb-false x.tag n same in
    let above : n < x.tag = let other : x.tag ≢ n = ne in omega arith in
    record {
      from = omega arith;
      to = omega arith;
      free = ap (λ (c : Bool). cond c (Some x) (request_with n queue)) same ∙ none_below n (x.tag + 1) queue (omega arith) h.2;
      least = λ t lo lt. absurd (let none : ⊥ = omega arith in none);
      placed = λ new is.
          let before : nat_lt new.tag x.tag ≡ true = lt-ltb new.tag x.tag (omega (arith, is)) in
          let first : n - n ≡ 0 = omega arith in
          ap (λ (c : Bool). cond c (new ∷ x ∷ queue) (x ∷ put_in new queue)) before ∙ ap (λ (p : ℕ). insert (x ∷ queue) p new) (sym first);
      ascends = λ new is room.
          let before : nat_lt new.tag x.tag ≡ true = lt-ltb new.tag x.tag (omega (arith, is)) in
          subst (AscendsFrom n) (sym (ap (λ (c : Bool). cond c (new ∷ x ∷ queue) (x ∷ put_in new queue)) before))
          (omega (arith, is), omega (arith, is), (omega (arith, is), h.1, h.2));
    }

pub gap_is : (n : ℕ) (queue : List Request) → AscendsFrom n queue → IsGap n queue (gap_from n queue)
gap_is n [] h = record {
  from = omega arith;
  to = omega arith;
  free = refl;
  least = λ t low lt. absurd (let none : ⊥ = omega arith in none);
  placed = λ new is. let first : n - n ≡ 0 = omega arith in ap (λ (p : ℕ). insert [] p new) (sym first);
  ascends = λ new is room. (omega (arith, is), omega (arith, is), tt);
}
gap_is n (x ∷ queue) h = gap_step n x queue (x.tag == n) refl h (gap_is (n + 1) queue (let low = h.0 in ascends-weaker (n + 1) (x.tag + 1) queue (omega arith) h.2))

-- the first gap is the least tag that isn't in use
pub least_free : (queue : List Request) → AscendsFrom 0 queue → length queue < 32 → IsLeastFree (gap_from 0 queue) queue
least_free queue h few =
    let gap = gap_is 0 queue h in
    let to = gap.to in
    record { room = omega arith; free = gap.free; least = λ t lt. gap.least t (omega arith) lt }
