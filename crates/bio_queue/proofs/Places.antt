-- The request with a tag, by its place in the queue.
use Rattle.std.proofs.Common.{◌≡◌, ℕ, suc, ◌+◌, ◌==◌, Bool, true, false, cond, List, [], ◌∷◌, get_or, Option, Some, None, refl, sym, ap, ◌∙◌, subst, arith}
use Rattle.std.specs.List.{remove}
use Rattle.std.specs.Option.{option_map}
use Rattle.std.proofs.Math.ListN.{set}
use Rattle.std.proofs.lemmas.Bool.{eqb-true}
use Rattle.bio_queue.specs.Kept.{request_place}
use Rattle.bio_queue.specs.Requests.{Request, exchanged, request_with, without}

behind : (o : Option ℕ) (place : ℕ) → option_map (λ n. n + 1) o ≡ Some place → (p : ℕ) × (o ≡ Some p) × (place ≡ suc p)
behind None place h = absurd cc
behind (Some p) place h = let same : p + 1 ≡ place = cc in (p, refl, omega arith)

not_behind : (o : Option ℕ) → option_map (λ n. n + 1) o ≡ None → o ≡ None
not_behind None h = refl
not_behind (Some p) h = absurd cc

none_step : (tag : ℕ) (x : Request) (queue : List Request) (b : Bool) → (request_place tag queue ≡ None → request_with tag queue ≡ None)
    → cond b (Some 0) (option_map (λ n. n + 1) (request_place tag queue)) ≡ None → cond b (Some x) (request_with tag queue) ≡ None
none_step tag x queue true more h = absurd cc
none_step tag x queue false more h = more (not_behind (request_place tag queue) h)

-- no place, no request
pub none_there : (tag : ℕ) (queue : List Request) → request_place tag queue ≡ None → request_with tag queue ≡ None
none_there tag [] h = refl
none_there tag (x ∷ queue) h = none_step tag x queue (x.tag == tag) (none_there tag queue) h

-- what is at the place of a tag: the request with it; and what becomes of the queue if this one is exchanged or taken
-- out
pub record IsAt (tag : ℕ) (queue : List Request) (place : ℕ) (r : Request) : Type 0 where
  pub found : request_with tag queue ≡ Some r
  pub has : r.tag ≡ tag
  pub exchange : (new : Request) → new.tag ≡ tag → exchanged new queue ≡ set queue place new
  pub take_out : without tag queue ≡ remove queue place

at_step : (tag : ℕ) (x : Request) (queue : List Request) (place : ℕ) (r : Request) (b : Bool) → (x.tag == tag) ≡ b
    → ((p : ℕ) → request_place tag queue ≡ Some p → r ≡ get_or queue p r → IsAt tag queue p r)
    → cond b (Some 0) (option_map (λ n. n + 1) (request_place tag queue)) ≡ Some place → r ≡ get_or (x ∷ queue) place r → IsAt tag (x ∷ queue) place r
at_step tag x queue place r true same more h is =
    let first : 0 ≡ place = cc in
    let here : r ≡ x = subst (λ (n : ℕ). r ≡ get_or (x ∷ queue) n r) (sym first) is in
    let test : x.tag ≡ tag = eqb-true x.tag tag same in
    record {
      found = ap (λ (c : Bool). cond c (Some x) (request_with tag queue)) same ∙ ap Some (sym here);
      has = ap (λ (q : Request). q.tag) here ∙ test;
      exchange = λ new is_new.
          ap (λ (c : Bool). cond c (new ∷ queue) (x ∷ exchanged new queue)) (ap (λ (t : ℕ). x.tag == t) is_new ∙ same)
          ∙ ap (λ (n : ℕ). set (x ∷ queue) n new) first;
      take_out = ap (λ (c : Bool). cond c queue (x ∷ without tag queue)) same ∙ ap (remove (x ∷ queue)) first;
    }
at_step tag x queue place r false same more h is =
    let next = behind (request_place tag queue) place h in
    let at : place ≡ suc next.0 = next.2 in
    let here : r ≡ get_or queue next.0 r = subst (λ (n : ℕ). r ≡ get_or (x ∷ queue) n r) at is in
    let rest = more next.0 next.1 here in
    record {
      found = ap (λ (c : Bool). cond c (Some x) (request_with tag queue)) same ∙ rest.found;
      has = rest.has;
      exchange = λ new is_new.
          ap (λ (c : Bool). cond c (new ∷ queue) (x ∷ exchanged new queue)) (ap (λ (t : ℕ). x.tag == t) is_new ∙ same)
          ∙ ap (λ (q : List Request). x ∷ q) (rest.exchange new is_new)
          ∙ ap (λ (n : ℕ). set (x ∷ queue) n new) (sym at);
      take_out =
          ap (λ (c : Bool). cond c queue (x ∷ without tag queue)) same
          ∙ ap (λ (q : List Request). x ∷ q) rest.take_out
          ∙ ap (remove (x ∷ queue)) (sym at);
    }

pub is_at : (tag : ℕ) (queue : List Request) (place : ℕ) (r : Request) → request_place tag queue ≡ Some place → r ≡ get_or queue place r → IsAt tag queue place r
is_at tag [] place r h is = absurd cc
is_at tag (x ∷ queue) place r h is = at_step tag x queue place r (x.tag == tag) refl (λ p hp ip. is_at tag queue p r hp ip) h is
