-- What a call comes to for the request at its place in the queue.
use Rattle.std.proofs.Common.{◌≡◌, ℕ, ◌-◌, ◌<◌, true, false, List, length, get_or, Option, Some, Result, Ok, Err, OnOk, OnErr, sym, ap, ◌∙◌, subst, arith}
use Rattle.std.specs.Prelude.{is_err}
use Rattle.std.specs.List.{insert, remove}
use Rattle.std.proofs.Math.ListN.{set}
use Rattle.std.proofs.lemmas.List.{set-get_or}
use Rattle.bio_queue.specs.Kept.{gap_from, request_place}
use Rattle.bio_queue.specs.Requests.{AscendsFrom, IsLeastFree, Request, exchanged, put_in, request_with, without}
use Rattle.bio_queue.proofs.Places.{is_at}
use Rattle.bio_queue.proofs.Tags.{ascends-exchanged, ascends-without, gap_is, least_free}

pub at_ok : {T E : Type 0} (r : Result T E) (P : Type 0) → is_err r ≡ false → OnOk r P → P
at_ok (Ok x) P h p = p
at_ok (Err e) P h p = absurd (let none : ⊥ = cc in none)

pub at_err : {T E : Type 0} (r : Result T E) (P : Type 0) → is_err r ≡ true → OnErr r P → P
at_err (Ok x) P h p = absurd (let none : ⊥ = cc in none)
at_err (Err e) P h p = p

-- the request that stands at the place which was found
pub record Stands (tag : ℕ) (items queue : List Request) (place : ℕ) (r : Request) : Type 0 where
  pub found : request_with tag queue ≡ Some r
  pub has : r.tag ≡ tag
  pub same : set items place r ≡ queue
  pub exchange : (new : Request) → new.tag ≡ tag → set items place new ≡ exchanged new queue
  pub take_out : remove items place ≡ without tag queue

set_same : (items : List Request) (place : ℕ) (r : Request) → r ≡ get_or items place r → set items place r ≡ items
set_same items place r is = ap (λ (x : Request). set items place x) is ∙ set-get_or items place r

pub stands : (tag : ℕ) (items queue front : List Request) (found : Option ℕ) (place : ℕ) (r : Request) → items ≡ queue → front ≡ items → found ≡ request_place tag front → found ≡ Some place → r ≡ get_or items place r
    → Stands tag items queue place r
stands tag items queue front found place r view value gives is there =
    let at = is_at tag items place r (ap (request_place tag) (sym value) ∙ sym gives ∙ is) there in
    record {
      found = ap (request_with tag) (sym view) ∙ at.found;
      has = at.has;
      same = set_same items place r there ∙ view;
      exchange = λ new tagged. sym (at.exchange new tagged) ∙ ap (exchanged new) view;
      take_out = sym at.take_out ∙ ap (without tag) view;
    }

pub one_request : (o : Option Request) (r s : Request) → o ≡ Some r → o ≡ Some s → r ≡ s
one_request o r s hr hs = let both : Some r ≡ Some s = sym hr ∙ hs in cc

-- the queue with a request exchanged, and without one, is in order
pub ordered_exchanged : (items queue : List Request) (tag place : ℕ) (r new : Request) → items ≡ queue → Stands tag items queue place r → new.tag ≡ tag → AscendsFrom 0 items → AscendsFrom 0 (set items place new)
ordered_exchanged items queue tag place r new view at tagged h =
    subst (AscendsFrom 0) (ap (exchanged new) view ∙ sym (at.exchange new tagged)) (ascends-exchanged new 0 items h)

pub ordered_without : (items left queue : List Request) (tag place : ℕ) (r : Request) → items ≡ queue → Stands tag items queue place r → left ≡ remove items place → AscendsFrom 0 items → AscendsFrom 0 left
ordered_without items left queue tag place r view at is h =
    subst (AscendsFrom 0) (ap (without tag) view ∙ sym at.take_out ∙ sym is) (ascends-without tag 0 items h)

-- the queue with one more
pub record PutsIn (items queue new : List Request) (place : ℕ) (request : Request) : Type 0 where
  pub free : IsLeastFree place queue
  pub queue_is : new ≡ put_in request queue
  pub ordered : AscendsFrom 0 new

pub puts_in : (items queue front new : List Request) (place : ℕ) (request : Request) → items ≡ queue → front ≡ items → place ≡ gap_from 0 front → request.tag ≡ place → length items < 32 → AscendsFrom 0 items
    → new ≡ insert items place request → PutsIn items queue new place request
puts_in items queue front new place request view value is tagged few h put =
    let gap_at : place ≡ gap_from 0 items = is ∙ ap (gap_from 0) value in
    let gap = gap_is 0 items h in
    let to = gap.to in
    let start : gap_from 0 items - 0 ≡ place = omega arith in
    let same : put_in request items ≡ new = gap.placed request (tagged ∙ gap_at) ∙ ap (λ (p : ℕ). insert items p request) start ∙ sym put in
    record {
      free = subst (λ (p : ℕ). IsLeastFree p queue) (sym gap_at) (subst (IsLeastFree (gap_from 0 items)) view (least_free items h few));
      queue_is = sym same ∙ ap (put_in request) view;
      ordered = subst (AscendsFrom 0) same (gap.ascends request (tagged ∙ gap_at) (omega arith));
    }
