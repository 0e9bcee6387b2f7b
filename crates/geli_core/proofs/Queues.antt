-- Queues whose requests stand in others, by their tags.
use Rattle.std.proofs.Common.{◌≡◌, ◌∙◌, ℕ, ◌==◌, nat_lt, Bool, true, false, cond, List, [], ◌∷◌, map, Option, Some, None, refl, sym, ap, subst}
use Rattle.std.specs.Option.{option_map}
use Rattle.std.proofs.lemmas.Bool.{eqb-false, eqb-true, ne_eqb}
use Rattle.command_rows.specs.Vocabulary.{Keying, Request, exchanged, put_in, request_with, without}
use Rattle.geli_core.specs.Vocabulary.{Task, request_of, task_with}

-- ---- tags

-- what two tests of three tags say of the third
same_as : (a b c : ℕ) → (a == b) ≡ true → (a == c) ≡ (b == c)
same_as a b c is = ap (λ (n : ℕ). n == c) (eqb-true a b is)

apart_from : (a b c : ℕ) → (a == b) ≡ false → (a == c) ≡ true → (b == c) ≡ false
apart_from a b c unlike is = ne_eqb b c (λ same. eqb-false a b unlike (eqb-true a c is ∙ sym same))

-- ---- the request with a tag

-- the request with a tag is that of the task
map_step : (k : Keying) (tag : ℕ) (t : Task) (tasks : List Task) (b : Bool) → request_with tag (map (request_of k) tasks) ≡ option_map (request_of k) (task_with tag tasks)
    → cond b (Some (request_of k t)) (request_with tag (map (request_of k) tasks)) ≡ option_map (request_of k) (cond b (Some t) (task_with tag tasks))
map_step k tag t tasks true more = refl
map_step k tag t tasks false more = more

pub request_with-map : (k : Keying) (tag : ℕ) (tasks : List Task) → request_with tag (map (request_of k) tasks) ≡ option_map (request_of k) (task_with tag tasks)
request_with-map k tag [] = refl
request_with-map k tag (t ∷ tasks) = map_step k tag t tasks (t.tag == tag) (request_with-map k tag tasks)

tag_step : (tag : ℕ) (x : Request) (queue : List Request) (r : Request) (b : Bool) → (x.tag == tag) ≡ b → (request_with tag queue ≡ Some r → (r.tag == tag) ≡ true)
    → cond b (Some x) (request_with tag queue) ≡ Some r → (r.tag == tag) ≡ true
tag_step tag x queue r true is more h = let same : x ≡ r = cc h in ap (λ (y : Request). y.tag == tag) (sym same) ∙ is
tag_step tag x queue r false is more h = more h

pub tag_of_request : (tag : ℕ) (queue : List Request) (r : Request) → request_with tag queue ≡ Some r → (r.tag == tag) ≡ true
tag_of_request tag [] r h = absurd (let none : ⊥ = cc h in none)
tag_of_request tag (x ∷ queue) r h = tag_step tag x queue r (x.tag == tag) refl (tag_of_request tag queue r) h

-- the request with a tag in a queue with one request more, under a tag that was free
put_swap : (new r : Request) (there : Option Request) (here mine : Bool) → (here ≡ true → mine ≡ true → ⊥) → cond here (Some r) (cond mine (Some new) there) ≡ cond mine (Some new) (cond here (Some r) there)
put_swap new r there true true unlike = absurd (unlike refl refl)
put_swap new r there true false unlike = refl
put_swap new r there false mine unlike = refl

put_step : (new r : Request) (queue : List Request) (tag : ℕ) (less same : Bool) → (r.tag == new.tag) ≡ same
    → (request_with new.tag queue ≡ None → request_with tag (put_in new queue) ≡ cond (new.tag == tag) (Some new) (request_with tag queue)) → cond same (Some r) (request_with new.tag queue) ≡ None
    → request_with tag (cond less (new ∷ r ∷ queue) (r ∷ put_in new queue)) ≡ cond (new.tag == tag) (Some new) (request_with tag (r ∷ queue))
put_step new r queue tag less true is more h = absurd (let none : ⊥ = cc h in none)
put_step new r queue tag true false is more h = refl
put_step new r queue tag false false is more h =
    ap (λ (o : Option Request). cond (r.tag == tag) (Some r) o) (more h)
    ∙ put_swap new r (request_with tag queue) (r.tag == tag) (new.tag == tag) (λ at own. (eqb-false r.tag new.tag is) (eqb-true r.tag tag at ∙ sym (eqb-true new.tag tag own)))

request_with-put_in : (new : Request) (queue : List Request) (tag : ℕ) → request_with new.tag queue ≡ None → request_with tag (put_in new queue) ≡ cond (new.tag == tag) (Some new) (request_with tag queue)
request_with-put_in new [] tag free = refl
request_with-put_in new (r ∷ queue) tag free = put_step new r queue tag (nat_lt new.tag r.tag) (r.tag == new.tag) refl (request_with-put_in new queue tag) free

-- the request with a tag in a queue where one request takes the place of the one that has its tag
exchange_here : (new r : Request) (there : Option Request) (b : Bool) → cond b (Some new) there ≡ cond b (option_map (λ (x : Request). new) (cond b (Some r) there)) (cond b (Some r) there)
exchange_here new r there true = refl
exchange_here new r there false = refl

exchange_there : (new r : Request) (there more : Option Request) (here mine : Bool) → (here ≡ true → mine ≡ false) → more ≡ cond mine (option_map (λ (x : Request). new) there) there
    → cond here (Some r) more ≡ cond mine (option_map (λ (x : Request). new) (cond here (Some r) there)) (cond here (Some r) there)
exchange_there new r there more true mine unlike h = ap (λ (b : Bool). cond b (Some new) (Some r)) (sym (unlike refl))
exchange_there new r there more false mine unlike h = h

exchange_step : (new r : Request) (queue : List Request) (tag : ℕ) (same : Bool) → (r.tag == new.tag) ≡ same
    → request_with tag (exchanged new queue) ≡ cond (new.tag == tag) (option_map (λ (x : Request). new) (request_with tag queue)) (request_with tag queue)
    → request_with tag (cond same (new ∷ queue) (r ∷ exchanged new queue)) ≡ cond (new.tag == tag) (option_map (λ (x : Request). new) (request_with tag (r ∷ queue))) (request_with tag (r ∷ queue))
exchange_step new r queue tag true is more =
    exchange_here new r (request_with tag queue) (new.tag == tag)
    ∙ ap (λ (b : Bool). cond (new.tag == tag) (option_map (λ (x : Request). new) (cond b (Some r) (request_with tag queue))) (cond b (Some r) (request_with tag queue))) (sym (same_as r.tag new.tag tag is))
exchange_step new r queue tag false is more = exchange_there new r (request_with tag queue) (request_with tag (exchanged new queue)) (r.tag == tag) (new.tag == tag) (apart_from r.tag new.tag tag is) more

request_with-exchanged : (new : Request) (queue : List Request) (tag : ℕ) → request_with tag (exchanged new queue) ≡ cond (new.tag == tag) (option_map (λ (x : Request). new) (request_with tag queue)) (request_with tag queue)
request_with-exchanged new [] tag = elim (new.tag == tag) as (λ b. None ≡ cond b (option_map (λ (x : Request). new) None) None) [ true ↦ refl | false ↦ refl ]
request_with-exchanged new (r ∷ queue) tag = exchange_step new r queue tag (r.tag == new.tag) refl (request_with-exchanged new queue tag)

-- the request with a tag in a queue without one that has another tag
without_step : (named : ℕ) (r : Request) (queue : List Request) (tag : ℕ) (same : Bool) → (r.tag == named) ≡ same → (named == tag) ≡ false → request_with tag (without named queue) ≡ request_with tag queue
    → request_with tag (cond same queue (r ∷ without named queue)) ≡ cond (r.tag == tag) (Some r) (request_with tag queue)
without_step named r queue tag true is unlike more = ap (λ (b : Bool). cond b (Some r) (request_with tag queue)) (sym (same_as r.tag named tag is ∙ unlike))
without_step named r queue tag false is unlike more = ap (λ (o : Option Request). cond (r.tag == tag) (Some r) o) more

request_with-without : (named : ℕ) (queue : List Request) (tag : ℕ) → (named == tag) ≡ false → request_with tag (without named queue) ≡ request_with tag queue
request_with-without named [] tag unlike = refl
request_with-without named (r ∷ queue) tag unlike = without_step named r queue tag (r.tag == named) refl unlike (request_with-without named queue tag unlike)

-- the request with a tag in a queue without any that has it, if there was none
none_step : (named : ℕ) (r : Request) (queue : List Request) (tag : ℕ) (same here : Bool) → (r.tag == tag) ≡ here → (request_with tag queue ≡ None → request_with tag (without named queue) ≡ None) → cond here (Some r) (request_with tag queue) ≡ None
    → request_with tag (cond same queue (r ∷ without named queue)) ≡ None
none_step named r queue tag same true is more h = absurd (let none : ⊥ = cc h in none)
none_step named r queue tag true false is more h = h
none_step named r queue tag false false is more h = ap (λ (b : Bool). cond b (Some r) (request_with tag (without named queue))) is ∙ more h

none_without : (named : ℕ) (queue : List Request) (tag : ℕ) → request_with tag queue ≡ None → request_with tag (without named queue) ≡ None
none_without named [] tag h = h
none_without named (r ∷ queue) tag h = none_step named r queue tag (r.tag == named) (r.tag == tag) refl (none_without named queue tag) h

-- ---- unlike two requests with one tag

abbrev pub AreApart : List Request → Type 0
AreApart [] = Unit {0}
AreApart (r ∷ queue) = (request_with r.tag queue ≡ None) × AreApart queue

apart_put_step : (new r : Request) (queue : List Request) (less same : Bool) → (r.tag == new.tag) ≡ same → cond same (Some r) (request_with new.tag queue) ≡ None → AreApart (r ∷ queue) → (request_with new.tag queue ≡ None → AreApart (put_in new queue))
    → AreApart (cond less (new ∷ r ∷ queue) (r ∷ put_in new queue))
apart_put_step new r queue less true is free apart more = absurd (let none : ⊥ = cc free in none)
apart_put_step new r queue true false is free apart more = (ap (λ (b : Bool). cond b (Some r) (request_with new.tag queue)) is ∙ free, apart)
apart_put_step new r queue false false is free apart more = (
  request_with-put_in new queue r.tag free ∙ ap (λ (b : Bool). cond b (Some new) (request_with r.tag queue)) (ne_eqb new.tag r.tag (λ same. eqb-false r.tag new.tag is (sym same))) ∙ apart.0,
  more free,
)

pub apart_put_in : (new : Request) (queue : List Request) → request_with new.tag queue ≡ None → AreApart queue → AreApart (put_in new queue)
apart_put_in new [] free apart = (refl, tt)
apart_put_in new (r ∷ queue) free apart = apart_put_step new r queue (nat_lt new.tag r.tag) (r.tag == new.tag) refl free apart (λ none. apart_put_in new queue none apart.1)

none_exchanged : (new : Request) (there : Option Request) (b : Bool) → there ≡ None → cond b (option_map (λ (x : Request). new) there) there ≡ None
none_exchanged new there true h = ap (option_map (λ (x : Request). new)) h
none_exchanged new there false h = h

apart_exchange_step : (new r : Request) (queue : List Request) (same : Bool) → (r.tag == new.tag) ≡ same → AreApart (r ∷ queue) → AreApart (exchanged new queue) → AreApart (cond same (new ∷ queue) (r ∷ exchanged new queue))
apart_exchange_step new r queue true is apart more = (subst (λ (n : ℕ). request_with n queue ≡ None) (eqb-true r.tag new.tag is) apart.0, apart.1)
apart_exchange_step new r queue false is apart more = (request_with-exchanged new queue r.tag ∙ none_exchanged new (request_with r.tag queue) (new.tag == r.tag) apart.0, more)

pub apart_exchanged : (new : Request) (queue : List Request) → AreApart queue → AreApart (exchanged new queue)
apart_exchanged new [] apart = tt
apart_exchanged new (r ∷ queue) apart = apart_exchange_step new r queue (r.tag == new.tag) refl apart (apart_exchanged new queue apart.1)

apart_without_step : (named : ℕ) (r : Request) (queue : List Request) (same : Bool) → AreApart (r ∷ queue) → AreApart (without named queue) → AreApart (cond same queue (r ∷ without named queue))
apart_without_step named r queue true apart more = apart.1
apart_without_step named r queue false apart more = (none_without named queue r.tag apart.0, more)

pub apart_without : (named : ℕ) (queue : List Request) → AreApart queue → AreApart (without named queue)
apart_without named [] apart = tt
apart_without named (r ∷ queue) apart = apart_without_step named r queue (r.tag == named) apart (apart_without named queue apart.1)

-- no request has the tag of one that was taken out
gone_step : (named : ℕ) (r : Request) (queue : List Request) (same : Bool) → (r.tag == named) ≡ same → AreApart (r ∷ queue) → request_with named (without named queue) ≡ None → request_with named (cond same queue (r ∷ without named queue)) ≡ None
gone_step named r queue true is apart more = subst (λ (n : ℕ). request_with n queue ≡ None) (eqb-true r.tag named is) apart.0
gone_step named r queue false is apart more = ap (λ (b : Bool). cond b (Some r) (request_with named (without named queue))) is ∙ more

pub gone : (named : ℕ) (queue : List Request) → AreApart queue → request_with named (without named queue) ≡ None
gone named [] apart = refl
gone named (r ∷ queue) apart = gone_step named r queue (r.tag == named) refl apart (gone named queue apart.1)

-- ---- the requests of one queue are among those of another

pub IsWithin : List Request → List Request → Type 0
IsWithin few queue = (tag : ℕ) (r : Request) → request_with tag few ≡ Some r → request_with tag queue ≡ Some r

pub within_none : (queue : List Request) → IsWithin [] queue
unfolding IsWithin
within_none queue tag r h = absurd (let none : ⊥ = cc h in none)

pub found_within : (few queue : List Request) (tag : ℕ) (r : Request) → IsWithin few queue → request_with tag few ≡ Some r → request_with tag queue ≡ Some r
unfolding IsWithin
found_within few queue tag r within h = within tag r h

none_or : {X : Type 0} (few all : Option X) → ((x : X) → few ≡ Some x → all ≡ Some x) → all ≡ None → few ≡ None
none_or None all within none = refl
none_or (Some x) all within none = absurd (let found = within x refl in let none : ⊥ = cc (found, none) in none)

pub free_within : (few queue : List Request) (tag : ℕ) → IsWithin few queue → request_with tag queue ≡ None → request_with tag few ≡ None
unfolding IsWithin
free_within few queue tag within none = none_or (request_with tag few) (request_with tag queue) (within tag) none

put_both : (new : Request) (few all : Option Request) (mine : Bool) (r : Request) → (few ≡ Some r → all ≡ Some r) → cond mine (Some new) few ≡ Some r → cond mine (Some new) all ≡ Some r
put_both new few all true r within h = h
put_both new few all false r within h = within h

pub within_put_in : (new : Request) (few queue : List Request) → request_with new.tag queue ≡ None → IsWithin few queue → IsWithin (put_in new few) (put_in new queue)
unfolding IsWithin
within_put_in new few queue free within tag r h =
    request_with-put_in new queue tag free
    ∙ put_both new (request_with tag few) (request_with tag queue) (new.tag == tag) r (within tag r) (sym (request_with-put_in new few tag (free_within few queue new.tag within free)) ∙ h)

exchange_both : (new : Request) (few all : Option Request) (mine : Bool) (r : Request) → ((x : Request) → few ≡ Some x → all ≡ Some x) → cond mine (option_map (λ (x : Request). new) few) few ≡ Some r → cond mine (option_map (λ (x : Request). new) all) all ≡ Some r
exchange_both new None all true r within h = absurd (let none : ⊥ = cc h in none)
exchange_both new (Some x) all true r within h = ap (option_map (λ (x : Request). new)) (within x refl) ∙ h
exchange_both new few all false r within h = within r h

pub within_exchanged : (new : Request) (few queue : List Request) → IsWithin few queue → IsWithin (exchanged new few) (exchanged new queue)
unfolding IsWithin
within_exchanged new few queue within tag r h =
    request_with-exchanged new queue tag
    ∙ exchange_both new (request_with tag few) (request_with tag queue) (new.tag == tag) r (within tag) (sym (request_with-exchanged new few tag) ∙ h)

-- if none of the few has the tag, they stay as they are
other_tag : (named tag : ℕ) (few : List Request) (r : Request) → request_with named few ≡ None → request_with tag few ≡ Some r → (named == tag) ≡ false
other_tag named tag few r none h = ne_eqb named tag (λ same. (let is = subst (λ (n : ℕ). request_with n few ≡ None) same none in let none : ⊥ = cc (is, h) in none))

pub within_exchanged_other : (new : Request) (few queue : List Request) → request_with new.tag few ≡ None → IsWithin few queue → IsWithin few (exchanged new queue)
unfolding IsWithin
within_exchanged_other new few queue none within tag r h =
    request_with-exchanged new queue tag
    ∙ ap (λ (b : Bool). cond b (option_map (λ (x : Request). new) (request_with tag queue)) (request_with tag queue)) (other_tag new.tag tag few r none h) ∙ within tag r h

pub within_without_other : (named : ℕ) (few queue : List Request) → request_with named few ≡ None → IsWithin few queue → IsWithin few (without named queue)
unfolding IsWithin
within_without_other named few queue none within tag r h = request_with-without named queue tag (other_tag named tag few r none h) ∙ within tag r h

pub within_without : (named : ℕ) (few queue : List Request) → AreApart few → IsWithin few queue → IsWithin (without named few) (without named queue)
unfolding IsWithin
within_without named few queue apart within tag r h =
    let unlike = other_tag named tag (without named few) r (gone named few apart) h in
    request_with-without named queue tag unlike ∙ within tag r (sym (request_with-without named few tag unlike) ∙ h)
