-- A queue of tasks is one of requests.
use Rattle.std.proofs.Common.{◌≡◌, ℕ, ◌==◌, nat_lt, Bool, true, false, cond, List, [], ◌∷◌, map, Some, None, IsSome, All, refl, ap, ◌∙◌}
use Rattle.std.proofs.lemmas.Bool.{eqb-true}
use Rattle.std.proofs.lemmas.List.Elements.{All-cons, All-head, All-tail}
use Rattle.eli_base.specs.Keying.{Keying}
use Rattle.bio_queue.specs.Requests.{Request, exchanged, put_in, request_with, without}
use Rattle.queue_readings.specs.Tasks.{Task, exchange_task, put_task, request_of, task_with, without_task}

-- the task of a request
pub record IsTaskOf (k : Keying) (tag : ℕ) (tasks : List Task) (r : Request) (P : Task → Type 0) : Type 0 where
  pub task : Task
  pub found : task_with tag tasks ≡ Some task
  pub has : task.tag ≡ tag
  pub shown : request_of k task ≡ r
  pub is : P task

found_step : (k : Keying) (tag : ℕ) (x : Task) (tasks : List Task) (r : Request) (P : Task → Type 0) (b : Bool) → (x.tag == tag) ≡ b → All P (x ∷ tasks) → (request_with tag (map (request_of k) tasks) ≡ Some r → IsTaskOf k tag tasks r P)
    → cond b (Some (request_of k x)) (request_with tag (map (request_of k) tasks)) ≡ Some r → IsTaskOf k tag (x ∷ tasks) r P
found_step k tag x tasks r P true same all more h = record {
  task = x;
  found = ap (λ (c : Bool). cond c (Some x) (task_with tag tasks)) same;
  has = eqb-true x.tag tag same;
  shown = cc;
  is = All-head P x tasks all;
}
found_step k tag x tasks r P false same all more h =
    let rest = more h in
    record {
      task = rest.task;
      found = ap (λ (c : Bool). cond c (Some x) (task_with tag tasks)) same ∙ rest.found;
      has = rest.has;
      shown = rest.shown;
      is = rest.is;
    }

pub task_found : (k : Keying) (tag : ℕ) (tasks : List Task) (r : Request) (P : Task → Type 0) → All P tasks → request_with tag (map (request_of k) tasks) ≡ Some r → IsTaskOf k tag tasks r P
task_found k tag [] r P all h = absurd (let none : ⊥ = cc in none)
task_found k tag (x ∷ tasks) r P all h = found_step k tag x tasks r P (x.tag == tag) refl all (task_found k tag tasks r P (All-tail P x tasks all)) h

none_step : (k : Keying) (tag : ℕ) (x : Task) (tasks : List Task) (b : Bool) → (request_with tag (map (request_of k) tasks) ≡ None → task_with tag tasks ≡ None)
    → cond b (Some (request_of k x)) (request_with tag (map (request_of k) tasks)) ≡ None → cond b (Some x) (task_with tag tasks) ≡ None
none_step k tag x tasks true more h = absurd (let none : ⊥ = cc in none)
none_step k tag x tasks false more h = more h

pub no_task : (k : Keying) (tag : ℕ) (tasks : List Task) → request_with tag (map (request_of k) tasks) ≡ None → task_with tag tasks ≡ None
no_task k tag [] h = refl
no_task k tag (x ∷ tasks) h = none_step k tag x tasks (x.tag == tag) (no_task k tag tasks) h

some_step : (k : Keying) (tag : ℕ) (x : Task) (tasks : List Task) (b : Bool) → (IsSome (request_with tag (map (request_of k) tasks)) → IsSome (task_with tag tasks))
    → IsSome (cond b (Some (request_of k x)) (request_with tag (map (request_of k) tasks))) → IsSome (cond b (Some x) (task_with tag tasks))
some_step k tag x tasks true more h = refl
some_step k tag x tasks false more h = more h

pub IsSome-task_with : (k : Keying) (tag : ℕ) (tasks : List Task) → IsSome (request_with tag (map (request_of k) tasks)) → IsSome (task_with tag tasks)
IsSome-task_with k tag [] h = h
IsSome-task_with k tag (x ∷ tasks) h = some_step k tag x tasks (x.tag == tag) (IsSome-task_with k tag tasks) h

-- ---- what becomes of the queue

put_step : (k : Keying) (new x : Task) (tasks : List Task) (b : Bool) → put_in (request_of k new) (map (request_of k) tasks) ≡ map (request_of k) (put_task new tasks)
    → cond b (request_of k new ∷ request_of k x ∷ map (request_of k) tasks) (request_of k x ∷ put_in (request_of k new) (map (request_of k) tasks)) ≡ map (request_of k) (cond b (new ∷ x ∷ tasks) (x ∷ put_task new tasks))
put_step k new x tasks true more = refl
put_step k new x tasks false more = ap (λ (q : List Request). request_of k x ∷ q) more

pub put_shown : (k : Keying) (new : Task) (tasks : List Task) → put_in (request_of k new) (map (request_of k) tasks) ≡ map (request_of k) (put_task new tasks)
put_shown k new [] = refl
put_shown k new (x ∷ tasks) = put_step k new x tasks (nat_lt new.tag x.tag) (put_shown k new tasks)

exchange_step : (k : Keying) (new x : Task) (tasks : List Task) (b : Bool) → exchanged (request_of k new) (map (request_of k) tasks) ≡ map (request_of k) (exchange_task new tasks)
    → cond b (request_of k new ∷ map (request_of k) tasks) (request_of k x ∷ exchanged (request_of k new) (map (request_of k) tasks)) ≡ map (request_of k) (cond b (new ∷ tasks) (x ∷ exchange_task new tasks))
exchange_step k new x tasks true more = refl
exchange_step k new x tasks false more = ap (λ (q : List Request). request_of k x ∷ q) more

pub exchange_shown : (k : Keying) (new : Task) (tasks : List Task) → exchanged (request_of k new) (map (request_of k) tasks) ≡ map (request_of k) (exchange_task new tasks)
exchange_shown k new [] = refl
exchange_shown k new (x ∷ tasks) = exchange_step k new x tasks (x.tag == new.tag) (exchange_shown k new tasks)

without_step : (k : Keying) (tag : ℕ) (x : Task) (tasks : List Task) (b : Bool) → without tag (map (request_of k) tasks) ≡ map (request_of k) (without_task tag tasks)
    → cond b (map (request_of k) tasks) (request_of k x ∷ without tag (map (request_of k) tasks)) ≡ map (request_of k) (cond b tasks (x ∷ without_task tag tasks))
without_step k tag x tasks true more = refl
without_step k tag x tasks false more = ap (λ (q : List Request). request_of k x ∷ q) more

pub without_shown : (k : Keying) (tag : ℕ) (tasks : List Task) → without tag (map (request_of k) tasks) ≡ map (request_of k) (without_task tag tasks)
without_shown k tag [] = refl
without_shown k tag (x ∷ tasks) = without_step k tag x tasks (x.tag == tag) (without_shown k tag tasks)

-- ---- what holds of each task

all_put_step : (P : Task → Type 0) (new x : Task) (tasks : List Task) (b : Bool) → P new → All P (x ∷ tasks) → All P (put_task new tasks) → All P (cond b (new ∷ x ∷ tasks) (x ∷ put_task new tasks))
all_put_step P new x tasks true p all more = All-cons P new (x ∷ tasks) p all
all_put_step P new x tasks false p all more = All-cons P x (put_task new tasks) (All-head P x tasks all) more

pub all_put : (P : Task → Type 0) (new : Task) (tasks : List Task) → P new → All P tasks → All P (put_task new tasks)
all_put P new [] p all = All-cons P new [] p all
all_put P new (x ∷ tasks) p all = all_put_step P new x tasks (nat_lt new.tag x.tag) p all (all_put P new tasks p (All-tail P x tasks all))

all_exchange_step : (P : Task → Type 0) (new x : Task) (tasks : List Task) (b : Bool) → P new → All P (x ∷ tasks) → All P (exchange_task new tasks) → All P (cond b (new ∷ tasks) (x ∷ exchange_task new tasks))
all_exchange_step P new x tasks true p all more = All-cons P new tasks p (All-tail P x tasks all)
all_exchange_step P new x tasks false p all more = All-cons P x (exchange_task new tasks) (All-head P x tasks all) more

pub all_exchange : (P : Task → Type 0) (new : Task) (tasks : List Task) → P new → All P tasks → All P (exchange_task new tasks)
all_exchange P new [] p all = all
all_exchange P new (x ∷ tasks) p all = all_exchange_step P new x tasks (x.tag == new.tag) p all (all_exchange P new tasks p (All-tail P x tasks all))

all_without_step : (P : Task → Type 0) (tag : ℕ) (x : Task) (tasks : List Task) (b : Bool) → All P (x ∷ tasks) → All P (without_task tag tasks) → All P (cond b tasks (x ∷ without_task tag tasks))
all_without_step P tag x tasks true all more = All-tail P x tasks all
all_without_step P tag x tasks false all more = All-cons P x (without_task tag tasks) (All-head P x tasks all) more

pub all_without : (P : Task → Type 0) (tag : ℕ) (tasks : List Task) → All P tasks → All P (without_task tag tasks)
all_without P tag [] all = all
all_without P tag (x ∷ tasks) all = all_without_step P tag x tasks (x.tag == tag) all (all_without P tag tasks (All-tail P x tasks all))
