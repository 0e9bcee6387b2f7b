-- Steps that place nothing but what others place, or what is to come.
use Rattle.std.proofs.Common.{ℕ, ◌+◌, ◌*◌, ◌<◌, ◌≤◌, List, [], ◌∷◌, ◌++◌, length, get_or, take, All, Contains, sym, subst, arith}
use Rattle.std.proofs.lemmas.List.Elements.{All-append, All-cons, All-contains, All-contains_itself, All-head, All-nil, All-tail, All-weaker, Contains-append_left, Contains-append_right, Contains-get_or}
use Rattle.aes_core.specs.Schedule.{AreBytes}
use Rattle.block_traits.specs.Content.{Content}
use Rattle.eli_base.specs.Keying.{Keying}
use Rattle.range_keys.specs.Ring.{IsKeying}
use Rattle.sealing.specs.Sectors.{units}
use Rattle.readings.specs.Writings.{PutUnit, Writing, Put, Raw, IsWriting}
use Rattle.readings.specs.Steps.{Step, Flush}
use Rattle.readings.specs.Survivors.{AreSteps, placed}
use Rattle.readings.specs.Writes.{AreStepsBelow, IsNumberedBelow, data_steps}
use Rattle.readings.proofs.Survivors.{placed-append}
use Rattle.readings.proofs.Writes.{AreStepsBelow-write}
use Rattle.queue_readings.specs.Tasks.{Task, Work, Reads, Writes, Flushes, steps_of}
use Rattle.queue_readings.specs.Play.{IsOpen, IsOpenTask, StoodThere, pending}
use Rattle.queue_readings.proofs.Puts.{length-placed, unit_placed}

-- each of these is one of those
abbrev pub AreAmong : {X : Type 0} → List X → List X → Type 0
AreAmong those these = All (Contains those) these

pub among_front : {X : Type 0} (xs ys : List X) → AreAmong (xs ++ ys) xs
among_front xs ys = All-weaker (Contains xs) (Contains (xs ++ ys)) (Contains-append_left xs ys) xs (All-contains_itself xs)

pub among_behind : {X : Type 0} (xs ys : List X) → AreAmong (xs ++ ys) ys
among_behind xs ys = All-weaker (Contains ys) (Contains (xs ++ ys)) (Contains-append_right xs ys) ys (All-contains_itself ys)

pub among_then : {X : Type 0} (xs ys zs : List X) → AreAmong ys xs → AreAmong zs ys → AreAmong zs xs
among_then xs ys zs a b = All-weaker (Contains ys) (Contains zs) (λ x h. All-contains (Contains zs) ys x b h) xs a

-- what holds of each of those holds of these
all_among : {X : Type 0} (P : X → Type 0) (those these : List X) → All P those → AreAmong those these → All P these
all_among P those these all in_those = All-weaker (Contains those) P (λ x h. All-contains P those x all h) these in_those

-- ---- steps that fit

pub fits_among : (next : ℕ) (steps new : List Step) → AreAmong (placed steps) (placed new) → AreStepsBelow next steps → AreStepsBelow next new
fits_among next steps new in_steps are =
    let there = λ (p : PutUnit) (h : Contains (placed new) (Put p)). All-contains (Contains (placed steps)) (placed new) (Put p) in_steps h in
    record {
      fit = record {
        each = all_among IsWriting (placed steps) (placed new) are.fit.each in_steps;
        numbered = λ p q hp hq s n. are.fit.numbered p q (there p hp) (there q hq) s n;
      };
      below = all_among (IsNumberedBelow next) (placed steps) (placed new) are.below in_steps;
    }

pub fit_front : (next : ℕ) (steps more : List Step) → AreStepsBelow next (steps ++ more) → AreSteps steps
fit_front next steps more are =
    (fits_among next (steps ++ more) steps (subst (λ (l : List Writing). AreAmong l (placed steps)) (sym (placed-append steps more)) (among_front (placed steps) (placed more))) are).fit

-- ---- the steps of open writes

-- each unit that a task places is among these
abbrev pub PlacesAmong : Keying → List Writing → Task → Type 0
PlacesAmong k those t = AreAmong those (placed (steps_of k t.work))

pending-from : (k : Keying) (those : List Writing) (tasks : List Task) → All (PlacesAmong k those) tasks → AreAmong those (placed (pending k tasks))
pending-from k those [] all = All-nil (Contains those)
pending-from k those (t ∷ tasks) all =
    subst (AreAmong those) (sym (placed-append (steps_of k t.work) (pending k tasks)))
    (All-append (Contains those) (placed (steps_of k t.work)) (placed (pending k tasks)) (All-head (PlacesAmong k those) t tasks all) (pending-from k those tasks (All-tail (PlacesAmong k those) t tasks all)))

pending-to : (k : Keying) (those : List Writing) (tasks : List Task) → AreAmong those (placed (pending k tasks)) → All (PlacesAmong k those) tasks
pending-to k those [] all = All-nil (PlacesAmong k those)
pending-to k those (t ∷ tasks) all =
    let split : AreAmong those (placed (steps_of k t.work) ++ placed (pending k tasks)) = subst (AreAmong those) (placed-append (steps_of k t.work) (pending k tasks)) all in
    All-cons (PlacesAmong k those) t tasks
    (all_among (Contains those) (placed (steps_of k t.work) ++ placed (pending k tasks)) (placed (steps_of k t.work)) split (among_front (placed (steps_of k t.work)) (placed (pending k tasks))))
    (pending-to k those tasks (all_among (Contains those) (placed (steps_of k t.work) ++ placed (pending k tasks)) (placed (pending k tasks)) split (among_behind (placed (steps_of k t.work)) (placed (pending k tasks)))))

pub pending-each : (k : Keying) (tasks : List Task) → All (PlacesAmong k (placed (pending k tasks))) tasks
pending-each k tasks = pending-to k (placed (pending k tasks)) tasks (All-contains_itself (placed (pending k tasks)))

-- steps, and then those of the tasks, place what is among these
pub both_among : (those : List Writing) (steps more : List Step) → AreAmong those (placed steps) → AreAmong those (placed more) → AreAmong those (placed (steps ++ more))
both_among those steps more a b = subst (AreAmong those) (sym (placed-append steps more)) (All-append (Contains those) (placed steps) (placed more) a b)

pub front_among : (steps more : List Step) → AreAmong (placed (steps ++ more)) (placed steps)
front_among steps more = subst (λ (l : List Writing). AreAmong l (placed steps)) (sym (placed-append steps more)) (among_front (placed steps) (placed more))

pub behind_among : (steps more : List Step) → AreAmong (placed (steps ++ more)) (placed more)
behind_among steps more = subst (λ (l : List Writing). AreAmong l (placed more)) (sym (placed-append steps more)) (among_behind (placed steps) (placed more))

-- the tasks may change to others that place the same
pub fits_other : (k : Keying) (next : ℕ) (steps more : List Step) (tasks new : List Task) → AreStepsBelow next (steps ++ pending k tasks) → AreAmong (placed (pending k tasks)) (placed more)
    → All (PlacesAmong k (placed (pending k tasks))) new → AreStepsBelow next ((steps ++ more) ++ pending k new)
fits_other k next steps more tasks new are more_in new_in =
    let those : List Writing = placed (steps ++ pending k tasks) in
    let open_in = behind_among steps (pending k tasks) in
    fits_among next (steps ++ pending k tasks) ((steps ++ more) ++ pending k new)
    (both_among those (steps ++ more) (pending k new)
    (both_among those steps more (front_among steps (pending k tasks)) (among_then (placed more) (placed (pending k tasks)) those more_in open_in))
    (among_then (placed (pending k new)) (placed (pending k tasks)) those (pending-from k (placed (pending k tasks)) new new_in) open_in)) are

-- a write may be added, with a number of its own
pub fits_write : (k : Keying) (next sector count : ℕ) (bytes : List ℕ) (steps : List Step) (tasks new : List Task) → AreStepsBelow next (steps ++ pending k tasks) → IsKeying k → AreBytes bytes → count * k.sectorsize ≤ length bytes
    → All (PlacesAmong k (placed (pending k tasks) ++ placed (data_steps next k sector count bytes))) new → AreStepsBelow (next + 1) (steps ++ pending k new)
fits_write k next sector count bytes steps tasks new are is small fits new_in =
    let own : List Step = data_steps next k sector count bytes in
    let those : List Writing = placed ((steps ++ pending k tasks) ++ own) in
    let all = AreStepsBelow-write next (steps ++ pending k tasks) k sector count bytes are is small fits in
    let front = among_then (placed steps) (placed (steps ++ pending k tasks)) those (front_among steps (pending k tasks)) (front_among (steps ++ pending k tasks) own) in
    let open_in = among_then (placed (pending k tasks)) (placed (steps ++ pending k tasks)) those (behind_among steps (pending k tasks)) (front_among (steps ++ pending k tasks) own) in
    let known = All-append (Contains those) (placed (pending k tasks)) (placed own) open_in (behind_among (steps ++ pending k tasks) own) in
    fits_among (next + 1) ((steps ++ pending k tasks) ++ own) (steps ++ pending k new)
    (both_among those steps (pending k new) front
    (among_then (placed (pending k new)) (placed (pending k tasks) ++ placed own) those (pending-from k (placed (pending k tasks) ++ placed own) new new_in) known)) all

-- ---- what stays known of the tasks as steps are done

stood_later : (steps more : List Step) (w : Writing) → StoodThere steps w → StoodThere (steps ++ more) w
stood_later steps more w h = record {
  is = h.is;
  is_in = λ p e. subst (λ (l : List Writing). Contains l (Put p)) (sym (placed-append steps more)) (Contains-append_left (placed steps) (placed more) (Put p) (h.is_in p e));
}

pub open_later : (k : Keying) (c : Content) (steps more : List Step) (work : Work) (done : ℕ) → IsOpen k c steps work done → IsOpen k c (steps ++ more) work done
open_later k c steps more (Reads sector count ws) done h = (h.0, h.1, h.2, All-weaker (StoodThere steps) (StoodThere (steps ++ more)) (stood_later steps more) ws h.3)
open_later k c steps more (Writes number sector count bytes) done h =
    (h.0, h.1, All-weaker (Contains steps) (Contains (steps ++ more)) (Contains-append_left steps more) (take done (data_steps number k sector count bytes)) h.2)
open_later k c steps more Flushes done h = tt

pub tasks_later : (k : Keying) (c : Content) (steps more : List Step) (tasks : List Task) → All (IsOpenTask k c steps) tasks → All (IsOpenTask k c (steps ++ more)) tasks
tasks_later k c steps more tasks all = All-weaker (IsOpenTask k c steps) (IsOpenTask k c (steps ++ more)) (λ t h. open_later k c steps more t.work t.done h) tasks all

-- ---- a unit of a write

pub unit_among : (k : Keying) (number sector count : ℕ) (bytes : List ℕ) (done : ℕ) → done < count * units k
    → AreAmong (placed (data_steps number k sector count bytes)) (placed (get_or (data_steps number k sector count bytes) done Flush ∷ []))
unit_among k number sector count bytes done lt =
    let all : List Writing = placed (data_steps number k sector count bytes) in
    let long = length-placed number k sector count bytes in
    subst (λ (s : Step). AreAmong all (placed (s ∷ []))) (sym (unit_placed number k sector count bytes done lt))
    (All-cons (Contains all) (get_or all done (Raw [])) [] (Contains-get_or all done (Raw []) (omega arith)) (All-nil (Contains all)))
