-- Events that are logged one after another.
use Rattle.std.proofs.Common.{◌≡◌, ◌+◌, List, [], ◌∷◌, ◌++◌, length, take, refl, ap, ◌∙◌, sym, append_assoc, append-nil, arith, Option, Some, None, length-append}
use Rattle.std.proofs.Math.Seq.{take-append-add}
use Rattle.std.proofs.lemmas.List.{take-append-le}
use Rattle.block_traits.specs.declared.disk.Event.{Event}
use Rattle.block_traits.specs.Content.{Content, logged}
use Rattle.block_traits.specs.Disk.{DiskState, Logs, FailsIn, Continues}

-- events logged after others are all of them logged at once
pub logged-append : (events more : List Event) (told : Option Content) → logged more (logged events told) ≡ logged (events ++ more) told
logged-append events more None = refl
logged-append events more (Some c) = ap (λ (h : List Event). Some (record { base = c.base; history = h })) (append_assoc c.history events more)

pub logged-none : (told : Option Content) → logged [] told ≡ told
logged-none None = refl
logged-none (Some c) = ap (λ (h : List Event). Some (record { base = c.base; history = h })) (append-nil c.history)

-- nothing happens
pub Logs-nothing : (d : DiskState) → Logs [] d d
Logs-nothing d = record { content = sym (logged-none d.content); size = refl; shows = refl; faults = omega arith }

-- some events, and then more
pub Logs-then : (events more : List Event) {old middle new : DiskState} → Logs events old middle → Logs more middle new → Logs (events ++ more) old new
Logs-then events more {old} {middle} {new} a b = record {
  content = b.content ∙ ap (logged more) a.content ∙ logged-append events more old.content;
  size = b.size ∙ a.size;
  shows = b.shows ∙ a.shows;
  faults = omega (arith, a.faults, b.faults);
}

-- a part of these events is a part of them and more
pub FailsIn-more : (events more : List Event) {old new : DiskState} → FailsIn events old new → FailsIn (events ++ more) old new
FailsIn-more events more {old} {new} fails = record {
  count = fails.count;
  within = omega (arith, fails.within, length-append events more);
  logs = rw (take-append-le fails.count events more fails.within) fails.logs;
  rose = fails.rose;
}

-- after all of these events, a part of more
pub FailsIn-then : (events more : List Event) {old middle new : DiskState} → Logs events old middle → FailsIn more middle new → FailsIn (events ++ more) old new
FailsIn-then events more {old} {middle} {new} all fails = record {
  count = length events + fails.count;
  within = omega (arith, fails.within, length-append events more);
  logs = rw (take-append-add events more fails.count) (Logs-then events (take fails.count more) all fails.logs);
  rose = omega (arith, fails.rose, all.faults);
}

-- the first of these events alone, or none
pub FailsIn-first : (event : Event) (more : List Event) {old new : DiskState} → FailsIn (event ∷ []) old new → FailsIn (event ∷ more) old new
FailsIn-first event more fails = FailsIn-more (event ∷ []) more fails

-- the first of these events, and then a part of the others
pub FailsIn-next : (event : Event) (more : List Event) {old middle new : DiskState} → Logs (event ∷ []) old middle → FailsIn more middle new → FailsIn (event ∷ more) old new
FailsIn-next event more one fails = FailsIn-then (event ∷ []) more one fails

pub Continues-start : (events : List Event) (start : DiskState) → Continues events events start start
Continues-start events start = record { whole = λ new logs. logs; part = λ new fails. fails }

-- the last event was logged
pub Continues-end : (all : List Event) {middle start : DiskState} → Continues [] all middle start → Logs all start middle
Continues-end all {middle} continues = continues.whole middle (Logs-nothing middle)

-- some events, and then what is left
pub Continues-then : (events left all : List Event) {middle start next : DiskState} → Continues (events ++ left) all middle start → Logs events middle next → Continues left all next start
Continues-then events left all continues one = record {
  whole = λ new logs. continues.whole new (Logs-then events left one logs);
  part = λ new fails. continues.part new (FailsIn-then events left one fails);
}

pub FailsIn-part : (events left all : List Event) {middle start new : DiskState} → Continues (events ++ left) all middle start → FailsIn events middle new → FailsIn all start new
FailsIn-part events left all {middle} {start} {new} continues fails = continues.part new (FailsIn-more events left fails)

-- if nothing is logged the content stays
pub content-Logs : (old new : DiskState) → Logs [] old new → new.content ≡ old.content
content-Logs old new logs = logs.content ∙ logged-none old.content
