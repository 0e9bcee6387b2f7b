-- What each verb is, in one table, so that a new verb can't be forgotten.
use Rattle.std.specs.Prelude.{Bool, IfSome, IsTrue, List, None, Option, Some, false, is_some, true, ℕ, ◌≤◌}
use Rattle.command_words.specs.declared.commands.Command.{Command}
use Rattle.command_words.specs.declared.commands.Command.TheVariants as commands
use Rattle.command_words.specs.declared.commands.JobWords.{JobWords}
use Rattle.command_words.specs.declared.commands.JobWords.TheVariants as jobs
use Rattle.command_words.specs.declared.spans.Span.{Span}
use Rattle.command_words.specs.declared.verbs.Needs.{Needs}
use Rattle.command_words.specs.declared.verbs.Needs.TheVariants.{AnIdle, AnAttached, ASuspended, NoIdle, NoSuspended, AnyOne}
use Rattle.command_words.specs.declared.verbs.Traits.{Traits}
use Rattle.command_words.specs.Spans.{AreSectors, IsBoundedJob, IsOldSize, IsWithin, JobIsWithin, KeyIsWithin, bytes_at}
use Rattle.word_values.specs.Values.{is_hexadecimal}

-- a verb that needs such a drawer, and of which nothing else holds
abbrev pub plain : Needs → Traits
plain wanted =
    record {
      drawer = wanted;
      lacks_memory = false;
      writes_data = false;
      needs_tags = false;
      stores_last = false;
      lets_go = false;
      changes_requests = false;
      is_request = false;
      takes_out = false;
      only_reads = false;
    }

-- a verb that may be refused for want of memory
abbrev pub allocating : Needs → Traits
allocating wanted = record (plain wanted) { lacks_memory = true }

-- a verb that leaves its drawer idle
abbrev pub letting_go : Needs → Traits
letting_go wanted = record (plain wanted) { lets_go = true }

-- a verb that only reads its image if it is the only command of a run
abbrev pub only_reading : Needs → Traits
only_reading wanted = record (plain wanted) { only_reads = true }

-- a request on an attached drawer, which stays attached whatever the reply
abbrev pub requesting : Traits
requesting = record (plain AnAttached) { is_request = true }

-- a request that a read-only provider refuses
abbrev pub writing : Traits
writing = record requesting { writes_data = true }

-- a request that changes the requests that are open on its drawer
abbrev pub queueing : Traits
queueing = record requesting { changes_requests = true }

-- whether a read-only provider refuses the request
abbrev pub job_writes : JobWords → Bool
job_writes (jobs.Read sector count) = false
job_writes (jobs.Write sector hex) = true
job_writes jobs.Flush = false

-- `submit` of a request
abbrev pub submitting : JobWords → Traits
submitting job = record queueing { lacks_memory = true; writes_data = job_writes job }

-- what is known about a command from its verb: the provider that it names, if it names one; what the verb is; that its
-- other spans lie in a line of so many bytes; and that its numbers lie within their bounds, and its digits are
-- hexadecimal
pub record Profile : Type 1 where
  pub prov : Option Span
  pub traits : Traits
  pub places : ℕ → Type 0
  pub bounds : List ℕ → Type 0

-- the command has no span but that of its provider
abbrev pub NoPlaces : ℕ → Type 0
NoPlaces len = Unit {0}

-- nothing bounds the numbers of the command, or it has none
abbrev pub NoBounds : List ℕ → Type 0
NoBounds line = Unit {0}

-- a command that names a provider
abbrev pub naming : Span → Traits → (ℕ → Type 0) → (List ℕ → Type 0) → Profile
naming prov traits places bounds = record { prov = Some prov; traits = traits; places = places; bounds = bounds }

-- each command by its verb
abbrev pub profile_of : Command → Profile
profile_of commands.List = record { prov = None; traits = allocating AnyOne; places = NoPlaces; bounds = NoBounds }
profile_of (commands.Dump prov) = naming prov (only_reading AnyOne) NoPlaces NoBounds
profile_of (commands.Init prov cipher auth keylen sectorsize iterations autoresize fresh backup) =
    naming prov (record (allocating AnIdle) { stores_last = is_some backup }) (λ len. KeyIsWithin len fresh × IfSome backup (IsWithin len)) NoBounds
profile_of (commands.Attach prov only_check readonly slot old) = naming prov (record (allocating AnIdle) { only_reads = only_check }) (λ len. KeyIsWithin len old) NoBounds
profile_of (commands.Detach prov) = naming prov (letting_go NoIdle) NoPlaces NoBounds
profile_of (commands.Read prov sector count) = naming prov requesting NoPlaces (λ line. AreSectors 256 sector count)
profile_of (commands.Write prov sector hex) =
    naming prov writing (λ len. IsWithin len hex) (λ line. (sector ≤ 9223372036854775807) × IsTrue (is_hexadecimal (bytes_at line hex)))
profile_of (commands.Flush prov) = naming prov requesting NoPlaces NoBounds
profile_of (commands.Setkey prov iterations slot old fresh) = naming prov (allocating NoSuspended) (λ len. KeyIsWithin len old × KeyIsWithin len fresh) NoBounds
profile_of (commands.Delkey prov all force slot) = naming prov (plain NoSuspended) NoPlaces NoBounds
profile_of (commands.Kill prov) = naming prov (letting_go AnyOne) NoPlaces NoBounds
profile_of (commands.Backup prov file) = naming prov (record (only_reading AnyOne) { lacks_memory = true }) (λ len. IsWithin len file) NoBounds
profile_of (commands.Restore file prov force) = naming prov (allocating AnIdle) (λ len. IsWithin len file) NoBounds
profile_of (commands.Resize prov oldsize) = naming prov (plain AnIdle) NoPlaces (λ line. IsOldSize oldsize)
profile_of (commands.Fill prov seed start count) = naming prov writing NoPlaces (λ line. AreSectors 9223372036854775807 start count)
profile_of (commands.Sum prov start count) = naming prov requesting NoPlaces (λ line. AreSectors 9223372036854775807 start count)
profile_of (commands.Eject prov) = naming prov (record (plain AnyOne) { takes_out = true }) NoPlaces NoBounds
profile_of (commands.Submit prov job) = naming prov (submitting job) (λ len. JobIsWithin len job) (λ line. IsBoundedJob line job)
profile_of (commands.Step prov tag) = naming prov queueing NoPlaces (λ line. tag ≤ 31)
profile_of (commands.Reap prov tag) = naming prov queueing NoPlaces (λ line. tag ≤ 31)
profile_of (commands.Suspend prov) = naming prov (plain AnAttached) NoPlaces NoBounds
profile_of (commands.Resume prov old) = naming prov (allocating ASuspended) (λ len. KeyIsWithin len old) NoBounds
profile_of (commands.Verify prov file count restart) =
    naming prov (record (allocating AnAttached) { needs_tags = true }) (λ len. IsWithin len file) (λ line. (1 ≤ count) × (count ≤ 9223372036854775807))

-- what the verb of a command is
abbrev pub traits_of : Command → Traits
traits_of command = (profile_of command).traits

-- which drawer a command needs
abbrev pub needs : Command → Needs
needs command = (traits_of command).drawer
