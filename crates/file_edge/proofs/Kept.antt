-- Known bytes that stay, and then are read, or more are written after them.
use Rattle.std.proofs.Common.{ℕ, List, Option, Some, None, Result, Ok, Err, refl, ◌∙◌}
use Rattle.std.specs.Io.KnownBytes.{Keeps, ReadConsumes, WriteAppends}

pub keeps_same : (known : Option (List ℕ)) → Keeps known known
keeps_same None = tt
keeps_same (Some bytes) = refl

pub keeps_then : (first second third : Option (List ℕ)) → Keeps first second → Keeps second third → Keeps first third
keeps_then None second third a b = tt
keeps_then (Some bytes) None third a b = absurd a
keeps_then (Some bytes) (Some same) None a b = absurd b
keeps_then (Some bytes) (Some same) (Some others) a b = b ∙ a

pub kept_read : {E : Type 0} (first second third : Option (List ℕ)) (result : Result ℕ E) (into : List ℕ) → Keeps first second → ReadConsumes second third result into → ReadConsumes first third result into
kept_read None second third (Ok count) into kept reads = (tt, reads.1)
kept_read None second third (Err error) into kept reads = tt
kept_read (Some bytes) None third result into kept reads = absurd kept
kept_read (Some bytes) (Some same) third result into kept reads = rw kept at reads

pub kept_write : {E : Type 0} (first second third : Option (List ℕ)) (result : Result ℕ E) (from : List ℕ) → Keeps first second → WriteAppends second third result from → WriteAppends first third result from
kept_write None second third (Ok count) from kept writes = tt
kept_write None second third (Err error) from kept writes = tt
kept_write (Some bytes) None third result from kept writes = absurd kept
kept_write (Some bytes) (Some same) third result from kept writes = rw kept at writes
