-- What a source, a sink and entropy in memory are, and what their calls make of them.
use Rattle.std.specs.Prelude.{ℕ, ◌-◌, ◌==◌, ◌&&◌, ◌||◌, not, nat_lt, min, Bool, List, ◌++◌, length, take, drop, if◌then◌else◌}
use Rattle.crash_disk.specs.Calls.{CallsState, called, next_fails, piece}
use Rattle.crash_disk.specs.Count.{one_more}

-- the bytes that are left, the most that each call gives, the calls that fail, how often it has failed, how often a
-- call was refused, and how often one met the end
pub record MemSourceState : Type 0 where
  pub left : List ℕ
  pub cuts : List ℕ
  pub calls : CallsState
  pub faults : ℕ
  pub refused : ℕ
  pub ends : ℕ

-- how many bytes the next call gives if there is so much room
abbrev pub next_given : ℕ → MemSourceState → ℕ
next_given room source = min (piece source.cuts source.calls room) (length source.left)

-- after the next call
abbrev pub after_take : ℕ → MemSourceState → MemSourceState
after_take room source = record source {
  left = if next_fails source.calls then source.left else drop (next_given room source) source.left;
  calls = called source.calls;
  faults = if next_fails source.calls then one_more source.faults else source.faults;
  refused = if next_fails source.calls then one_more source.refused else source.refused;
  ends = if not (next_fails source.calls) && next_given room source == 0 then one_more source.ends else source.ends;
}

-- the bytes that it took, how many it has room for, the most that each call takes, the calls that fail, how often it
-- has failed, how often a call was refused, and how often it was given nothing
pub record MemSinkState : Type 0 where
  pub bytes : List ℕ
  pub room : ℕ
  pub cuts : List ℕ
  pub calls : CallsState
  pub faults : ℕ
  pub refused : ℕ
  pub idle : ℕ

-- how many bytes of a piece of this length the next call takes
abbrev pub taken : ℕ → MemSinkState → ℕ
taken size sink = min (piece sink.cuts sink.calls size) (sink.room - length sink.bytes)

-- the next call fails: it is listed, or the piece isn't empty and there is no room
abbrev pub give_fails : ℕ → MemSinkState → Bool
give_fails size sink = next_fails sink.calls || (length sink.bytes == sink.room && not (size == 0))

-- after the next call
abbrev pub after_give : List ℕ → MemSinkState → MemSinkState
after_give from sink = record sink {
  bytes = if give_fails (length from) sink then sink.bytes else sink.bytes ++ take (taken (length from) sink) from;
  calls = called sink.calls;
  faults = if give_fails (length from) sink then one_more sink.faults else sink.faults;
  refused = if give_fails (length from) sink then one_more sink.refused else sink.refused;
  idle = if length from == 0 then one_more sink.idle else sink.idle;
}

-- the bytes that are left, how often it has failed, and how often it was called
pub record MemEntropyState : Type 0 where
  pub left : List ℕ
  pub faults : ℕ
  pub calls : ℕ

-- a call for so many bytes fails: it asks for more than is left
abbrev pub fill_fails : ℕ → MemEntropyState → Bool
fill_fails wanted entropy = nat_lt (length entropy.left) wanted

-- after a call
abbrev pub after_fill : ℕ → MemEntropyState → MemEntropyState
after_fill wanted entropy = record {
  left = if fill_fails wanted entropy then entropy.left else drop wanted entropy.left;
  faults = if fill_fails wanted entropy then one_more entropy.faults else entropy.faults;
  calls = one_more entropy.calls;
}
