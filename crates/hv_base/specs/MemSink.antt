-- A sink over memory: which writes fail, and what the others take.
use Rattle.std.specs.Prelude.{ℕ, ◌-◌, min, List, [], ◌++◌, length, take, ◌||◌, ◌==◌, if◌then◌else◌}
use Rattle.hv_base.specs.declared.sink.Push.{Push}
use Rattle.hv_base.specs.declared.sink.Push.TheVariants as push
use Rattle.hv_base.specs.Count.{next_count, is_failing}

-- the bytes held, how many it has room for in all, the numbers of the writes that fail, and the writes and the faults so far
pub record SinkState : Type 0 where
  pub held : List ℕ
  pub room : ℕ
  pub failing : List ℕ
  pub calls : ℕ
  pub faults : ℕ

-- a sink that was never written to
abbrev pub empty_with : ℕ → List ℕ → SinkState
empty_with room failing = record { held = []; room = room; failing = failing; calls = 0; faults = 0 }

-- as many bytes as the piece has and as there is room left for
abbrev pub taken_len : SinkState → ℕ → ℕ
taken_len s len = min len (s.room - length s.held)

-- what a write of a piece of this length answers: a fault where no room is left or the write is one of those that fail, and else the bytes that it took
abbrev pub push_of : SinkState → ℕ → Push
push_of s len = if (taken_len s len == 0) || is_failing s.failing (next_count s.calls) then push.Failed else push.Took (taken_len s len)

-- the sink after a write of this piece that answered this: the call is counted, a fault too, and only bytes that were taken are added
abbrev pub after_push : SinkState → Push → List ℕ → SinkState
after_push s (push.Took n) piece = record s { held = s.held ++ take n piece; calls = next_count s.calls }
after_push s push.Failed piece = record s { calls = next_count s.calls; faults = next_count s.faults }
