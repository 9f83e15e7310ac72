-- The states of a VCPU and the moves between them; that an instruction makes it wait and an interrupt wakes it is no move.
use Rattle.std.specs.Prelude.{Bool, true, false, Result, Ok, Err}
use Rattle.hv_kinds.specs.declared.state.State.{State}
use Rattle.hv_kinds.specs.declared.state.State.TheVariants.{Unknown, Reset, Ready, Running, Paused, Halted}
use Rattle.hv_vcpu.specs.declared.moves.Move.{Move}
use Rattle.hv_vcpu.specs.declared.moves.Move.TheVariants as move
use Rattle.hv_vcpu.specs.declared.moves.WrongState.{WrongState}

-- The state that a move leads to from each state in which it may be made; it is refused in every other.
abbrev pub led : Move → State → Result State WrongState
led (move.Add birth index plan) Unknown = Ok Reset
led move.Kick Reset = Ok Ready
led move.Resume (Paused waits) = Ok Ready
led (move.Dispatch hart) Ready = Ok (Running hart)
led move.Preempt (Running hart) = Ok Ready
led move.Pause Ready = Ok (Paused false)
led move.Pause (Running hart) = Ok (Paused false)
led move.Halt Ready = Ok Halted
led move.Halt (Running hart) = Ok Halted
led move.Reset Ready = Ok Reset
led move.Reset (Running hart) = Ok Reset
led move.Reset (Paused waits) = Ok Reset
led move.Reset Halted = Ok Reset
led move.Drop Reset = Ok Unknown
led move.Drop Ready = Ok Unknown
led move.Drop (Running hart) = Ok Unknown
led move.Drop (Paused waits) = Ok Unknown
led move.Drop Halted = Ok Unknown
led move state = Err (record { 0 = state })

-- Whether a hart runs the VCPU.
abbrev pub is_running : State → Bool
is_running (Running hart) = true
is_running _ = false

-- Whether it is paused until an interrupt comes.
abbrev pub is_waiting : State → Bool
is_waiting (Paused waits) = waits
is_waiting _ = false
