-- A run of a board with two harts: the orphan VCPU is kicked, dispatched, paused and left.
use Rattle.std.specs.Prelude.{ℕ, ◌==◌, nat_lt, if◌then◌else◌, false, None, Some, Ok, List, [], ◌∷◌}
use Rattle.hv_answer.specs.declared.reply.Reply.{Reply}
use Rattle.hv_answer.specs.declared.reply.Reply.TheVariants as reply
use Rattle.hv_event.specs.declared.event.ActorId.{ActorId}
use Rattle.hv_event.specs.declared.event.ActorId.TheVariants.{Hart, Terminal}
use Rattle.hv_kinds.specs.declared.state.State.TheVariants as state
use Rattle.hv_rules.specs.Carry.{Carry, nothing}
use Rattle.hv_rules.specs.Hart.{HartState}
use Rattle.hv_step.specs.declared.step.Step.{Step}
use Rattle.hv_step.specs.declared.step.Step.TheVariants as step
use Rattle.hv_vcpu.specs.Vcpu.{VcpuValue, unknown}
use Rattle.hv_laws.specs.Board.{Board, Made}

abbrev pub hart : (number : ℕ) → HartState
hart number = record {
  harts = 2;
  left = if nat_lt number 2 then 100 else 0;
  turns = 0;
  ticked = false;
  current = None;
  pending = None;
  owed = [];
}

abbrev pub orphan : VcpuValue
orphan = record unknown { state = state.Reset; plan = record { start = 0; priority = 3; slice = 8 } }

abbrev pub start : Board
start = record {
  queues = λ g. [];
  vcpus = λ v. if v == 0 then orphan else unknown;
  harts = hart;
}

abbrev pub made : ActorId → Step → Reply → Carry → Made
made by s r c = record { by = by; step = s; reply = r; carry = c }

abbrev pub kick : Made
kick =
    made
    (Terminal 0)
    (step.Kick (record { vcpu = 0; guest = None }))
    (reply.Kick (Ok tt))
    (record nothing { priority = Some 3 })

abbrev pub tick : (slot : ℕ) → Made
tick slot = made (Hart 0) (step.Tick (record { slot = slot })) (reply.Tick None) nothing

abbrev pub dispatch : Made
dispatch = made (Hart 0) (step.Dispatch (record { vcpu = 0 })) (reply.Dispatch (Ok 8)) nothing

abbrev pub pause : Made
pause = made (Terminal 0) (step.Pause (record { vcpu = 0; guest = None })) (reply.Pause (Ok tt)) nothing

abbrev pub leave : Made
leave = made (Hart 0) (step.Leave (record { vcpu = 0 })) (reply.Leave (state.Paused false)) nothing

abbrev pub running : List Made
running = kick ∷ tick 0 ∷ dispatch ∷ []

abbrev pub left : List Made
left = kick ∷ tick 0 ∷ dispatch ∷ pause ∷ tick 1 ∷ leave ∷ []
