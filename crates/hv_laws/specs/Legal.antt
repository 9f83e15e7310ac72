-- The board that a state of the abstract machine has: its queues, its VCPUs and its harts.
use Rattle.hv_event.specs.declared.event.ActorId.TheVariants.{Hart}
use Rattle.hv_event.specs.declared.event.CellId.TheVariants.{Queue, Vcpu}
use Rattle.hv_machine.specs.Machine.{State}
use Rattle.hv_model.specs.Cell.{Component, Actor}
use Rattle.hv_model.specs.Origin.{Origin}
use Rattle.hv_model.specs.Rules.{machine}
use Rattle.hv_laws.specs.Board.{Board}

abbrev pub board_of : (O : Origin) → State (machine O) → Board
board_of O s = record {
  queues = λ g. (s (Component (Queue g))).value;
  vcpus = λ v. (s (Component (Vcpu v))).value;
  harts = λ h. (s (Actor (Hart h))).value.program;
}
