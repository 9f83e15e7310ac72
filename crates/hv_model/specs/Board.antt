-- Logs that agree with the components' entries, merged, are a legal history.
use Rattle.std.specs.Prelude.{◌≡◌, ◌≤◌, List, map}
use Rattle.std.specs.List.{AllByRecursion}
use Rattle.hv_text.specs.declared.limits.TheConstants.{GREATEST_STAMP}
use Rattle.hv_machine.specs.Merging.{IsMerged, fold_at}
use Rattle.hv_machine.specs.Phases.{Began}
use Rattle.hv_model.specs.Origin.{Origin}
use Rattle.hv_model.specs.Cell.{Cell, is_actor, rank_of}
use Rattle.hv_model.specs.Entry.{Entry}
use Rattle.hv_model.specs.Terminal.{TerminalState, IsAtBootEnd}
use Rattle.hv_model.specs.Rules.{rules, machine}
use Rattle.hv_model.specs.Legal.{first, start, own_at_start, Legal}

-- Terminal 0 as its boot part left it.
abbrev pub terminal_booted : Origin → List Entry → TerminalState
terminal_booted O boot = (fold_at rules first (start O first) boot).value

-- A board is closed: the actors' logs and the components' entries agree, the boot script has ended, and the logs are merged.
pub record IsClosed (O : Origin) (logs entries : Cell → List Entry) (boot own all : List Entry) : Type 0 where
  pub began : Began (machine O) is_actor first (start O) logs entries boot own
  pub boot_ended : IsAtBootEnd (terminal_booted O boot)
  pub within : (terminal_booted O boot).session.own ≡ own_at_start O 0
  pub merged : IsMerged (machine O) rank_of logs all
  pub in_range : AllByRecursion (λ e. e.event.stamp ≤ GREATEST_STAMP) all

-- The merged list of a closed board is a legal history.
abbrev pub ClosedBoardIsLegal : Type 0
ClosedBoardIsLegal =
    (O : Origin) (logs entries : Cell → List Entry) (boot own all : List Entry)
    → IsClosed O logs entries boot own all → Legal O (map (λ e. e.event) all)
