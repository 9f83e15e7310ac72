use Rattle.std.proofs.Common.{◌≡◌, map, take}
use Rattle.hv_rounds.specs.declared.terminal.Terminal.{Terminal}
use Rattle.hv_rounds.proofs.whole.transcripts.Given as goal

abbrev pub invariant-loop-terminal : goal.invariant-loop-terminal
invariant-loop-terminal l = l.shown ≡ map (λ (t : Terminal). t.shown) (take l.terminal-index l.terminals)
