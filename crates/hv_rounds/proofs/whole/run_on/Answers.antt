use Rattle.hv_emu.specs.Device.{DevState}
use Rattle.hv_model.specs.Origin.{origin_of}
use Rattle.hv_model.specs.Legal.{begun}
use Rattle.hv_rounds.specs.declared.whole.Outcome.{Outcome}
use Rattle.hv_rounds.specs.Close.{Closes}
use Rattle.hv_rounds.specs.Outcome.{IsOutcome}
use Rattle.hv_rounds.proofs.Wholes.{counts-fit, begun-goes}
use Rattle.hv_rounds.proofs.Ends.{ok-map, rounds-logs, rounds-outcome}
use Rattle.std.proofs.Common.{List, [], ◌++◌}
use Rattle.hv_rounds.proofs.whole.run_on.Goals as goal

pub begin_together-requires : goal.begin_together-requires
begin_together-requires c = counts-fit (origin_of c.args.opening.now []) c.args.boot.items c.args.board (c.requires.booted []).part

pub close-requires : goal.close-requires
close-requires c =
    let O = origin_of c.args.opening.now [] in
    let boot = c.args.boot.items in
    let goes = begun-goes O boot c.args.board c.begin_together.new.self (c.requires.booted []).part c.begin_together.ensures in
    rounds-logs O boot c.in_ok-rounds.rounds.made.items c.run_rounds.new.board c.in_ok-rounds.rounds.spent (c.in_ok-rounds.ensures O (begun O boot) boot c.requires.turns goes)

pub returns : goal.returns
returns c =
    let O = origin_of c.args.opening.now in
    let boot = c.args.boot.items in
    let made = c.in_ok-rounds.rounds.made.items in
    let goes = λ (ds : List DevState). begun-goes (O ds) boot c.args.board c.begin_together.new.self (c.requires.booted ds).part c.begin_together.ensures in
    let ends = λ (ds : List DevState). c.in_ok-rounds.ensures (O ds) (begun (O ds) boot) boot c.requires.turns (goes ds) in
    ok-map (λ (o : Outcome). Closes c.run_rounds.new.board (boot ++ made) c.in_ok-rounds.rounds.spent o) (λ (o : Outcome). (ds : List DevState) → IsOutcome (O ds) o o.spent) c.close.result
    (λ o k ds. rounds-outcome (O ds) boot made c.args.board c.run_rounds.new.board c.in_ok-rounds.rounds.spent o c.requires.turns (c.requires.booted ds) (ends ds) k) c.close.ensures
