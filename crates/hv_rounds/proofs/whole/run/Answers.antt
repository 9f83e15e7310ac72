use Rattle.std.proofs.Common.{ℕ, Option, Some, List, [], ◌++◌, sym, subst}
use Rattle.std.specs.Prelude.{IfOk}
use Rattle.hv_merge.specs.Merging.{AreLogs}
use Rattle.hv_model.specs.declared.entry.Entry.{Entry}
use Rattle.hv_emu.specs.Device.{DevState}
use Rattle.hv_model.specs.Origin.{origin_of}
use Rattle.hv_rounds.specs.declared.whole.Outcome.{Outcome}
use Rattle.hv_rounds.specs.Phase.{BootEnds}
use Rattle.hv_rounds.specs.Close.{logs_of, Closes}
use Rattle.hv_rounds.specs.Outcome.{IsOutcome}
use Rattle.hv_rounds.proofs.Ends.{ok-map, stopped-logs, boot-outcome}
use Rattle.hv_rounds.proofs.whole.run.Goals as goal

pub close-requires : goal.close-requires
close-requires c =
    let O = origin_of c.args.opening.now [] in
    let boot = c.in_ok-boot.boot.made.items in
    let Ends : Option ℕ → Type 0 = λ s. BootEnds O boot c.run_boot.new.board s in
    let Logs : List Entry → Type 0 = λ es. AreLogs (logs_of (boot ++ es)) in
    let ends = subst Ends c.in-Some.is (c.in_ok-boot.ensures O (c.in_ok-board.ensures [])) in
    subst Logs (sym c.new-none.ensures.items) (stopped-logs O boot c.run_boot.new.board c.in-Some.stamp ends)

pub run_on-requires-clause-booted : goal.run_on-requires-clause-booted
run_on-requires-clause-booted c = λ ds.
    let O = origin_of c.args.opening.now ds in
    let Ends : Option ℕ → Type 0 = λ s. BootEnds O c.in_ok-boot.boot.made.items c.run_boot.new.board s in
    let ends = subst Ends c.in-None.is (c.in_ok-boot.ensures O (c.in_ok-board.ensures ds)) in
    record { part = ends.0; ended = ends.1 }

pub returns-in-Some : goal.returns-in-Some
returns-in-Some c =
    let O = origin_of c.args.opening.now in
    let boot = c.in_ok-boot.boot.made.items in
    let Ends : List DevState → Option ℕ → Type 0 = λ ds s. BootEnds (O ds) boot c.run_boot.new.board s in
    let ends = λ (ds : List DevState). subst (Ends ds) c.in-Some.is (c.in_ok-boot.ensures (O ds) (c.in_ok-board.ensures ds)) in
    let Closed : Outcome → Type 0 = λ o. Closes c.run_boot.new.board (boot ++ []) (Some c.in-Some.stamp) o in
    let Made : List Entry → Type 0 = λ es. IfOk c.close.result (λ (o : Outcome). Closes c.run_boot.new.board (boot ++ es) (Some c.in-Some.stamp) o) in
    ok-map Closed (λ (o : Outcome). (ds : List DevState) → IsOutcome (O ds) o o.spent) c.close.result
    (λ o k ds. boot-outcome (O ds) boot c.run_boot.new.board c.in-Some.stamp o (ends ds) k)
    (subst Made c.new-none.ensures.items c.close.ensures)
