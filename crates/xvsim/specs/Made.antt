-- What the parts of a call make.
use Rattle.std.specs.Prelude.{◌≡◌, List, map}
use Rattle.hv_emu.specs.Device.{DevState}
use Rattle.hv_model.specs.declared.opening.Opening.{Opening}
use Rattle.xvsim.specs.Run.{IsFinished, IsStoppedAt, IsReportOf}
use Rattle.xvsim.specs.declared.run.Made.{Made}
use Rattle.xvsim.specs.declared.run.Made.TheVariants as made

-- a run from this opening, with these parts on its shelf: finished, with its report, or stopped
abbrev pub IsMadeFrom : {E : Type 0} → (state : E → DevState) → (parts : List E) → Opening → Made E → Type 0
IsMadeFrom state parts o (made.Finished run report) =
    (run.opening ≡ o) × (run.shelf.items ≡ parts) × IsFinished state (map state parts) run × IsReportOf (map state parts) run report
IsMadeFrom state parts o (made.Stopped run stamp) =
    (run.opening ≡ o) × (run.shelf.items ≡ parts) × IsStoppedAt state (map state parts) stamp run
