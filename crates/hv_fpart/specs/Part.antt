-- The steps whose reply the files alone decide.
use Rattle.std.specs.Prelude.{◌≡◌, ◌<◌, length}
use Rattle.hv_files.specs.declared.refusal.FileRefusal.{FileRefusal}
use Rattle.hv_files.specs.declared.refusal.FileRefusal.TheVariants as file
use Rattle.hv_refusal.specs.declared.refusal.Refusal.{Refusal}
use Rattle.hv_refusal.specs.declared.refusal.Refusal.TheVariants as refusal
use Rattle.hv_step.specs.declared.step.Step.{Step}
use Rattle.hv_step.specs.declared.step.Step.TheVariants as step

-- the step lists or reads, or it makes, removes, writes or assembles at a path of at least one name
abbrev pub IsFilesStep : Step → Type 0
IsFilesStep (step.Ls s) = Unit {0}
IsFilesStep (step.Cat s) = Unit {0}
IsFilesStep (step.Dts s) = Unit {0}
IsFilesStep (step.Mkdir s) = 0 < length s.path
IsFilesStep (step.Rm s) = 0 < length s.path
IsFilesStep (step.Write s) = 0 < length s.path
IsFilesStep (step.Asm s) = 0 < length s.target
IsFilesStep _ = ⊥

-- a step's reply shows the refusal of the files by its name, and never that memory ran out
abbrev pub IsShownAs : FileRefusal → Refusal → Type 0
IsShownAs file.NoEntry why = why ≡ refusal.NoEntry
IsShownAs file.NotDir why = why ≡ refusal.NotDir
IsShownAs file.IsDir why = why ≡ refusal.IsDir
IsShownAs file.Exists why = why ≡ refusal.Exists
IsShownAs file.NotEmpty why = why ≡ refusal.NotEmpty
IsShownAs (file.Memory e) why = ⊥
