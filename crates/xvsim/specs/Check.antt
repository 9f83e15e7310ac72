-- What a check of a bundle prints.
use Rattle.std.specs.Prelude.{◌≡◌, ℕ, List, [], ◌∷◌, ◌++◌, length, codes, Result, Ok, Err, Option, Bool, IsTrue}
use Rattle.std.specs.Fmt.{decimal}
use Rattle.std.specs.List.{flat_map}
use Rattle.std.specs.Io.KnownBytes.{Appends, IsAtEnd}
use Rattle.hv_base.specs.Writing.{AppendsFront}
use Rattle.hv_text.specs.Path.{path_text}
use Rattle.hv_bundle.specs.declared.file.File.{File}
use Rattle.hv_region.specs.declared.plan.GuestPlan.{GuestPlan}
use Rattle.hv_plan.specs.declared.host.Host.{Host}
use Rattle.hv_kinds.specs.Cause.{cause_word}
use Rattle.hv_host.specs.declared.board.Board.{Board}
use Rattle.hv_region.specs.declared.fault.Fault.{Fault}
use Rattle.hv_model.specs.Transcript.{line}
use Rattle.xvsim.specs.Opening.{HaveBoard}
use Rattle.xvsim.specs.Limits.{IsInput, AreWithinLimits}

-- how many files there are, and how many bytes the whole input has
abbrev pub bundle_line : ℕ → ℕ → List ℕ
bundle_line files size = line (codes "bundle " ++ decimal files ++ codes " " ++ decimal size)

-- a file's path, and how many bytes it has
abbrev pub file_line : File → List ℕ
file_line f = line (codes "file " ++ path_text f.path ++ codes " " ++ decimal (length f.bytes))

-- the settings of the host, and how many areas it has
abbrev pub host_line : Host → List ℕ
host_line host =
    line (codes "host harts " ++ decimal host.harts ++ codes " turns " ++ decimal host.turns ++ codes " areas " ++ decimal (length host.areas.items))

-- what comes of a guest: how many VCPUs and regions it has, or the path and the cause of its first fault
abbrev pub plan_text : Result GuestPlan Fault → List ℕ
plan_text (Ok plan) = codes " ok vcpus " ++ decimal (length plan.vcpus.items) ++ codes " regions " ++ decimal (length plan.regions.items)
plan_text (Err fault) = codes " bad " ++ fault.path ++ codes " " ++ cause_word fault.cause

-- the line of a guest
abbrev pub guest_line : List ℕ → Result GuestPlan Fault → List ℕ
guest_line name plan = line (codes "guest " ++ name ++ plan_text plan)

-- a line for each guest, with its name and its plan
abbrev pub guests_text : List (List ℕ) → List (Result GuestPlan Fault) → List ℕ
guests_text (name ∷ names) (plan ∷ plans) = guest_line name plan ++ guests_text names plans
guests_text names plans = []

-- the text of a check: the bundle, its files, the host and the guests
abbrev pub check_text : List File → ℕ → Board → List ℕ
check_text files size board =
    bundle_line (length files) size ++ flat_map file_line files ++ host_line board.host ++ guests_text board.host.guests.items board.plans.items

-- the bytes are a bundle within the limits, and this is the text of its check
pub record IsCheckOf (bytes text : List ℕ) : Type 0 where
  pub files : List File
  pub input : IsInput bytes files
  pub within : AreWithinLimits files
  pub board : Board
  pub says : HaveBoard files board
  pub text_is : text ≡ check_text files (length bytes) board

-- the source was read to its end
pub record IsAllRead (left : Option (List ℕ)) (ended : Bool) : Type 0 where
  pub all_read : IsTrue ended
  pub nothing_left : IsAtEnd left

-- the sink took exactly the text of the check of these bytes
pub record AppendsCheck (old new : Option (List ℕ)) (bytes : List ℕ) : Type 0 where
  pub text : List ℕ
  pub is_check : IsCheckOf bytes text
  pub appended : Appends old new text

-- the sink took a front of it
pub record AppendsCheckFront (old new : Option (List ℕ)) (bytes : List ℕ) : Type 0 where
  pub text : List ℕ
  pub is_check : IsCheckOf bytes text
  pub appended : AppendsFront old new text
