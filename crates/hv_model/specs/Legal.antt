-- Legal and complete histories.
use Rattle.std.specs.Option.{option_map, option_map_or}
use Rattle.std.specs.Prelude.{◌≡◌, ℕ, zero, suc, None, replicate, slice_get, ◌+◌, ◌<◌, ◌≤◌, max, length, List, [], ◌++◌, map, ◌==◌, if◌then◌else◌, ◌∷◌}
use Rattle.std.specs.List.{AllByRecursion, range_with_len}
use Rattle.hv_text.specs.declared.limits.TheConstants.{GREATEST_STAMP}
use Rattle.hv_machine.specs.Machine.{State, state_after}
use Rattle.hv_machine.specs.Merging.{IsRising}
use Rattle.hv_machine.specs.Phases.{together, IsTwoPart}
use Rattle.hv_event.specs.declared.event.CellId.TheVariants as component
use Rattle.hv_event.specs.declared.event.ActorId.TheVariants.{Hart, Terminal}
use Rattle.hv_event.specs.declared.event.Event.{Event}
use Rattle.hv_model.specs.Origin.{Origin, boot_among, own_among, boot_script, own_script, terminals}
use Rattle.hv_model.specs.Cell.{Cell, Component, Actor, is_actor, rank_of}
use Rattle.hv_model.specs.Entry.{Entry}
use Rattle.hv_text.specs.Lines.{script_lines}
use Rattle.hv_words.specs.Words.{commands_of}
use Rattle.hv_dir.specs.Directory.{no_guests}
use Rattle.hv_emu.specs.Device.{DevState}
use Rattle.hv_kinds.specs.declared.state.State.TheVariants.{Reset}
use Rattle.hv_space.specs.Space.{no_windows}
use Rattle.hv_vcpu.specs.Vcpu.{VcpuValue, unknown}
use Rattle.hv_model.specs.Files.{FileMap, load_files}
use Rattle.hv_model.specs.Hart.{hart_at_start, HasMade}
use Rattle.hv_model.specs.Session.{Scripts, Session}
use Rattle.hv_model.specs.Terminal.{TerminalState, IsAtBootEnd, IsAtEnd}
use Rattle.hv_model.specs.Rules.{Value, machine}

-- Terminal 0 begins with the boot script, the others with none.
abbrev pub boot_at_start : Origin → ℕ → Scripts
boot_at_start O t = if t == 0 then commands_of (boot_script O) ∷ [] else []

-- A terminal begins with its own script open behind the boot script.
abbrev pub own_at_start : Origin → ℕ → Scripts
own_at_start O t = commands_of (own_script O t) ∷ []

-- The lines of a terminal's scripts at the start, blank lines and comments included.
abbrev pub lines_among : List (List ℕ) → ℕ → ℕ
lines_among scripts t =
    (if t == 0 then length (script_lines (boot_among scripts)) else 0) + length (script_lines (own_among scripts t))

abbrev pub lines_at_start : Origin → ℕ → ℕ
lines_at_start O t = lines_among O.opening.scripts t

-- A session at the start is at no line, and has all its commands before it.
abbrev pub session_at_start : Origin → ℕ → Session
session_at_start O t =
    record { line = None; boot = boot_at_start O t; own = own_at_start O t; lines = lines_at_start O t }

-- A terminal at the start has made nothing, and owes nothing.
abbrev pub terminal_at_start : Origin → ℕ → TerminalState
terminal_at_start O t =
    record { count = 0; owed = []; session = session_at_start O t; plans = O.opening.plans }

-- The orphan VCPU, which balances, begins Reset with its own plan; no other is there.
abbrev pub orphan : VcpuValue
orphan = record unknown { state = Reset; plan = record { start = 0; priority = 3; slice = 1 } }

abbrev pub vcpu_at_start : (vcpu : ℕ) → VcpuValue
vcpu_at_start zero = orphan
vcpu_at_start (suc v) = unknown

-- An area begins with zeros; one that isn't there has no bytes.
abbrev pub area_at_start : Origin → (area : ℕ) → List ℕ
area_at_start O area = option_map_or (λ size. replicate size 0) (option_map (λ named. named.1) (slice_get O.opening.areas area)) []

-- At the start the files are the bundle's and the shelf has the devices that are handed in; there are no guests, and no
-- actor has made anything.
abbrev pub value_at_start : Origin → (x : Cell) → Value x
value_at_start O (Component component.Dir) = no_guests
value_at_start O (Component component.Shelf) = O.devices
value_at_start O (Component component.Files) = load_files O.opening.files
value_at_start O (Component (component.Space slot)) = no_windows
value_at_start O (Component (component.Queue hart)) = []
value_at_start O (Component (component.Vcpu vcpu)) = vcpu_at_start vcpu
value_at_start O (Component (component.Body slot row)) = None
value_at_start O (Component (component.Area area)) = area_at_start O area
value_at_start O (Actor (Hart h)) = hart_at_start O.opening.harts O.opening.turns h
value_at_start O (Actor (Terminal t)) = terminal_at_start O t

-- At the start every stamp is 0.
abbrev pub start : (O : Origin) → State (machine O)
start O x = record { value = value_at_start O x; stamp = 0 }

-- Terminal 0 makes the boot part.
abbrev pub first : Cell
first = Actor (Terminal 0)

module _ (O : Origin) where
  -- The state that the boot part leaves.
  abbrev pub booted : List Entry → State (machine O)
  booted boot = state_after (machine O) (start O) boot

  -- The state in which all actors begin: each has the stamp that Terminal 0 has at the end of the boot script.
  abbrev pub begun : List Entry → State (machine O)
  begun boot = together (machine O) is_actor first (booted boot)

  -- The state that the whole leaves.
  abbrev pub reached : List Entry → List Entry → State (machine O)
  reached boot later = state_after (machine O) (begun boot) later

  -- A history is a run of a boot part and a later part where all of these hold.
  pub record IsRunOf (H : List Event) (boot later : List Entry) : Type 0 where
    -- the history is the events of both parts
    pub events : map (λ e. e.event) (boot ++ later) ≡ H
    -- it rises by stamp, and at one stamp by actor
    pub rising : IsRising (machine O) rank_of (boot ++ later)
    -- no stamp passes the greatest
    pub in_range : AllByRecursion (λ e. e.event.stamp ≤ GREATEST_STAMP) (boot ++ later)
    -- Terminal 0 made the boot part alone, and each part is a run
    pub parts : IsTwoPart (machine O) is_actor first (start O) boot later
    -- the boot part has none of Terminal 0's own commands
    pub within : (booted boot first).value.session.own ≡ own_at_start O 0

  -- The parts lead to a state: that of the whole once the boot script has ended, and before that nothing is later.
  pub record LeadTo (boot later : List Entry) (s : State (machine O)) : Type 0 where
    pub ended : IsAtBootEnd (booted boot first).value → s ≡ reached boot later
    pub unended : (IsAtBootEnd (booted boot first).value → ⊥) → (later ≡ []) × (s ≡ booted boot)

  -- A history leads from the opening to a state where it is a run whose parts lead there.
  pub record Leads (H : List Event) (s : State (machine O)) : Type 0 where
    pub boot : List Entry
    pub later : List Entry
    pub runs : IsRunOf H boot later
    pub state : LeadTo boot later s

  -- A history is legal where it leads to some state.
  abbrev pub Legal : List Event → Type 0
  Legal H = (s : State (machine O)) × Leads H s

  -- In a complete state every terminal is at its end, and every hart has made its turns, with nothing pending or owed.
  pub record IsComplete (s : State (machine O)) : Type 0 where
    pub terminals : AllByRecursion (λ t. IsAtEnd (s (Actor (Terminal t))).value) terminals
    pub harts : AllByRecursion (λ h. HasMade O.opening.turns (s (Actor (Hart h))).value) (range_with_len 0 O.opening.harts)

  -- A history is complete where it leads to a state in which nothing is left to do.
  abbrev pub Complete : List Event → Type 0
  Complete H = (s : State (machine O)) × Leads H s × IsComplete s

  -- A step is due that finds the greatest stamp: a terminal isn't at its end, and it or the files have that stamp.
  pub record IsSpent (s : State (machine O)) : Type 0 where
    pub terminal : ℕ
    pub is_one : terminal < 4
    pub due : IsAtEnd (s (Actor (Terminal terminal))).value → ⊥
    pub found : max (s (Actor (Terminal terminal))).stamp (s (Component component.Files)).stamp ≡ GREATEST_STAMP

  -- A run that was stopped: its history leads to a state that has these files and devices on its shelf, and in which a step
  -- finds the greatest stamp.
  pub record IsStoppedRun (H : List Event) (files : FileMap) (devices : List DevState) : Type 0 where
    pub state : State (machine O)
    pub legal : Leads H state
    pub spent : IsSpent state
    pub final : (state (Component component.Files)).value ≡ files
    pub shelf : (state (Component component.Shelf)).value ≡ devices

  -- A run that was finished: its history leads to a state that has these files and devices on its shelf, and in which nothing
  -- is left to do.
  pub record IsFinishedRun (H : List Event) (files : FileMap) (devices : List DevState) : Type 0 where
    pub state : State (machine O)
    pub legal : Leads H state
    pub complete : IsComplete state
    pub final : (state (Component component.Files)).value ≡ files
    pub shelf : (state (Component component.Shelf)).value ≡ devices
