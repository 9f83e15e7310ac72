-- A hart: its program, and how many events it made.
use Rattle.std.specs.Prelude.{◌≡◌, ℕ, ◌+◌, ◌==◌, ◌&&◌, nat_lt, if◌then◌else◌, Bool, true, false, Option, None, List, []}
use Rattle.hv_kinds.specs.declared.generation.Generation.{Generation}
use Rattle.hv_step.specs.declared.step.Step.{Step}
use Rattle.hv_model.specs.Entry.{Entry}
use Rattle.hv_rules.specs.Carry.{Pending}
use Rattle.hv_rules.specs.Hart.{HartState as Program, HartAgrees as Agrees, hart_after as after}

pub record HartState : Type 0 where
  pub count : ℕ
  pub program : Program

-- A hart agrees to an event that is its next: with its index, of its program's next step.
pub record HartAgrees (number : ℕ) (h : HartState) (e : Entry) : Type 0 where
  pub index : e.event.index ≡ h.count + 1
  pub step : Agrees number h.program e.event.step e.carry

-- An event leaves the hart with one more made.
abbrev pub hart_after : HartState → Entry → HartState
hart_after h e = record { count = h.count + 1; program = after h.program e.event.step e.event.reply e.carry }

-- A hart at the start of a run of so many harts and turns; one that isn't there makes no turn.
abbrev pub hart_at_start : (harts turns number : ℕ) → HartState
hart_at_start harts turns number = record {
  count = 0;
  program = record {
    harts = harts;
    left = if nat_lt number harts then turns else 0;
    turns = 0;
    ticked = false;
    current = None;
    pending = None;
    owed = [];
  };
}

abbrev pub is_free : List Step → Option (Pending × Generation) → Bool
is_free [] None = true
is_free owed pending = false

-- Whether a hart has made its turns, with nothing pending or owed.
abbrev pub hart_has_ended : (turns : ℕ) → HartState → Bool
hart_has_ended turns h = (h.program.turns == turns) && is_free h.program.owed h.program.pending

-- A hart has made its turns, and nothing is pending or owed.
pub record HasMade (turns : ℕ) (h : HartState) : Type 0 where
  pub turns_are : h.program.turns ≡ turns
  pub pending : h.program.pending ≡ None
  pub owed : h.program.owed ≡ []
