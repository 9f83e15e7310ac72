-- What comes of steps that reach memory, told by what they reach, before they are made.
use Rattle.std.proofs.Common.{◌≡◌, ℕ, ◌∷◌, Option, None, Some, refl, ap}
use Rattle.hv_access_steps.specs.Hands.{found_carry}
use Rattle.hv_answer.specs.declared.reply.Reply.TheVariants as reply
use Rattle.hv_board.specs.Board.{AreInOrder, greatest_at}
use Rattle.hv_board.specs.declared.board.Board.{Board}
use Rattle.hv_board_steps.proofs.Ends.{finds}
use Rattle.hv_board_steps.specs.Happened.{Anything, FindsLast}
use Rattle.hv_event.specs.declared.event.ActorId.{ActorId}
use Rattle.hv_event.specs.declared.event.CellId.TheVariants as component
use Rattle.hv_guest_steps.specs.Admission.{shown_by}
use Rattle.hv_kinds.specs.declared.generation.Generation.{Generation}
use Rattle.hv_region.specs.declared.window.Window.{Window}
use Rattle.hv_rules.specs.Footprint.{past_dir, reached_by}
use Rattle.hv_step.specs.declared.step.Load.{Load}
use Rattle.hv_step.specs.declared.step.Mem.{Mem}
use Rattle.hv_step.specs.declared.step.Step.TheVariants as step
use Rattle.hv_text.specs.declared.limits.TheConstants.{GREATEST_STAMP}
use Rattle.hv_memory_events.specs.Reached.{load_parts, mem_parts}

module _ {E : Type 0} (board : Board E) (by : ActorId) (own : ℕ) (guest : Generation) (window : Option Window) (area : Option (ℕ × ℕ)) where
  -- A load would be the last event.
  pub load-finds :
      (s : Load) → shown_by (step.Load s) ≡ Some guest → AreInOrder board.layout (load_parts guest window area)
      → greatest_at board own (load_parts guest window area) ≡ GREATEST_STAMP → FindsLast by own (step.Load s) Anything board
  load-finds s shown order last =
      finds board by own (step.Load s) Anything reply.Rest (found_carry None window area) (load_parts guest window area)
      (ap (λ (g : Option Generation). past_dir g (λ there. component.Files ∷ component.Space there.slot ∷ reached_by there window area)) shown) refl tt order last

  -- So would a look.
  pub mem-finds :
      (s : Mem) → shown_by (step.Mem s) ≡ Some guest → AreInOrder board.layout (mem_parts guest window area)
      → greatest_at board own (mem_parts guest window area) ≡ GREATEST_STAMP → FindsLast by own (step.Mem s) Anything board
  mem-finds s shown order last =
      finds board by own (step.Mem s) Anything reply.Rest (found_carry None window area) (mem_parts guest window area)
      (ap (λ (g : Option Generation). past_dir g (λ there. component.Space there.slot ∷ reached_by there window area)) shown) refl tt order last
