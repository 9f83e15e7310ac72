-- What comes of steps on guests, told by what they show, before they are made.
use Rattle.std.proofs.Common.{◌≡◌, ◌<◌, ℕ, [], ◌∷◌, Option, Some, refl, ap, arith}
use Rattle.hv_answer.specs.declared.reply.Reply.TheVariants as reply
use Rattle.hv_board.specs.Board.{AreInOrder, greatest_at}
use Rattle.hv_board.specs.declared.board.Board.{Board}
use Rattle.hv_board.specs.declared.layout.Layout.{Layout}
use Rattle.hv_board_steps.proofs.Ends.{finds}
use Rattle.hv_board_steps.specs.Happened.{Anything, FindsLast}
use Rattle.hv_event.specs.declared.event.ActorId.{ActorId}
use Rattle.hv_event.specs.declared.event.CellId.TheVariants as component
use Rattle.hv_guest_steps.specs.Admission.{shown_by}
use Rattle.hv_kinds.specs.declared.generation.Generation.{Generation}
use Rattle.hv_refusal.specs.declared.refusal.Refusal.{Refusal}
use Rattle.hv_rules.specs.Carry.{nothing}
use Rattle.hv_rules.specs.Footprint.{past_dir, row_body}
use Rattle.hv_step.specs.declared.step.Step.{Step}
use Rattle.hv_step.specs.declared.step.Step.TheVariants as step
use Rattle.hv_text.specs.declared.limits.TheConstants.{GREATEST_STAMP, GUEST_REGIONS, SLOTS}
use Rattle.hv_guest_events.specs.Kinds.{IsDeviceStep, IsDirectoryStep, IsRegionsStep, OfRow, StoppedBy}

-- What is touched stands in the order of locks: the directory alone,
pub directory-in-order : (layout : Layout) → AreInOrder layout (component.Dir ∷ [])
directory-in-order layout = record { rising = (tt, tt); have = (tt, tt) }

-- with a guest's space,
pub space-in-order : (layout : Layout) (slot : ℕ) → slot < SLOTS → AreInOrder layout (component.Dir ∷ component.Space slot ∷ [])
space-in-order layout slot few = record { rising = ((omega arith, tt), (tt, tt)); have = (tt, (few, tt)) }

-- or with a region's body.
pub body-in-order : (layout : Layout) (slot row : ℕ) → slot < SLOTS → row < GUEST_REGIONS → AreInOrder layout (component.Dir ∷ component.Body slot row ∷ [])
body-in-order layout slot row few low = record { rising = ((omega arith, tt), (tt, tt)); have = (tt, ((few, low), tt)) }

module _ {E : Type 0} (board : Board E) (by : ActorId) (own : ℕ) where
  -- A step on the directory alone would be the last event.
  pub directory-finds : (s : Step) (stopped : Option Refusal) → IsDirectoryStep s → greatest_at board own (component.Dir ∷ []) ≡ GREATEST_STAMP → FindsLast by own s (StoppedBy stopped s) board
  directory-finds (step.Guests s) stopped is last =
      finds board by own (step.Guests s) (StoppedBy stopped (step.Guests s)) reply.Rest nothing (component.Dir ∷ []) refl refl tt (directory-in-order board.layout) last
  directory-finds (step.Name s) stopped is last =
      finds board by own (step.Name s) (StoppedBy stopped (step.Name s)) reply.Rest (record nothing { stopped = stopped }) (component.Dir ∷ []) refl refl refl (directory-in-order board.layout) last
  directory-finds (step.Stage s) stopped is last =
      finds board by own (step.Stage s) (StoppedBy stopped (step.Stage s)) reply.Rest nothing (component.Dir ∷ []) refl refl tt (directory-in-order board.layout) last
  directory-finds _ stopped is last = absurd is

  -- So would a list of windows.
  pub regions-finds :
      (s : Step) (guest : Generation) → IsRegionsStep s → shown_by s ≡ Some guest → guest.slot < SLOTS
      → greatest_at board own (component.Dir ∷ component.Space guest.slot ∷ []) ≡ GREATEST_STAMP → FindsLast by own s Anything board
  regions-finds (step.Regions s) guest is shown few last =
      finds board by own (step.Regions s) Anything reply.Rest nothing (component.Dir ∷ component.Space guest.slot ∷ [])
      (ap (λ (g : Option Generation). past_dir g (λ there. component.Space there.slot ∷ [])) shown) refl tt (space-in-order board.layout guest.slot few) last
  regions-finds _ guest is shown few last = absurd is

  -- So would a step on a device.
  pub device-finds :
      (s : Step) (guest : Generation) (row : ℕ) → IsDeviceStep s → shown_by s ≡ Some guest → guest.slot < SLOTS → row < GUEST_REGIONS
      → greatest_at board own (component.Dir ∷ component.Body guest.slot row ∷ []) ≡ GREATEST_STAMP → FindsLast by own s (OfRow row) board
  device-finds (step.Devreset s) guest row is shown few low last =
      finds board by own (step.Devreset s) (OfRow row) reply.Rest (record nothing { row = Some row }) (component.Dir ∷ component.Body guest.slot row ∷ [])
      (ap (λ (g : Option Generation). past_dir g (λ there. row_body there (Some row))) shown) refl refl (body-in-order board.layout guest.slot row few low) last
  device-finds (step.Feed s) guest row is shown few low last =
      finds board by own (step.Feed s) (OfRow row) reply.Rest (record nothing { row = Some row }) (component.Dir ∷ component.Body guest.slot row ∷ [])
      (ap (λ (g : Option Generation). past_dir g (λ there. row_body there (Some row))) shown) refl refl (body-in-order board.layout guest.slot row few low) last
  device-finds (step.Output s) guest row is shown few low last =
      finds board by own (step.Output s) (OfRow row) reply.Rest (record nothing { row = Some row }) (component.Dir ∷ component.Body guest.slot row ∷ [])
      (ap (λ (g : Option Generation). past_dir g (λ there. row_body there (Some row))) shown) refl refl (body-in-order board.layout guest.slot row few low) last
  device-finds _ guest row is shown few low last = absurd is
