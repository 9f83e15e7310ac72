-- Steps by guest that the directory of a board refuses.
use Rattle.std.proofs.Common.{◌≡◌, ℕ, List, [], ◌∷◌, map, Option, Some, refl}
use Rattle.hv_answer.specs.declared.reply.Reply.TheVariants as reply
use Rattle.hv_board.specs.Board.{IsWhole, greatest_at, part_at}
use Rattle.hv_board.specs.declared.board.Board.{Board}
use Rattle.hv_board_steps.proofs.Admitted.{has-directory}
use Rattle.hv_board_steps.proofs.Ends.{finds}
use Rattle.hv_board_steps.proofs.Lifts.{AreOn}
use Rattle.hv_board_steps.specs.Happened.{FindsLast}
use Rattle.hv_emu.specs.Device.{DevState}
use Rattle.hv_event.specs.declared.event.ActorId.{ActorId}
use Rattle.hv_event.specs.declared.event.CellId.TheVariants as component
use Rattle.hv_parts.specs.Kinds.{AreOf, IsPartOf}
use Rattle.hv_parts.specs.Value.{Dir, valued}
use Rattle.hv_parts.specs.declared.part.Part.{Part}
use Rattle.hv_parts.specs.declared.part.Part.TheVariants as part
use Rattle.hv_refusal.specs.declared.refusal.Refusal.{Refusal}
use Rattle.hv_region.specs.declared.plan.RegionPlan.{RegionPlan}
use Rattle.hv_region_steps.proofs.Refusing.{over-again, refused-touches}
use Rattle.hv_region_steps.specs.Refused.{IsRefused, refused_carry}
use Rattle.hv_rules.specs.Carry.{nothing}
use Rattle.hv_step.specs.declared.step.Step.{Step}
use Rattle.hv_text.specs.declared.limits.TheConstants.{GREATEST_STAMP}
use Rattle.hv_guest_events.proofs.Finding.{directory-in-order}
use Rattle.hv_guest_events.specs.Kinds.{IsRefusedOn, OfRefused}

module _ {E : Type 0} (state : E → DevState) (board : Board E) (s : Step) (row : Option ℕ) (why : Refusal) (is : IsRefusedOn board s row why) where
  refused-first : (p : Part E) (ps : List (Part E)) → part_at board component.Dir ≡ Some p → IsPartOf component.Dir (valued state p) → IsRefused (map (valued state) (p ∷ ps)) s row why
  refused-first (part.Dir d) ps on kind = record { shown = is.shown; refused = is.refused d on }
  refused-first (part.Shelf x) ps on kind = absurd kind
  refused-first (part.Files x) ps on kind = absurd kind
  refused-first (part.Space x) ps on kind = absurd kind
  refused-first (part.Queue x) ps on kind = absurd kind
  refused-first (part.Vcpu x) ps on kind = absurd kind
  refused-first (part.Body x) ps on kind = absurd kind
  refused-first (part.Area x) ps on kind = absurd kind

  -- The directory that is lifted refuses what that of the board refuses.
  pub refused-there : (ps : List (Part E)) → AreOn board (component.Dir ∷ []) ps → AreOf (component.Dir ∷ []) (map (valued state) ps) → IsRefused (map (valued state) ps) s row why
  refused-there [] on are = absurd are
  refused-there (p ∷ ps) on are = refused-first p ps on.0 are.0

  -- A step that would be refused would be the last event.
  pub refused-finds :
      (by : ActorId) (own : ℕ) (plan : Option (RegionPlan × ℕ)) → IsWhole state board → greatest_at board own (component.Dir ∷ []) ≡ GREATEST_STAMP
      → FindsLast by own s (OfRefused s row plan) board
  refused-finds by own plan whole last =
      let there = has-directory state board whole in
      let refused : IsRefused (Dir there.0 ∷ []) s row why = record { shown = is.shown; refused = is.refused there.0 there.1 } in
      finds board by own s (OfRefused s row plan) reply.Rest (refused_carry s row plan) (component.Dir ∷ [])
      (refused-touches board.layout.harts by s reply.Rest (refused_carry s row plan) row why (Dir there.0 ∷ []) (tt, tt) refused)
      (over-again s (record nothing { row = row; plan = plan })) refl (directory-in-order board.layout) last
