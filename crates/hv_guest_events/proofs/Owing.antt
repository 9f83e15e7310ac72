-- The interrupt steps that actors owe: what they touch, and in which order.
use Rattle.std.proofs.Common.{◌≡◌, ◌≢◌, ◌<◌, ℕ, [], ◌∷◌, refl, sym, subst, arith}
use Rattle.std.specs.Prelude.{min, max}
use Rattle.std.proofs.lemmas.Nat.{mod_below}
use Rattle.hv_answer.specs.declared.reply.Reply.TheVariants as reply
use Rattle.hv_board.specs.Board.{AreInOrder, greatest_at}
use Rattle.hv_board.specs.declared.board.Board.{Board}
use Rattle.hv_board.specs.declared.layout.Layout.{Layout}
use Rattle.hv_board_steps.proofs.Ends.{finds}
use Rattle.hv_board_steps.specs.Happened.{Anything, FindsLast}
use Rattle.hv_event.specs.declared.event.ActorId.{ActorId}
use Rattle.hv_event.specs.declared.event.CellId.TheVariants as component
use Rattle.hv_programs.specs.Owed.{IsOwed}
use Rattle.hv_region_steps.proofs.Carried.{in-order}
use Rattle.hv_rules.specs.Carry.{nothing}
use Rattle.hv_rules.specs.Footprint.{components}
use Rattle.hv_rules.specs.Handed.{handed_over}
use Rattle.hv_step.specs.declared.step.Step.{Step}
use Rattle.hv_step.specs.declared.step.Step.TheVariants as step
use Rattle.hv_text.specs.declared.limits.TheConstants.{GREATEST_STAMP, GUEST_REGIONS, SLOTS}
use Rattle.hv_guest_events.specs.Owed.{owed_parts}

-- It is the same whoever makes the step.
pub owed-touch : (harts : ℕ) (by : ActorId) (s : Step) → IsOwed s → components harts by s reply.Rest nothing ≡ owed_parts harts s
owed-touch harts by (step.Sample s) is = refl
owed-touch harts by (step.Pin s) is = refl
owed-touch harts by _ is = absurd is

owed-alone : (s : Step) → IsOwed s → handed_over s nothing ≡ nothing
owed-alone (step.Sample s) is = refl
owed-alone (step.Pin s) is = refl
owed-alone _ is = absurd is

least-below : (row other : ℕ) → row ≢ other → min row other < max row other
least-below row other apart = omega (arith, apart)

least-within : (row other most : ℕ) → row < most → other < most → min row other < most
least-within row other most low few = omega (arith, low, few)

greatest-within : (row other most : ℕ) → row < most → other < most → max row other < most
greatest-within row other most low few = omega (arith, low, few)

two-in-order :
    (layout : Layout) (slot first second : ℕ) → slot < SLOTS → first < second → first < GUEST_REGIONS → second < GUEST_REGIONS
    → AreInOrder layout (component.Body slot first ∷ component.Body slot second ∷ [])
two-in-order layout slot first second few less low high = record {
  rising = ((omega (arith, less), tt), (tt, tt));
  have = ((few, low), ((few, high), tt));
}

-- What is touched stands in the order of locks.
pub owed-in-order : (layout : Layout) (s : Step) → IsOwed s → 0 < layout.harts → AreInOrder layout (owed_parts layout.harts s)
owed-in-order layout (step.Sample s) is some =
    subst (AreInOrder layout) (sym (in-order s.generation s.row s.parent))
    (two-in-order layout s.generation.slot (min s.row s.parent) (max s.row s.parent) is.slot (least-below s.row s.parent is.apart)
    (least-within s.row s.parent GUEST_REGIONS is.row is.parent) (greatest-within s.row s.parent GUEST_REGIONS is.row is.parent))
owed-in-order layout (step.Pin s) is some =
    let low = mod_below s.vcpu layout.harts some in
    let few = is.vcpu in
    record {
      rising = ((omega (arith, low), (omega (arith, low), tt)), ((omega (arith, few), tt), (tt, tt)));
      have = (low, (is.vcpu, ((is.slot, is.row), tt)));
    }
owed-in-order layout _ is some = absurd is

-- A step that is owed would be the last event.
pub owed-finds :
    {E : Type 0} (board : Board E) (by : ActorId) (own : ℕ) (s : Step) → IsOwed s → 0 < board.layout.harts
    → greatest_at board own (owed_parts board.layout.harts s) ≡ GREATEST_STAMP → FindsLast by own s Anything board
owed-finds board by own s is some last =
    finds board by own s Anything reply.Rest nothing (owed_parts board.layout.harts s) (owed-touch board.layout.harts by s is) (owed-alone s is) tt
    (owed-in-order board.layout s is some) last
