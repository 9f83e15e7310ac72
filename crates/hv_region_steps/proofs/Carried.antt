-- Signals of regions that are carried to parents and to VCPUs.
use Rattle.std.proofs.Common.{◌≡◌, ℕ, ◌<◌, ◌≤◌, List, [], ◌∷◌, Bool, true, false, None, Some, refl, sym, ap, ◌∙◌, arith}
use Rattle.std.specs.Prelude.{min, max, nat_lt, if◌then◌else◌}
use Rattle.std.proofs.lemmas.Bool.Decides.{nat_tests}
use Rattle.hv_answer.specs.declared.reply.Pinned.{Pinned}
use Rattle.hv_answer.specs.declared.reply.Reply.{Reply}
use Rattle.hv_answer.specs.declared.reply.Reply.TheVariants as reply
use Rattle.hv_event.specs.declared.event.CellId.{CellId}
use Rattle.hv_event.specs.declared.event.CellId.TheVariants as component
use Rattle.hv_kinds.specs.declared.generation.Generation.{Generation}
use Rattle.hv_kinds.specs.declared.pins.Pins.{Pins}
use Rattle.hv_rules.specs.Body.{ShowsPins}
use Rattle.hv_rules.specs.Carry.{Carry}
use Rattle.hv_rules.specs.Footprint.{two_bodies}
use Rattle.hv_rules.specs.Vcpu.{AgreesToPin}
use Rattle.hv_vcpu.specs.Vcpu.{VcpuValue}

-- Which of two rows is the lesser.
least : (row other : ℕ) → nat_lt row other ≡ true → (min row other ≡ row) × (max row other ≡ other)
least row other is =
    let less : row < other = grind (arith, nat_tests) in
    (omega (arith, less), omega (arith, less))

least-other : (row other : ℕ) → nat_lt row other ≡ false → (min row other ≡ other) × (max row other ≡ row)
least-other row other is =
    let more : other ≤ row = grind (arith, nat_tests) in
    (omega (arith, more), omega (arith, more))

abbrev two : (slot a z : ℕ) → List CellId
two slot a z = component.Body slot a ∷ component.Body slot z ∷ []

chosen :
    (slot : ℕ) (b : Bool) (row other a z : ℕ) → (b ≡ true → (a ≡ row) × (z ≡ other)) → (b ≡ false → (a ≡ other) × (z ≡ row))
    → (if b then two slot row other else two slot other row) ≡ two slot a z
chosen slot true row other a z one none =
    let is = one refl in
    ap (λ (x : ℕ). two slot x other) (sym is.0) ∙ ap (λ (x : ℕ). two slot a x) (sym is.1)
chosen slot false row other a z one none =
    let is = none refl in
    ap (λ (x : ℕ). two slot x row) (sym is.0) ∙ ap (λ (x : ℕ). two slot a x) (sym is.1)

-- Two bodies stand in the order of their rows.
pub in-order :
    (guest : Generation) (row other : ℕ) → two_bodies guest row other ≡ component.Body guest.slot (min row other) ∷ component.Body guest.slot (max row other) ∷ []
in-order guest row other =
    chosen guest.slot (nat_lt row other) row other (min row other) (max row other) (least row other) (λ is. least-other row other is)

-- A VCPU that takes a pin step whose reply shows some pins, or none, is shown these.
pub shows-pins :
    (pins : Pins) (v : VcpuValue) (row birth : ℕ) (r : Reply) (c : Carry) → AgreesToPin v row birth r c
    → ((shown : Pinned) → r ≡ reply.Pin (Some shown) → shown.pins ≡ pins) → ShowsPins pins r
shows-pins pins v row birth (reply.Pin None) c agrees is = tt
shows-pins pins v row birth (reply.Pin (Some shown)) c agrees is = is shown refl
shows-pins pins v row birth _ c agrees is = absurd agrees
