-- The definitions compute, by what the host tree has.
use Rattle.std.proofs.Common.{◌≡◌, ℕ, ◌++◌, false, List, length, codes, Option, None, Some, refl, ap, sym, ◌∙◌, arith}
use Rattle.std.specs.Fmt.{digits}
use Rattle.std.specs.Prelude.{position, slice_get}
use Rattle.std.specs.Option.{option_map, option_and_then}
use Rattle.std.specs.Str.{bytes_eq}
use Rattle.hv_region.specs.declared.plan.RegionPlan.{RegionPlan}
use Rattle.hv_region.specs.declared.plan.VcpuPlan.{VcpuPlan}
use Rattle.hv_step.specs.declared.step.Step.{Step}
use Rattle.hv_step.specs.declared.step.Step.TheVariants as step
use Rattle.hv_model.specs.Plans.{Planned, row_of, region_of, vcpus_of}
use Rattle.hv_model.specs.Terminal.{vcpu_given, row_owes, children_owe}
use Rattle.hv_model.specs.GuestExample as guest
use Rattle.hv_model.proofs.laws.lines_on_guests_go_on.Goals as goal

uart-row : (plans : List Planned) → guest.HasGuests plans → row_of plans (codes "g0") (codes "uart") ≡ Some 0
uart-row plans is = ap (λ (rs : List RegionPlan). position (λ (r : RegionPlan). bytes_eq r.name (codes "uart")) rs) is.regions

uart-region : (plans : List Planned) → guest.HasGuests plans → region_of plans (codes "g0") (codes "uart") ≡ Some (guest.uart, 1)
uart-region plans is =
    ap (λ (rs : List RegionPlan). option_map (λ (r : RegionPlan). (r, length (vcpus_of plans (codes "g0"))))
    (option_and_then (λ (place : ℕ). slice_get rs place) (position (λ (r : RegionPlan). bytes_eq r.name (codes "uart")) rs))) is.regions
    ∙ ap (λ (vs : List VcpuPlan). Some (guest.uart, length vs)) is.vcpus

abbrev vcpu_in : Option Step → ℕ
vcpu_in (Some (step.Kick s)) = s.vcpu
vcpu_in _ = 0

none-some : {A : Type 0} (x : A) → None ≡ Some x → ⊥
none-some x e = cc e

pub returns-clause-claim : goal.returns-clause-claim
returns-clause-claim c = λ plans is. record { index = refl; step = (refl, sym is.good); carry = refl }

pub returns-clause-no_guest : goal.returns-clause-no_guest
returns-clause-no_guest c = λ plans is. record { index = refl; step = (refl, sym is.unknown); carry = refl }

pub returns-clause-faulty : goal.returns-clause-faulty
returns-clause-faulty c = λ plans is. record { index = refl; step = (refl, sym is.faulty); carry = refl }

pub returns-clause-not_faulty : goal.returns-clause-not_faulty
returns-clause-not_faulty c = λ plans is agrees. none-some guest.why_faulty (agrees.step.1 ∙ is.faulty)

pub returns-clause-region : goal.returns-clause-region
returns-clause-region c = λ plans is. record { index = refl; step = (refl, (sym (uart-row plans is), sym (uart-region plans is))); carry = refl }

pub returns-clause-other_row : goal.returns-clause-other_row
returns-clause-other_row c = λ plans is agrees. (let same : Some 1 ≡ Some 0 = agrees.step.1.0 ∙ uart-row plans is in absurd (cc same))

pub returns-clause-vcpu : goal.returns-clause-vcpu
returns-clause-vcpu c = λ plans is. record { index = refl; step = (refl, sym (ap (λ (vs : List VcpuPlan). vcpu_given vs 9) is.vcpus)); carry = refl }

pub returns-clause-no_plan : goal.returns-clause-no_plan
returns-clause-no_plan c = λ plans is agrees. none-some (0, guest.vcpu) (agrees.step.1 ∙ ap (λ (vs : List VcpuPlan). vcpu_given vs 9) is.vcpus)

pub returns-clause-turned : goal.returns-clause-turned
returns-clause-turned c = λ plans. record { index = refl; step = (refl, tt); carry = refl }

pub returns-clause-done : goal.returns-clause-done
returns-clause-done c = λ plans. refl

pub returns-clause-kick : goal.returns-clause-kick
returns-clause-kick c = λ plans. record { index = refl; step = (refl, tt); carry = refl }

pub returns-clause-other_vcpu : goal.returns-clause-other_vcpu
returns-clause-other_vcpu c = λ plans agrees. (let same : ◌≡◌ {A = ℕ} 9 10 = ap vcpu_in agrees.step.0 in omega arith)

pub returns-clause-owed : goal.returns-clause-owed
returns-clause-owed c = λ plans. record { index = refl; step = (refl, refl); carry = refl }

pub returns-clause-owed_first : goal.returns-clause-owed_first
returns-clause-owed_first c = λ plans agrees. (let same = agrees.step.0 in absurd (cc same))

pub returns-clause-paid : goal.returns-clause-paid
returns-clause-paid c = λ plans. refl

pub returns-clause-children : goal.returns-clause-children
returns-clause-children c = λ plans is.
    ap (λ (rs : List RegionPlan). row_owes (Some guest.guest) (Some 1) None (record { line = false; pins = 1 }) ++ children_owe (Some guest.guest) (Some 1) (slice_get rs 1) rs) is.regions

pub returns-clause-not_made : goal.returns-clause-not_made
returns-clause-not_made c = λ plans. refl

pub returns-clause-slot : goal.returns-clause-slot
unfolding digits
returns-clause-slot c = λ plans. refl
