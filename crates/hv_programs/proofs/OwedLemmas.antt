-- The steps that an actor owes after a change of signals are of its guest and of the board.
use Rattle.std.proofs.Common.{◌≡◌, ◌≢◌, ℕ, ◌+◌, ◌*◌, ◌<◌, Bool, true, false, List, [], ◌∷◌, ◌++◌, arith}
use Rattle.std.specs.Prelude.{Option, None, Some, filter, map}
use Rattle.std.specs.List.{All, range_with_len}
use Rattle.std.proofs.lemmas.List.Elements.{All-nil, All-cons, All-head, All-tail, All-append, All-filter}
use Rattle.hv_kinds.specs.declared.changes.SignalChanges.{SignalChanges}
use Rattle.hv_kinds.specs.declared.generation.Generation.{Generation}
use Rattle.hv_rules.specs.Hart.{ticked_signals, without_first}
use Rattle.hv_rules.specs.Owed.{vcpu_of, samples, has_changed, pin_step, pin_steps, owed_for}
use Rattle.hv_step.specs.declared.step.Step.{Step}
use Rattle.hv_step.specs.declared.step.Step.TheVariants as step
use Rattle.hv_text.specs.declared.limits.TheConstants.{GUEST_REGIONS, GUEST_VCPUS, SLOTS, VCPUS}
use Rattle.std.specs.Option.{IfSome}
use Rattle.hv_programs.specs.Owed.{IsOwed, IsParent}

module _ (generation : Generation) (row : ℕ) (slot : generation.slot < SLOTS) (below : row < GUEST_REGIONS) where
  samples-owed : (parent : Option (ℕ × ℕ)) (changed : Bool) → IsParent row parent → All IsOwed (samples generation row parent changed)
  samples-owed None changed is = All-nil IsOwed
  samples-owed (Some parent) false is = All-nil IsOwed
  samples-owed (Some parent) true is =
      All-cons IsOwed (step.Sample (record { row = row; parent = parent.0; source = parent.1; generation = generation })) []
      (record { slot = slot; row = below; parent = is.0; apart = is.1 }) (All-nil IsOwed)

  vcpu-below : (slot index : ℕ) → slot < SLOTS → index < GUEST_VCPUS → vcpu_of slot index < VCPUS
  vcpu-below slot index l m = omega arith

  pins-of : (ns : List ℕ) → All (λ n. n < GUEST_VCPUS) ns → All IsOwed (map (pin_step generation row) ns)
  pins-of [] few = All-nil IsOwed
  pins-of (n ∷ ns) few =
      All-cons IsOwed (pin_step generation row n) (map (pin_step generation row) ns)
      (record { slot = slot; row = below; vcpu = vcpu-below generation.slot n slot (All-head (λ k. k < GUEST_VCPUS) n ns few) })
      (pins-of ns (All-tail (λ k. k < GUEST_VCPUS) n ns few))

  few : All (λ n. n < GUEST_VCPUS) (range_with_len 0 GUEST_VCPUS)
  few =
      let P : ℕ → Type 0 = λ n. n < GUEST_VCPUS in
      All-cons P 0 (1 ∷ 2 ∷ 3 ∷ []) (omega arith)
      (All-cons P 1 (2 ∷ 3 ∷ []) (omega arith) (All-cons P 2 (3 ∷ []) (omega arith) (All-cons P 3 [] (omega arith) (All-nil P))))

  pub all-owed : (parent : Option (ℕ × ℕ)) (changes : SignalChanges) → IsParent row parent → All IsOwed (owed_for generation row parent changes)
  all-owed parent changes is =
      All-append IsOwed (samples generation row parent changes.line) (pin_steps generation row changes.pins)
      (samples-owed parent changes.line is)
      (pins-of (filter (has_changed changes.pins) (range_with_len 0 GUEST_VCPUS)) (All-filter (has_changed changes.pins) (λ n. n < GUEST_VCPUS) (range_with_len 0 GUEST_VCPUS) few))

pub ticked-owed : (slot : ℕ) (clock parent : Option (ℕ × ℕ)) (changes : SignalChanges) → slot < SLOTS
    → IfSome clock (λ region. (region.0 < GUEST_REGIONS) × IsParent region.0 parent) → All IsOwed (ticked_signals slot clock parent changes)
ticked-owed slot None parent changes l is = All-nil IsOwed
ticked-owed slot (Some clock) parent changes l is = all-owed (record { slot = slot; birth = clock.1 }) clock.0 l is.0 parent changes is.1

pub paid-owed : (owed : List Step) → All IsOwed owed → All IsOwed (without_first owed)
paid-owed [] all = all
paid-owed (s ∷ owed) all = All-tail IsOwed s owed all
