-- Lists of components that stand in the order of locks.
use Rattle.std.proofs.Common.{◌≡◌, ◌<◌, ◌≤◌, ◌+◌, ℕ, zero, suc, List, [], ◌∷◌, ◌++◌, map, Option, Some, None, refl, ap, ◌∙◌, arith}
use Rattle.std.proofs.lemmas.List.{map-append}
use Rattle.std.proofs.lemmas.Nat.{mod_below}
use Rattle.std.specs.List.{AllByRecursion, range_with_len}
use Rattle.std.specs.Prelude.{IsSome}
use Rattle.hv_board.specs.Board.{AreInOrder}
use Rattle.hv_board.specs.Held.{IsRising}
use Rattle.hv_board.specs.Places.{HasPlace, first_queue, place_of}
use Rattle.hv_board.specs.declared.layout.Layout.{Layout}
use Rattle.hv_event.specs.declared.event.CellId.{CellId}
use Rattle.hv_event.specs.declared.event.CellId.TheVariants as component
use Rattle.hv_kinds.specs.declared.generation.Generation.{Generation}
use Rattle.hv_rules.specs.Footprint.{all_queues, home_queue, past_dir, past_dir_if}
use Rattle.hv_step.specs.declared.step.ByGuest.{ByGuest}
use Rattle.hv_step.specs.declared.step.Step.{Step}
use Rattle.hv_step.specs.declared.step.Step.TheVariants as step
use Rattle.hv_text.specs.declared.limits.TheConstants.{VCPUS}
use Rattle.hv_board_steps.specs.Vcpus.{IsShown, IsVcpusStep, directory_if, guest_by, touched_by}

module _ (layout : Layout) where
  -- The directory stands before components that stand behind its place.
  dir-in-order : (xs : List CellId) → AllByRecursion (λ place. 0 < place) (map (place_of layout) xs) → AreInOrder layout xs → AreInOrder layout (component.Dir ∷ xs)
  dir-in-order xs above order = record { rising = (above, order.rising); have = (tt, order.have) }

  past-in-order : (g : Option Generation) (xs : List CellId) → IsSome g → AllByRecursion (λ place. 0 < place) (map (place_of layout) xs) → AreInOrder layout xs
      → AreInOrder layout (past_dir g (λ h. xs))
  past-in-order None xs shown above order = absurd (cc)
  past-in-order (Some g) xs shown above order = dir-in-order xs above order

  guest-in-order : (guest : Option ByGuest) (xs : List CellId) → IsShown guest → AllByRecursion (λ place. 0 < place) (map (place_of layout) xs) → AreInOrder layout xs
      → AreInOrder layout (past_dir_if guest xs)
  guest-in-order None xs shown above order = order
  guest-in-order (Some by) xs shown above order = past-in-order by.generation xs shown above order

  -- The queues of harts from one on stand behind that of a hart below.
  behind-queue : (k n h v : ℕ) → k < h → h + n ≤ layout.harts
      → AllByRecursion (λ place. first_queue + k < place) (map (place_of layout) (map component.Queue (range_with_len h n) ++ component.Vcpu v ∷ []))
  behind-queue k zero h v low within = (omega (arith, low, within), tt)
  behind-queue k (suc n) h v low within = (omega (arith, low), behind-queue k n (h + 1) v (omega (arith, low)) (omega (arith, within)))

  queues-rise : (n h v : ℕ) → h + n ≤ layout.harts → IsRising (map (place_of layout) (map component.Queue (range_with_len h n) ++ component.Vcpu v ∷ []))
  queues-rise zero h v within = (tt, tt)
  queues-rise (suc n) h v within = (behind-queue h n (h + 1) v (omega arith) (omega (arith, within)), queues-rise n (h + 1) v (omega (arith, within)))

  have-queues : (n h v : ℕ) → h + n ≤ layout.harts → v < VCPUS → AllByRecursion (HasPlace layout) (map component.Queue (range_with_len h n) ++ component.Vcpu v ∷ [])
  have-queues zero h v within few = (few, tt)
  have-queues (suc n) h v within few = (omega (arith, within), have-queues n (h + 1) v (omega (arith, within)) few)

  queues-above : (n h v : ℕ) → AllByRecursion (λ place. 0 < place) (map (place_of layout) (map component.Queue (range_with_len h n) ++ component.Vcpu v ∷ []))
  queues-above zero h v = (omega arith, tt)
  queues-above (suc n) h v = (omega arith, queues-above n (h + 1) v)

  -- All queues and a VCPU are in order.
  pub queues-in-order : (guest : Option ByGuest) (v : ℕ) → IsShown guest → v < VCPUS → AreInOrder layout (past_dir_if guest (all_queues layout.harts ++ component.Vcpu v ∷ []))
  queues-in-order guest v shown few =
      guest-in-order guest (all_queues layout.harts ++ component.Vcpu v ∷ []) shown (queues-above layout.harts 0 v)
      (record { rising = queues-rise layout.harts 0 v (omega arith); have = have-queues layout.harts 0 v (omega arith) few })

  -- A VCPU's home queue and the VCPU are in order.
  pub home-in-order : (guest : Option ByGuest) (v : ℕ) → IsShown guest → 0 < layout.harts → v < VCPUS
      → AreInOrder layout (past_dir_if guest (home_queue layout.harts v ∷ component.Vcpu v ∷ []))
  home-in-order guest v shown some few =
      let low = mod_below v layout.harts some in
      guest-in-order guest (home_queue layout.harts v ∷ component.Vcpu v ∷ []) shown (omega arith, (omega arith, tt))
      (record { rising = ((omega (arith, low), tt), (tt, tt)); have = (low, (few, tt)) })

  -- What a step on a VCPU touches is in order.
  pub touched-in-order : (s : Step) → IsVcpusStep s → IsShown (guest_by s) → 0 < layout.harts → AreInOrder layout (touched_by layout.harts s)
  touched-in-order (step.Kick s) is shown some = home-in-order s.guest s.vcpu shown some is
  touched-in-order (step.Resume s) is shown some = home-in-order s.guest s.vcpu shown some is
  touched-in-order (step.Pause s) is shown some = queues-in-order s.guest s.vcpu shown is
  touched-in-order (step.Halt s) is shown some = queues-in-order s.guest s.vcpu shown is
  touched-in-order (step.Reset s) is shown some = queues-in-order s.guest s.vcpu shown is
  touched-in-order (step.Vdrop s) is shown some = queues-in-order None s.vcpu tt is
  touched-in-order (step.Look s) is shown some = record { rising = (tt, tt); have = (is, tt) }
  touched-in-order s is shown some = absurd is

-- The directory stands first where a step on a VCPU is by guest.
pub touched-past : (harts : ℕ) (s : Step) → IsVcpusStep s → (later : List CellId) × (touched_by harts s ≡ past_dir_if (guest_by s) later)
touched-past harts (step.Kick s) is = (home_queue harts s.vcpu ∷ component.Vcpu s.vcpu ∷ [], refl)
touched-past harts (step.Resume s) is = (home_queue harts s.vcpu ∷ component.Vcpu s.vcpu ∷ [], refl)
touched-past harts (step.Pause s) is = (all_queues harts ++ component.Vcpu s.vcpu ∷ [], refl)
touched-past harts (step.Halt s) is = (all_queues harts ++ component.Vcpu s.vcpu ∷ [], refl)
touched-past harts (step.Reset s) is = (all_queues harts ++ component.Vcpu s.vcpu ∷ [], refl)
touched-past harts (step.Vdrop s) is = (all_queues harts ++ component.Vcpu s.vcpu ∷ [], refl)
touched-past harts (step.Look s) is = (component.Vcpu s.vcpu ∷ [], refl)
touched-past harts s is = absurd is

past-shown : (g : Option Generation) (xs : List CellId) → IsSome g → component.Dir ∷ xs ≡ past_dir g (λ h. xs)
past-shown None xs shown = absurd (cc)
past-shown (Some g) xs shown = refl

-- A list with the directory, where it is by guest, is that of a step that shows a generation.
pub past-is : (guest : Option ByGuest) (xs : List CellId) → IsShown guest → directory_if guest ++ xs ≡ past_dir_if guest xs
past-is None xs shown = refl
past-is (Some by) xs shown = past-shown by.generation xs shown

range-more : (a n : ℕ) → range_with_len a (suc n) ≡ range_with_len a n ++ (a + n) ∷ []
range-more a zero = ap (λ k. k ∷ []) (omega arith)
range-more a (suc n) =
    ap (λ rest. a ∷ rest) (range-more (a + 1) n ∙ ap (λ k. range_with_len (a + 1) n ++ k ∷ []) (omega arith))

-- The queues of one hart more.
pub queues-more : (n : ℕ) → map component.Queue (range_with_len 0 (suc n)) ≡ map component.Queue (range_with_len 0 n) ++ component.Queue n ∷ []
queues-more n =
    ap (map component.Queue) (range-more 0 n ∙ ap (λ k. range_with_len 0 n ++ k ∷ []) (omega arith))
    ∙ map-append component.Queue (range_with_len 0 n) (n ∷ [])
