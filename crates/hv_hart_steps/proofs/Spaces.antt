-- An address space that is read before a component that takes the step.
use Rattle.std.proofs.Common.{◌≡◌, ℕ, List, [], ◌∷◌, ◌++◌, map, length, slice_index_or, slice_set, refl, ap, sym, subst, arith, Option, None, Some}
use Rattle.std.specs.Option.{option_map}
use Rattle.hv_answer.specs.declared.reply.Reply.{Reply}
use Rattle.hv_emu.specs.Device.{DevState}
use Rattle.hv_event.specs.declared.event.ActorId.{ActorId}
use Rattle.hv_event.specs.declared.event.CellId.{CellId}
use Rattle.hv_event.specs.declared.event.CellId.TheVariants as component
use Rattle.hv_hart_steps.specs.Allowed.{HasSpace}
use Rattle.hv_parts.specs.Kinds.{AreOf, IsPartOf}
use Rattle.hv_parts.specs.Takes.{PartTakes, AllTake}
use Rattle.hv_parts.specs.Value.{PartValue, valued}
use Rattle.hv_parts.specs.Value as value
use Rattle.hv_parts.specs.declared.part.Part.{Part}
use Rattle.hv_parts.specs.declared.part.Part.TheVariants as part
use Rattle.hv_parts.proofs.Lists.{no-others}
use Rattle.hv_rules.specs.Carry.{Carry, nothing}
use Rattle.hv_rules.specs.Footprint.{clock_body}
use Rattle.hv_rules.specs.Space.{reached}
use Rattle.hv_space.specs.Space.{SpaceState}
use Rattle.hv_step.specs.declared.step.Fault.{Fault}
use Rattle.hv_step.specs.declared.step.Step.{Step}
use Rattle.hv_step.specs.declared.step.Step.TheVariants as step

module _ {P : Type 0} (f : P → PartValue) (by : ActorId) (s : Step) (r : Reply) (c : Carry) where
  -- The first of two components is read, and the second is changed.
  pub second-takes :
      (x y : CellId) (ps front back : List P) (b b0 b' : P)
      → AreOf (x ∷ y ∷ []) (map f ps) → ps ≡ front ++ back → length front ≡ 1 → slice_index_or back 0 b ≡ b0
      → ((p : P) → front ≡ p ∷ [] → PartTakes by x s r c (f p) (f p)) → PartTakes by y s r c (f b0) (f b')
      → AllTake by (x ∷ y ∷ []) s r c (map f ps) (map f (front ++ slice_set back 0 b'))
  second-takes x y ps [] back b b0 b' are is long is1 first second = absurd (omega (arith, long))
  second-takes x y ps (p ∷ q ∷ front) back b b0 b' are is long is1 first second = absurd (omega (arith, long))
  second-takes x y ps (p ∷ []) [] b b0 b' are is long is1 first second =
      absurd ((subst (λ l. AreOf (x ∷ y ∷ []) (map f l)) is are).1)
  second-takes x y ps (p ∷ []) (q ∷ back) b b0 b' are is long is1 first second =
      subst (λ l. AllTake by (x ∷ y ∷ []) s r c (map f l) (f p ∷ f b' ∷ map f back)) (sym is) (
        first p refl,
        (
          subst (λ t. PartTakes by y s r c (f t) (f b')) (sym is1) second,
          no-others f by s r c p q back (subst (λ l. AreOf (x ∷ y ∷ []) (map f l)) is are).1.1,
        ),
      )

-- An address space takes the fault of an access that none of its windows holds.
faults :
    (by : ActorId) (slot : ℕ) (s : Fault) (r : Reply) (c : Carry) (w : PartValue) (ws : List PartValue) → IsPartOf (component.Space slot) w
    → HasSpace (λ space. reached space.windows s.address s.size ≡ None) (w ∷ ws) → PartTakes by (component.Space slot) (step.Fault s) r c w w
faults by slot s r c (value.Space space) ws is outside = record { agrees = outside; after = refl }
faults by slot s r c w ws is outside = absurd is

-- So does one that stands before another component.
pub faults-first :
    {P : Type 0} (f : P → PartValue) (by : ActorId) (slot : ℕ) (s : Fault) (r : Reply) (c : Carry) (y : CellId) (ps front back : List P) → AreOf (component.Space slot ∷ y ∷ []) (map f ps)
    → HasSpace (λ space. reached space.windows s.address s.size ≡ None) (map f ps) → ps ≡ front ++ back → (p : P) → front ≡ p ∷ [] → PartTakes by (component.Space slot) (step.Fault s) r c (f p) (f p)
faults-first f by slot s r c y ps front back are outside is p alone =
    let all : ps ≡ p ∷ back = subst (λ l. ps ≡ l ++ back) alone is in
    faults by slot s r c (f p) (map f back) (subst (λ l. AreOf (component.Space slot ∷ y ∷ []) (map f l)) all are).0 (subst (λ l. HasSpace (λ space. reached space.windows s.address s.size ≡ None) (map f l)) all outside)

-- The address space that stands before another component is as wanted.
pub space-first :
    {E : Type 0} (state : E → DevState) (wanted : SpaceState → Type 0) (ps front back : List (Part E)) (a : Part E) (space : SpaceState)
    → HasSpace wanted (map (valued state) ps) → ps ≡ front ++ back → length front ≡ 1 → slice_index_or front 0 a ≡ part.Space space → wanted space
space-first state wanted ps [] back a space has is long at = absurd (omega (arith, long))
space-first state wanted ps (p ∷ front) back a space has is long at =
    subst (λ t. HasSpace wanted (valued state t ∷ map (valued state) (front ++ back))) at (subst (λ l. HasSpace wanted (map (valued state) l)) is has)

some-row : (row : ℕ) (other : ℕ) → Some other ≡ Some row → other ≡ row
some-row row other is = search

-- The body of the clock is that of its row.
pub clock-body : (slot row : ℕ) (clock : Option (ℕ × ℕ)) → option_map (λ clock. clock.0) clock ≡ Some row → clock_body slot clock ≡ component.Body slot row ∷ []
clock-body slot row None is = absurd (cc)
clock-body slot row (Some clock) is = ap (λ r. component.Body slot r ∷ []) (some-row row clock.0 is)

-- A clock and its parent are handed over as they were read.
pub clock-carry :
    (clock there : Option (ℕ × ℕ)) (parent source : Option (ℕ × ℕ)) → there ≡ clock → source ≡ parent
    → record nothing { clock = clock; parent = parent } ≡ record nothing { clock = there; parent = source }
clock-carry clock there parent source is from = rw (is, from) refl
