-- Looks and loads, at components that stand behind the directory.
use Rattle.std.proofs.Common.{◌≡◌, ℕ, List, ◌∷◌, ◌++◌, map, length, refl, ap, sym, subst, ◌∙◌, Option, Some}
use Rattle.std.specs.Prelude.{Result, Ok, Err}
use Rattle.std.specs.Result.{result_ok}
use Rattle.hv_answer.specs.declared.reply.Reply.{Reply}
use Rattle.hv_answer.specs.declared.reply.Reply.TheVariants as replies
use Rattle.hv_body.specs.Body.{seen}
use Rattle.hv_body.specs.declared.live.Live.{Live}
use Rattle.hv_emu.specs.Device.{DevState}
use Rattle.hv_event.specs.declared.event.ActorId.{ActorId}
use Rattle.hv_event.specs.declared.event.CellId.TheVariants as component
use Rattle.hv_handed.specs.Given.{given}
use Rattle.hv_handed.specs.declared.told.Made.{Made}
use Rattle.hv_kinds.specs.declared.address.AddressType.TheVariants.{Memory}
use Rattle.hv_kinds.specs.declared.generation.Generation.{Generation}
use Rattle.hv_kinds.specs.declared.stage.Stage.TheVariants as stages
use Rattle.hv_memory_steps.specs.Ranges.{shown_range}
use Rattle.hv_parts.specs.Admission.{IsAdmitted}
use Rattle.hv_parts.specs.Kinds.{AreOf}
use Rattle.hv_parts.specs.Takes.{AllTake, IsMadeAt, IsTakenAt}
use Rattle.hv_parts.specs.Value.{valued}
use Rattle.hv_parts.specs.declared.part.Part.{Part}
use Rattle.hv_parts.specs.declared.part.Part.TheVariants as part
use Rattle.hv_refusal.specs.declared.refusal.Refusal.{Refusal}
use Rattle.hv_region.specs.declared.window.Window.{Window}
use Rattle.hv_rules.specs.Body.{shared_in}
use Rattle.hv_rules.specs.Carry.{Carry}
use Rattle.hv_rules.specs.Dir.{Admits, guest_in}
use Rattle.hv_rules.specs.Footprint.{past_dir, reached_by}
use Rattle.hv_rules.specs.Windows.{window_at}
use Rattle.hv_space.specs.Space.{SpaceState}
use Rattle.hv_step.specs.declared.step.Mem.{Mem}
use Rattle.hv_step.specs.declared.step.Step.TheVariants as steps
use Rattle.hv_access_steps.specs.First.{area_first, window_first}
use Rattle.hv_access_steps.proofs.Admitted.{admitted-take}

-- A guest that is granted is admitted.
granted : (guest : Result Generation Refusal) (shown : Option Generation) (g : Generation) (refused : Refusal → Reply) (r : Reply) (c : Carry) → shown ≡ Some g → shown ≡ result_ok guest
    → Admits guest shown refused r c
granted (Ok guest) shown g refused r c is there = there
granted (Err why) shown g refused r c is there = absurd (cc (is, there))

module _ {E : Type 0} (state : E → DevState) where
  -- The window that holds a range is the one that the space has.
  pub window-first-is : (address size : ℕ) (ps rest : List (Part E)) (space : SpaceState) → ps ≡ part.Space space ∷ rest
      → window_first address size (map (valued state) ps) ≡ window_at space.windows Memory address size
  window-first-is address size ps rest space is = ap (λ (l : List (Part E)). window_first address size (map (valued state) l)) is

  -- The area is that which the region shares.
  pub area-first-is : (window : Window) (address size : ℕ) (ps rest : List (Part E)) (space : SpaceState) (body : Option (Live E)) → ps ≡ part.Space space ∷ part.Body body ∷ rest
      → area_first (Some window) address size (map (valued state) ps) ≡ shared_in (shown_range (seen state body) window address size)
  area-first-is window address size ps rest space body is = ap (λ (l : List (Part E)). area_first (Some window) address size (map (valued state) l)) is

  -- A look that is taken behind the directory is made.
  pub mem-made : (harts : ℕ) (by : ActorId) (s : Mem) (made : Made E) (g : Generation) (window : Option Window) (place : Option (ℕ × ℕ)) (ps front back : List (Part E))
      → s.generation ≡ Some g → IsAdmitted (map (valued state) ps) s.name stages.Made s.generation
      → AreOf (past_dir s.generation (λ g. component.Space g.slot ∷ reached_by g window place)) (map (valued state) ps) → ps ≡ front ++ back → length front ≡ 1
      → (given state made.handed.value).window ≡ window → (given state made.handed.value).area ≡ place
      → IsTakenAt state (component.Space g.slot ∷ reached_by g window place) (steps.Mem s) made back back
      → IsMadeAt state harts by (past_dir s.generation (λ g. component.Space g.slot ∷ reached_by g window place)) (steps.Mem s) made ps ps
  mem-made harts by s made g window place ps front back is admitted are split long through at behind = record {
    touched =
        ap (λ w. past_dir s.generation (λ h. component.Space h.slot ∷ reached_by h w (given state made.handed.value).area)) through
        ∙ ap (λ a. past_dir s.generation (λ h. component.Space h.slot ∷ reached_by h window a)) at;
    taken =
        subst (λ (l : List (Part E)). AllTake by (past_dir s.generation (λ h. component.Space h.slot ∷ reached_by h window place)) (steps.Mem s) made.reply (given state made.handed.value) (map (valued state) ps) (map (valued state) l)) (sym split)
        (admitted-take (valued state) by (steps.Mem s) made.reply (given state made.handed.value) s.name stages.Made s.generation
        (λ h. component.Space h.slot ∷ reached_by h window place) g ps front back back
        (λ d there. record { agrees = granted (guest_in d s.name stages.Made) s.generation g (λ why. replies.Mem (Err why)) made.reply (given state made.handed.value) is there; after = refl })
        is admitted are split long (behind.taken by));
    alone = behind.alone;
    told = behind.told;
  }
