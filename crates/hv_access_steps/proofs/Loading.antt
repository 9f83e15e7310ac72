-- Files that are loaded, at components that stand behind the files.
use Rattle.std.proofs.Common.{◌≡◌, ℕ, List, [], ◌∷◌, ◌++◌, map, length, slice_index_or, refl, ap, subst, ◌∙◌, arith, Option, Some}
use Rattle.std.specs.Prelude.{Result, Ok, Err, IfErr}
use Rattle.std.specs.Result.{result_ok}
use Rattle.hv_answer.specs.declared.reply.Reply.{Reply}
use Rattle.hv_answer.specs.declared.reply.Reply.TheVariants as replies
use Rattle.hv_emu.specs.Device.{DevState}
use Rattle.hv_event.specs.declared.event.CellId.{CellId}
use Rattle.hv_event.specs.declared.event.CellId.TheVariants as component
use Rattle.hv_files.specs.declared.refusal.FileRefusal.{FileRefusal}
use Rattle.hv_handed.specs.Given.{given}
use Rattle.hv_handed.specs.declared.told.Made.{Made}
use Rattle.hv_model.specs.Files.{FileMap, GivesFile, answered, read_file}
use Rattle.hv_parts.specs.Takes.{IsTakenAt}
use Rattle.hv_parts.specs.Value.{PartValue, valued}
use Rattle.hv_parts.specs.declared.part.Part.{Part}
use Rattle.hv_parts.specs.declared.part.Part.TheVariants as part
use Rattle.hv_parts.specs.Kinds.{AreOf, IsPartOf}
use Rattle.hv_refusal.specs.declared.refusal.Refusal.{Refusal}
use Rattle.hv_region.specs.declared.window.Window.{Window}
use Rattle.hv_rules.specs.Carry.{Carry}
use Rattle.hv_step.specs.declared.step.Load.{Load}
use Rattle.hv_step.specs.declared.step.Step.TheVariants as steps
use Rattle.hv_body.specs.Body.{seen}
use Rattle.hv_body.specs.declared.live.Live.{Live}
use Rattle.hv_memory_steps.specs.Ranges.{shown_range}
use Rattle.hv_parts.specs.Value as value
use Rattle.hv_rules.specs.Body.{shared_in}
use Rattle.hv_space.specs.Space.{SpaceState}
use Rattle.hv_access_steps.specs.First.{StandFirst, area_for, behind, size_first, size_of}
use Rattle.hv_access_steps.specs.Hands.{found_carry}
use Rattle.hv_access_steps.proofs.Lists.{both-take, one-stays}

-- What is found has as many bytes as the file.
answered-size : (file : Result (List ℕ) FileRefusal) → size_of (answered file) ≡ size_of file
answered-size (Ok bytes) = refl
answered-size (Err why) = refl

pub found-size : (file : Result (List ℕ) FileRefusal) (found : Result (List ℕ) Refusal) → found ≡ answered file → size_of found ≡ size_of file
found-size file found is = ap size_of is ∙ answered-size file

-- The files give what is found.
gives : (file : Result (List ℕ) FileRefusal) (found : Result (List ℕ) Refusal) (r : Reply) (c : Carry) (window : Option Window) (place : Option (ℕ × ℕ)) → found ≡ answered file
    → c ≡ found_carry (result_ok found) window place → IfErr found (λ why. r ≡ replies.Load (Err why)) → GivesFile file r c
gives (Ok bytes) found r c window place is handed refused = ap (λ (k : Carry). k.bytes) handed ∙ ap result_ok is
gives (Err why) found r c window place is handed refused =
    (subst (λ (k : Result (List ℕ) Refusal). IfErr k (λ why. r ≡ replies.Load (Err why))) is refused, ap (λ (k : Carry). k.bytes) handed ∙ ap result_ok is)

module _ {E : Type 0} (state : E → DevState) where
  -- The files tell how many bytes a load has.
  pub size-first-is : (s : Load) (ps front back : List (Part E)) (a : Part E) (files : FileMap) → ps ≡ front ++ back → length front ≡ 1 → slice_index_or front 0 a ≡ part.Files files
      → size_first s (map (valued state) ps) ≡ size_of (read_file files s.path)
  size-first-is s ps [] back a files split long at = absurd (omega (arith, long))
  size-first-is s ps (p ∷ q ∷ front) back a files split long at = absurd (omega (arith, long))
  size-first-is s ps (p ∷ []) back a files split long at =
      ap (λ (l : List (Part E)). size_first s (map (valued state) l)) (split ∙ ap (λ (k : Part E). k ∷ back) at)

  -- A load that is taken behind the files is taken by them too.
  pub load-taken : (s : Load) (made : Made E) (xs : List CellId) (ps front back back' : List (Part E)) (a : Part E) (files : FileMap) (found : Result (List ℕ) Refusal) (window : Option Window) (place : Option (ℕ × ℕ))
      → AreOf (component.Files ∷ []) (map (valued state) front) → ps ≡ front ++ back → length front ≡ 1 → slice_index_or front 0 a ≡ part.Files files
      → found ≡ answered (read_file files s.path) → given state made.handed.value ≡ found_carry (result_ok found) window place
      → IfErr found (λ why. made.reply ≡ replies.Load (Err why)) → IsTakenAt state xs (steps.Load s) made back back'
      → IsTakenAt state (component.Files ∷ xs) (steps.Load s) made ps (front ++ back')
  load-taken s made xs ps front back back' a files found window place are split long at found-is handed refused behind = record {
    taken =
        λ by.
        both-take (valued state) by (steps.Load s) made.reply (given state made.handed.value) component.Files xs ps front back front back' split long
        (one-stays (valued state) by (steps.Load s) made.reply (given state made.handed.value) component.Files front a (part.Files files) are at
        (record { agrees = gives (read_file files s.path) found made.reply (given state made.handed.value) window place found-is handed refused; after = refl }))
        (behind.taken by);
    alone = behind.alone;
    told = behind.told;
  }

  space-there : (p : Part E) → IsPartOf (component.Space 0) (valued state p) → (space : SpaceState) × (valued state p ≡ value.Space space)
  space-there (part.Space space) is = (space, refl)
  space-there (part.Dir x) is = absurd is
  space-there (part.Shelf x) is = absurd is
  space-there (part.Files x) is = absurd is
  space-there (part.Queue x) is = absurd is
  space-there (part.Vcpu x) is = absurd is
  space-there (part.Body x) is = absurd is
  space-there (part.Area x) is = absurd is

  -- The area that takes a file is that which the region shares.
  pub area-loaded-is : (s : Load) (window : Window) (ps : List (Part E)) (a b : Part E) (files : FileMap) (body : Option (Live E)) (size : ℕ)
      → StandFirst (component.Dir ∷ component.Files ∷ component.Space 0 ∷ component.Body 0 0 ∷ []) (map (valued state) ps) → slice_index_or ps 1 a ≡ part.Files files → slice_index_or ps 3 b ≡ part.Body body
      → size_of (read_file files s.path) ≡ Some size
      → area_for (Some window) s.address (size_first s (behind (map (valued state) ps))) (behind (behind (map (valued state) ps))) ≡ shared_in (shown_range (seen state body) window s.address size)
  area-loaded-is s window [] a b files body size are at0 at1 is = absurd are
  area-loaded-is s window (p ∷ []) a b files body size are at0 at1 is = absurd are.1
  area-loaded-is s window (p ∷ q ∷ []) a b files body size are at0 at1 is = absurd are.1.1
  area-loaded-is s window (p ∷ q ∷ t ∷ []) a b files body size are at0 at1 is = absurd are.1.1.1
  area-loaded-is s window (p ∷ q ∷ t ∷ u ∷ rest) a b files body size are at0 at1 is =
      let there = space-there t are.1.1.0 in
      ap (λ v. area_for (Some window) s.address (size_first s (v ∷ valued state t ∷ valued state u ∷ map (valued state) rest)) (valued state t ∷ valued state u ∷ map (valued state) rest)) (ap (valued state) at0)
      ∙ (ap (λ n. area_for (Some window) s.address n (valued state t ∷ valued state u ∷ map (valued state) rest)) is
      ∙ (ap (λ v. area_for (Some window) s.address (Some size) (v ∷ valued state u ∷ map (valued state) rest)) there.1
      ∙ ap (λ v. area_for (Some window) s.address (Some size) (value.Space there.0 ∷ v ∷ map (valued state) rest)) (ap (valued state) at1)))
