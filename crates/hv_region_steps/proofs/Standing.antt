-- The pool, a space and a body, which stand behind the directory where a region is added or dropped.
use Rattle.std.proofs.Common.{◌≡◌, ℕ, List, [], ◌∷◌, ◌++◌, map, length, slice_index_or, slice_set, Option, None, Some, refl, sym, subst, ap, ◌∙◌, arith}
use Rattle.std.specs.Prelude.{IsSome}
use Rattle.std.specs.Result.{result_ok}
use Rattle.hv_answer.specs.declared.reply.Reply.{Reply}
use Rattle.hv_dir.specs.Directory.{DirState}
use Rattle.hv_event.specs.declared.event.ActorId.{ActorId}
use Rattle.hv_event.specs.declared.event.CellId.{CellId}
use Rattle.hv_event.specs.declared.event.CellId.TheVariants as component
use Rattle.hv_handed.specs.Takes.{DirTakes, ShelfTakes, SpaceTakes}
use Rattle.hv_kinds.specs.declared.generation.Generation.{Generation}
use Rattle.hv_kinds.specs.declared.stage.Stage.{Stage}
use Rattle.hv_parts.proofs.Directories.{past-take}
use Rattle.hv_parts.proofs.Lists.{one-takes}
use Rattle.hv_parts.specs.Admission.{IsAdmitted}
use Rattle.hv_parts.specs.Kinds.{IsPartOf, AreOf}
use Rattle.hv_parts.specs.Takes.{PartTakes, AllTake}
use Rattle.hv_parts.specs.Value as value
use Rattle.hv_parts.specs.Value.{PartValue}
use Rattle.hv_rules.specs.Carry.{Carry}
use Rattle.hv_rules.specs.Dir.{guest_in}
use Rattle.hv_rules.specs.Footprint.{changed_body, past_dir}
use Rattle.hv_step.specs.declared.step.Step.{Step}
use Rattle.hv_region_steps.specs.Regions.{changed_row, pool_in, space_in}

-- What a step on a guest touches, where the components behind the directory are the same.
pub past-same :
    (shown : Option Generation) (one other : Generation → List CellId) → ((guest : Generation) → one guest ≡ other guest) → past_dir shown one ≡ past_dir shown other
past-same None one other same = refl
past-same (Some guest) one other same = ap (λ (xs : List CellId). component.Dir ∷ xs) (same guest)

-- The body that is changed is that of one row.
pub changed-is :
    (guest : Generation) (row : Option ℕ) (target there : Option (ℕ × ℕ)) (k : ℕ) → row ≡ Some k → there ≡ target
    → changed_body guest row there ≡ component.Body guest.slot (changed_row k target) ∷ []
changed-is guest row None there k has leads =
    ap (λ (o : Option ℕ). changed_body guest o there) has ∙ ap (λ (t : Option (ℕ × ℕ)). changed_body guest (Some k) t) leads
changed-is guest row (Some target) there k has leads =
    ap (λ (o : Option ℕ). changed_body guest o there) has ∙ ap (λ (t : Option (ℕ × ℕ)). changed_body guest (Some k) t) leads

module _ (by : ActorId) (s : Step) (r : Reply) (c : Carry) where
  shelf-takes :
      (first v : PartValue) (vs : List PartValue) → IsPartOf component.Shelf v → ShelfTakes s r c (pool_in (first ∷ v ∷ vs)) (pool_in (first ∷ v ∷ vs))
      → PartTakes by component.Shelf s r c v v
  shelf-takes first (value.Shelf devices) vs is takes = takes
  shelf-takes first _ vs is takes = absurd is

  space-takes :
      (slot : ℕ) (first second v : PartValue) (vs : List PartValue) → IsPartOf (component.Space slot) v
      → SpaceTakes s r c (space_in (first ∷ second ∷ v ∷ vs)) (space_in (first ∷ second ∷ v ∷ vs)) → PartTakes by (component.Space slot) s r c v v
  space-takes slot first second (value.Space space) vs is takes = takes
  space-takes slot first second _ vs is takes = absurd is

  -- The pool and a space take a step as they are.
  both-take :
      (slot : ℕ) (first : PartValue) (vs : List PartValue) → AreOf (component.Shelf ∷ component.Space slot ∷ []) vs
      → ShelfTakes s r c (pool_in (first ∷ vs)) (pool_in (first ∷ vs)) → SpaceTakes s r c (space_in (first ∷ vs)) (space_in (first ∷ vs))
      → AllTake by (component.Shelf ∷ component.Space slot ∷ []) s r c vs vs
  both-take slot first [] are shelf space = absurd are
  both-take slot first (v ∷ []) are shelf space = absurd are.1
  both-take slot first (v ∷ w ∷ []) are shelf space =
      (shelf-takes first v (w ∷ []) are.0 shelf, (space-takes slot first v w [] are.1.0 space, tt))
  both-take slot first (v ∷ w ∷ x ∷ vs) are shelf space = absurd are.1.1

  none-are : (shown : Option Generation) (xs : Generation → List CellId) → AreOf (past_dir shown xs) [] → ⊥
  none-are None xs are = are
  none-are (Some guest) xs are = are

  -- So do they behind the directory.
  pub refused-later :
      (name : List ℕ) (stage : Stage) (shown : Option Generation) (vs : List PartValue)
      → ((d : DirState) → IsSome shown → shown ≡ result_ok (guest_in d name stage) → DirTakes s r c d d) → IsAdmitted vs name stage shown
      → AreOf (past_dir shown (λ guest. component.Shelf ∷ component.Space guest.slot ∷ [])) vs → ShelfTakes s r c (pool_in vs) (pool_in vs)
      → SpaceTakes s r c (space_in vs) (space_in vs) → AllTake by (past_dir shown (λ guest. component.Shelf ∷ component.Space guest.slot ∷ [])) s r c vs vs
  refused-later name stage shown [] takes admitted are shelf space = absurd (none-are shown (λ guest. component.Shelf ∷ component.Space guest.slot ∷ []) are)
  refused-later name stage shown (v ∷ vs) takes admitted are shelf space =
      past-take by s r c name stage shown (λ guest. component.Shelf ∷ component.Space guest.slot ∷ []) v vs vs takes admitted are
      (λ guest those. both-take guest.slot v vs those shelf space)

  -- The pool, a space and a body are changed behind the directory.
  pub four-take :
      {P : Type 0} (f : P → PartValue) (name : List ℕ) (stage : Stage) (shown : Option Generation) (row : ℕ) (ps front back spaces bodies : List P)
      (a1 a2 a3 q t b q' t' b' : P) → ((d : DirState) → IsSome shown → shown ≡ result_ok (guest_in d name stage) → DirTakes s r c d d)
      → IsAdmitted (map f ps) name stage shown
      → AreOf (past_dir shown (λ guest. component.Shelf ∷ component.Space guest.slot ∷ component.Body guest.slot row ∷ [])) (map f ps)
      → ps ≡ front ++ back → length front ≡ 2 → back ≡ spaces ++ bodies → length spaces ≡ 1
      → slice_index_or front 1 a1 ≡ q → slice_index_or spaces 0 a2 ≡ t → slice_index_or bodies 0 a3 ≡ b
      → PartTakes by component.Shelf s r c (f q) (f q') → ((slot : ℕ) → PartTakes by (component.Space slot) s r c (f t) (f t'))
      → ((slot : ℕ) → PartTakes by (component.Body slot row) s r c (f b) (f b'))
      → AllTake by (past_dir shown (λ guest. component.Shelf ∷ component.Space guest.slot ∷ component.Body guest.slot row ∷ [])) s r c
      (map f ps) (map f (slice_set front 1 q' ++ (slice_set spaces 0 t' ++ slice_set bodies 0 b')))
  four-take f name stage shown row ps [] back spaces bodies a1 a2 a3 q t b q' t' b' takes admitted are is long is' long' is1 is2 is3 shelf space body =
      absurd (omega (arith, long))
  four-take f name stage shown row ps (p ∷ []) back spaces bodies a1 a2 a3 q t b q' t' b' takes admitted are is long is' long' is1 is2 is3 shelf space body =
      absurd (omega (arith, long))
  four-take f name stage shown row ps (p ∷ p1 ∷ p2 ∷ front) back spaces bodies a1 a2 a3 q t b q' t' b' takes admitted are is long is' long' is1 is2 is3 shelf space body =
      absurd (omega (arith, long))
  four-take f name stage shown row ps (p ∷ p1 ∷ []) back [] bodies a1 a2 a3 q t b q' t' b' takes admitted are is long is' long' is1 is2 is3 shelf space body =
      absurd (omega (arith, long'))
  four-take f name stage shown row ps (p ∷ p1 ∷ []) back (p2 ∷ p3 ∷ spaces) bodies a1 a2 a3 q t b q' t' b' takes admitted are is long is' long' is1 is2 is3 shelf space body =
      absurd (omega (arith, long'))
  four-take {P = P} f name stage shown row ps (p ∷ p1 ∷ []) back (p2 ∷ []) bodies a1 a2 a3 q t b q' t' b' takes admitted are is long is' long' is1 is2 is3 shelf space body =
      let behind : Generation → List CellId = λ guest. component.Shelf ∷ component.Space guest.slot ∷ component.Body guest.slot row ∷ [] in
      let whole : ps ≡ p ∷ p1 ∷ p2 ∷ bodies = is ∙ ap (λ (l : List P). p ∷ p1 ∷ l) is' in
      subst (λ (l : List P). AllTake by (past_dir shown behind) s r c (map f l) (f p ∷ f q' ∷ f t' ∷ map f (slice_set bodies 0 b'))) (sym whole) (
      past-take by s r c name stage shown behind (f p) (f p1 ∷ f p2 ∷ map f bodies) (f q' ∷ f t' ∷ map f (slice_set bodies 0 b')) takes
      (subst (λ (l : List P). IsAdmitted (map f l) name stage shown) whole admitted)
      (subst (λ (l : List P). AreOf (past_dir shown behind) (map f l)) whole are) (
      λ guest those. (
        subst (λ (x : P). PartTakes by component.Shelf s r c (f x) (f q')) (sym is1) shelf,
        (
          subst (λ (x : P). PartTakes by (component.Space guest.slot) s r c (f x) (f t')) (sym is2) (space guest.slot),
          one-takes f by s r c (component.Body guest.slot row) bodies a3 b b' those.1.1 is3 (body guest.slot),
        ),
      )
      )
      )
