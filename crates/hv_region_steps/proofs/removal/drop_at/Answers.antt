use Rattle.std.proofs.Common.{◌≡◌, ℕ, List, [], ◌∷◌, Option, Some, refl, ap, ◌∙◌}
use Rattle.std.specs.Prelude.{Err}
use Rattle.hv_answer.specs.declared.reply.Reply.TheVariants as replies
use Rattle.hv_body.specs.Body.{seen}
use Rattle.hv_event.specs.declared.event.CellId.{CellId}
use Rattle.hv_event.specs.declared.event.CellId.TheVariants as component
use Rattle.hv_guest_steps.specs.Regions.{drop_carry}
use Rattle.hv_handed.proofs.Learnt.{alone-as, told-as}
use Rattle.hv_handed.specs.Given.{given}
use Rattle.hv_kinds.specs.declared.generation.Generation.{Generation}
use Rattle.hv_parts.specs.Value.{valued}
use Rattle.hv_parts.specs.declared.part.Part.TheVariants as part
use Rattle.hv_rules.specs.Carry.{Carry}
use Rattle.hv_rules.specs.Dir.{guest_in}
use Rattle.hv_rules.specs.Footprint.{changed_body, if_made}
use Rattle.hv_rules.specs.Space.{alias_in}
use Rattle.hv_step.specs.declared.step.Step.TheVariants as steps
use Rattle.hv_region_steps.proofs.Admitted.{region-admits}
use Rattle.hv_region_steps.proofs.Answered.{drop-made, told-where}
use Rattle.hv_region_steps.proofs.Standing.{changed-is, four-take, past-same}
use Rattle.hv_region_steps.specs.Regions.{changed_row}
use Rattle.hv_region_steps.proofs.removal.drop_at.Goals as goal

pub returns-clause-made : goal.returns-clause-made
returns-clause-made g c =
    λ harts by.
    let f = valued g.E.Emulator.state in
    let s = c.args.step.now in
    let r = c.in_ok-made.made.0 in
    let k : Carry = given g.E.Emulator.state c.in_ok-made.made.1.value in
    let target : Option (ℕ × ℕ) = alias_in c.args.window in
    let row : ℕ = changed_row c.args.row target in
    let carry : Carry = drop_carry c.args.row target (seen g.E.Emulator.state c.body_mut-body.result.now) in
    let taken = c.in_ok-made.ensures.taken in
    let handed = c.in_ok-made.ensures.handed in
    let has : k.row ≡ Some c.args.row = ap (λ (o : Carry). o.row) handed in
    let leads : k.target ≡ target = ap (λ (o : Carry). o.target) handed in
    record {
      touched =
          past-same s.generation (λ guest. component.Shelf ∷ component.Space guest.slot ∷ if_made r (changed_body guest k.row k.target))
          (λ guest. component.Shelf ∷ component.Space guest.slot ∷ component.Body guest.slot row ∷ []) (
          λ (guest : Generation).
          ap (λ (xs : List CellId). component.Shelf ∷ component.Space guest.slot ∷ xs) (
          drop-made row s r k (seen g.E.Emulator.state c.body_mut-body.result.now) (seen g.E.Emulator.state c.drop.new.body) (changed_body guest k.row k.target)
          (taken.body row s)
          ∙ changed-is guest k.row target k.target c.args.row has leads
          )
          );
      taken =
          four-take by (steps.Drop s) r k f s.name s.stage s.generation row c.args.parts.now c.split_at_mut-front.result.0.now c.split_at_mut-front.result.1.now
          c.split_at_mut-spaces.result.0.now c.split_at_mut-spaces.result.1.now c.index-front-1.result c.index-spaces-0.result c.index-bodies-0.result
          (part.Shelf c.shelf_mut-shelf.result.now) (part.Space c.space_mut-space.result.now) (part.Body c.body_mut-body.result.now) (part.Shelf c.drop.new.shelf)
          (part.Space c.drop.new.space) (part.Body c.drop.new.body) (
          λ d there is.
          record {
            agrees = region-admits (guest_in d s.name s.stage) k.row c.args.row s.generation (λ why. replies.Drop (Err why)) r k has there is;
            after = refl;
          }
          ) c.requires.admitted c.requires.parts c.split_at_mut-front.ensures.value c.split_at_mut-front.ensures.front_len c.split_at_mut-spaces.ensures.value
          c.split_at_mut-spaces.ensures.front_len c.shelf_mut-shelf.ensures.value c.space_mut-space.ensures.value c.body_mut-body.ensures.value (taken.shelf s)
          (λ slot. taken.space s) (λ slot. taken.body row s);
      alone = alone-as (steps.Drop s) k carry handed refl;
      told = told-as k carry _ handed (told-where carry c.nothing-told.result c.parent_dropped-told.result c.nothing-told.ensures (refl, refl, refl, refl) c.parent_dropped-told.ensures);
    }
