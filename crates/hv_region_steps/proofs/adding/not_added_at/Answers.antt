use Rattle.std.proofs.Common.{◌≡◌, List, [], ◌∷◌, Some, map, refl, sym, ap}
use Rattle.std.specs.Prelude.{Err}
use Rattle.hv_answer.specs.declared.reply.Reply.TheVariants as replies
use Rattle.hv_event.specs.declared.event.CellId.{CellId}
use Rattle.hv_event.specs.declared.event.CellId.TheVariants as component
use Rattle.hv_guest_steps.specs.Additions.{not_added_carry, region_at}
use Rattle.hv_handed.proofs.Learnt.{alone-as, untold}
use Rattle.hv_handed.specs.Given.{given}
use Rattle.hv_kinds.specs.declared.generation.Generation.{Generation}
use Rattle.hv_parts.specs.Value.{PartValue, valued}
use Rattle.hv_rules.specs.Carry.{Carry}
use Rattle.hv_rules.specs.Dir.{guest_in}
use Rattle.hv_rules.specs.Footprint.{changed_body, if_made}
use Rattle.hv_rules.specs.Windows.{Region}
use Rattle.hv_step.specs.declared.step.Step.TheVariants as steps
use Rattle.hv_region_steps.proofs.Admitted.{region-admits}
use Rattle.hv_region_steps.proofs.Answered.{add-refused}
use Rattle.hv_region_steps.proofs.Standing.{past-same, refused-later}
use Rattle.hv_region_steps.specs.Regions.{pool_in, space_in}
use Rattle.hv_region_steps.proofs.adding.not_added_at.Goals as goal

pub returns-clause-made : goal.returns-clause-made
returns-clause-made g c =
    λ harts by.
    let f = valued g.E.Emulator.state in
    let s = c.args.step.now in
    let vs : List PartValue = map f c.args.parts.now in
    let r = c.not_added-reply.result.0 in
    let k : Carry = given g.E.Emulator.state c.not_added-reply.result.1.value in
    let region : Region = region_at c.args.at c.args.plan.now in
    let handed = c.not_added-reply.ensures.handed in
    let has : k.row ≡ Some c.args.at.row = ap (λ (o : Carry). o.row) handed in
    let shelf = c.not_added-reply.ensures.shelf s (space_in vs).windows (pool_in vs) c.requires.refused in
    record {
      touched =
          past-same s.generation (λ guest. component.Shelf ∷ component.Space guest.slot ∷ if_made r (changed_body guest k.row k.target))
          (λ guest. component.Shelf ∷ component.Space guest.slot ∷ []) (
          λ (guest : Generation).
          ap (λ (xs : List CellId). component.Shelf ∷ component.Space guest.slot ∷ xs)
          (add-refused s r k region c.args.why (space_in vs).windows (pool_in vs) (pool_in vs) (changed_body guest k.row k.target) handed c.requires.refused shelf)
          );
      taken =
          refused-later by (steps.Add s) r k s.name s.stage s.generation vs (
          λ d there is.
          record {
            agrees = region-admits (guest_in d s.name s.stage) k.row c.args.at.row s.generation (λ why. replies.Add (Err why)) r k has there is;
            after = refl;
          }
          ) c.requires.admitted c.requires.parts shelf (c.not_added-reply.ensures.space s (space_in vs) (pool_in vs) c.requires.guest c.requires.refused);
      alone = alone-as (steps.Add s) k (not_added_carry region c.args.why) handed refl;
      told = untold k (not_added_carry region c.args.why) _ (sym handed) (refl, refl, refl, refl, refl) c.nothing.ensures;
    }
