use Rattle.std.proofs.Common.{◌≡◌, List, [], ◌∷◌, Some, map, refl, sym, ap}
use Rattle.std.specs.Prelude.{Err}
use Rattle.hv_answer.specs.declared.reply.Reply.TheVariants as replies
use Rattle.hv_event.specs.declared.event.CellId.{CellId}
use Rattle.hv_event.specs.declared.event.CellId.TheVariants as component
use Rattle.hv_guest_steps.specs.Regions.{not_live_carry}
use Rattle.hv_handed.proofs.Learnt.{alone-as, untold}
use Rattle.hv_handed.specs.Given.{given}
use Rattle.hv_kinds.specs.declared.generation.Generation.{Generation}
use Rattle.hv_parts.specs.Value.{PartValue, valued}
use Rattle.hv_rules.specs.Carry.{Carry}
use Rattle.hv_rules.specs.Dir.{guest_in}
use Rattle.hv_rules.specs.Footprint.{changed_body, if_made}
use Rattle.hv_step.specs.declared.step.Step.TheVariants as steps
use Rattle.hv_region_steps.proofs.Admitted.{region-admits}
use Rattle.hv_region_steps.proofs.Answered.{drop-refused}
use Rattle.hv_region_steps.proofs.Standing.{past-same, refused-later}
use Rattle.hv_region_steps.specs.Regions.{pool_in, space_in}
use Rattle.hv_region_steps.proofs.removal.not_live_at.Goals as goal

pub returns-clause-made : goal.returns-clause-made
returns-clause-made g c =
    λ harts by.
    let f = valued g.E.Emulator.state in
    let s = c.args.step.now in
    let vs : List PartValue = map f c.args.parts.now in
    let r = c.not_live-reply.result.0 in
    let k : Carry = given g.E.Emulator.state c.not_live-reply.result.1.value in
    let handed = c.not_live-reply.ensures.handed in
    let has : k.row ≡ Some c.args.row = ap (λ (o : Carry). o.row) handed in
    let space = c.not_live-reply.ensures.space s (space_in vs) c.requires.gone in
    record {
      touched =
          past-same s.generation (λ guest. component.Shelf ∷ component.Space guest.slot ∷ if_made r (changed_body guest k.row k.target))
          (λ guest. component.Shelf ∷ component.Space guest.slot ∷ []) (
          λ (guest : Generation).
          ap (λ (xs : List CellId). component.Shelf ∷ component.Space guest.slot ∷ xs)
          (drop-refused s r k c.args.row (space_in vs) (space_in vs) (changed_body guest k.row k.target) handed c.requires.gone space)
          );
      taken =
          refused-later by (steps.Drop s) r k s.name s.stage s.generation vs (
          λ d there is.
          record {
            agrees = region-admits (guest_in d s.name s.stage) k.row c.args.row s.generation (λ why. replies.Drop (Err why)) r k has there is;
            after = refl;
          }
          ) c.requires.admitted c.requires.parts (c.not_live-reply.ensures.shelf s (pool_in vs)) space;
      alone = alone-as (steps.Drop s) k (not_live_carry c.args.row) handed refl;
      told = untold k (not_live_carry c.args.row) _ (sym handed) (refl, refl, refl, refl, refl) c.nothing.ensures;
    }
