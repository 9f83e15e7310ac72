use Rattle.std.proofs.Common.{ℕ, List, Option, refl, sym, subst, ap, ◌∙◌}
use Rattle.std.specs.Result.{result_ok}
use Rattle.hv_dir.specs.Directory.{guest_at}
use Rattle.hv_event.specs.declared.event.CellId.TheVariants as component
use Rattle.hv_handed.specs.Given.{given}
use Rattle.hv_parts.specs.Value.{valued}
use Rattle.hv_parts.specs.declared.part.Part.TheVariants as part
use Rattle.hv_step.specs.declared.step.Step.TheVariants as steps
use Rattle.hv_handed.proofs.Learnt.{alone-as, told-as, told-guest}
use Rattle.hv_handed.specs.Takes.{DirTakes}
use Rattle.hv_parts.proofs.Lists.{one-takes}
use Rattle.hv_rules.specs.Carry.{Carry, nothing}
use Rattle.hv_region_steps.proofs.directory.stage_at.Goals as goal

pub returns : goal.returns
returns g c =
    λ harts by.
    let f = valued g.E.Emulator.state in
    let s = c.args.step.now in
    let d = c.directory_mut-directory.result.now in
    let r = c.stage-reply.result.0 in
    let k : Carry = given g.E.Emulator.state c.stage-reply.result.1.value in
    let guest : Option (ℕ × ℕ) = result_ok (guest_at d c.as_slice.result.now s.from) in
    record {
      touched = refl;
      taken =
          one-takes f by (steps.Stage s) r k component.Dir c.args.parts.now c.index-parts-0.result (part.Dir d) (part.Dir c.stage-reply.new.dir) c.requires
          c.directory_mut-directory.ensures.value
          (subst (λ (n : List ℕ). DirTakes (steps.Stage (record { name = n; from = s.from; to = s.to })) r k d c.stage-reply.new.dir) c.as_slice.ensures
          c.stage-reply.ensures.dir);
      alone = alone-as (steps.Stage s) k (record nothing { guest = guest }) c.stage-reply.ensures.handed refl;
      told =
          told-as k (record nothing { guest = guest }) _ c.stage-reply.ensures.handed (
          told-guest c.nothing-told.result guest c.guest_of-told.result c.nothing-told.ensures (
          c.guest_of-told.ensures ∙ ap (λ (n : List ℕ). result_ok (guest_at d n s.from)) (sym c.as_slice.ensures)
          )
          );
    }
