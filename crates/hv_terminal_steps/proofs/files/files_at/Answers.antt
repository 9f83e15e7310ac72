use Rattle.hv_event.specs.declared.event.CellId.TheVariants as component
use Rattle.hv_handed.specs.Given.{given}
use Rattle.hv_parts.specs.Value.{valued}
use Rattle.hv_parts.specs.declared.part.Part.TheVariants as part
use Rattle.hv_rules.specs.Carry.{nothing}
use Rattle.hv_terminal_steps.proofs.FilesSteps.{files-touched, files-alone, files-take}
use Rattle.hv_parts.proofs.Lists.{one-takes}
use Rattle.hv_handed.proofs.Learnt.{alone-as, told-as}
use Rattle.hv_terminal_steps.proofs.files.files_at.Goals as goal

pub returns-clause-made : goal.returns-clause-made
returns-clause-made g c =
    λ harts by.
    record {
      touched = files-touched harts by c.args.step.now c.in_ok-reply.reply (given g.E.Emulator.state c.hand_nothing.result.value) c.requires.step;
      taken =
          one-takes (valued g.E.Emulator.state) by c.args.step.now c.in_ok-reply.reply (given g.E.Emulator.state c.hand_nothing.result.value) component.Files c.args.parts.now c.index-parts-0.result
          (part.Files c.files_mut.result.now) (part.Files c.files_part.new.files) c.requires.parts c.files_mut.ensures.value
          (files-take c.args.step.now c.in_ok-reply.reply _ _ _ c.hand_nothing.ensures c.in_ok-reply.ensures.reply c.in_ok-reply.ensures.after);
      alone = alone-as c.args.step.now _ nothing c.hand_nothing.ensures (files-alone c.args.step.now c.requires.step);
      told = told-as _ nothing _ c.hand_nothing.ensures c.nothing.ensures;
    }
