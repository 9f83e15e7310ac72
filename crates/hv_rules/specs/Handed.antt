-- What each step hands over: of a carry, the fields that its row names; the actor sees to it that no others are.
use Rattle.hv_step.specs.declared.step.Step.{Step}
use Rattle.hv_step.specs.declared.step.Step.TheVariants as step
use Rattle.hv_rules.specs.Carry.{Carry, nothing}

abbrev pub handed_over : Step → Carry → Carry
handed_over (step.Run s) c = record nothing { lines = c.lines }
handed_over (step.Name s) c = record nothing { stopped = c.stopped }
handed_over (step.Stage s) c = record nothing { guest = c.guest }
handed_over (step.Add s) c =
    record nothing {
      row = c.row;
      plan = c.plan;
      stopped = c.stopped;
      target = c.target;
      device = c.device;
      parent = c.parent;
    }
handed_over (step.Drop s) c = record nothing { row = c.row; target = c.target; device = c.device; parent = c.parent }
handed_over (step.Load s) c = record nothing { bytes = c.bytes; window = c.window; area = c.area }
handed_over (step.Mem s) c = record nothing { window = c.window; area = c.area }
handed_over (step.Devreset s) c = record nothing { row = c.row; parent = c.parent }
handed_over (step.Feed s) c = record nothing { row = c.row; parent = c.parent }
handed_over (step.Output s) c = record nothing { row = c.row }
handed_over (step.Vadd s) c = record nothing { vcpu = c.vcpu }
handed_over (step.Kick s) c = record nothing { priority = c.priority }
handed_over (step.Resume s) c = record nothing { priority = c.priority }
handed_over (step.Preempt s) c = record nothing { priority = c.priority }
handed_over (step.Pin s) c = record nothing { priority = c.priority }
handed_over (step.Balance s) c = record nothing { lengths = c.lengths; moved = c.moved }
handed_over (step.Tick s) c = record nothing { clock = c.clock; parent = c.parent }
handed_over (step.Fetch s) c = record nothing { pc = c.pc; pending = c.pending; area = c.area }
handed_over (step.Access s) c = record nothing { pending = c.pending; area = c.area; parent = c.parent }
handed_over s c = nothing
