-- What a controller's fields mean.
use Rattle.std.specs.Prelude.{length}
use Rattle.hv_emu.specs.Plic.{PlicState}
use Rattle.hv_plic.specs.declared.plic.Plic.{Plic}

-- A controller has as many contexts as it has words for them.
abbrev pub meaning : Plic → PlicState
meaning p =
    record {
      contexts = length p.enable.items;
      priority = p.priority;
      level = p.level;
      pending = p.pending;
      service = p.service;
      enable = p.enable.items;
      threshold = p.threshold.items;
    }
