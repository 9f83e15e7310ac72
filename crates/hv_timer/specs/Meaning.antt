-- What a timer's fields mean.
use Rattle.std.specs.Prelude.{length}
use Rattle.hv_emu.specs.Timer.{TimerState}
use Rattle.hv_timer.specs.declared.timer.Timer.{Timer}

-- A timer has as many contexts as it has words for them.
abbrev pub meaning : Timer → TimerState
meaning t =
    record {
      contexts = length t.msip.items;
      msip = t.msip.items;
      mtimecmp = t.mtimecmp.items;
      mtime = t.mtime;
    }
