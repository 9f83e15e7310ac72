-- The search for the best entry, entry by entry. No public clause uses it.
use Rattle.std.specs.Prelude.{nat_lt, if◌then◌else◌, Option, Some, None}
use Rattle.hv_queue.specs.declared.entry.QueueEntry.{QueueEntry}

-- The best entry, once one more is seen.
abbrev pub later : Option QueueEntry → QueueEntry → Option QueueEntry
later None e = Some e
later (Some f) e = if nat_lt f.priority e.priority then Some e else Some f
