-- Lines of terminals at several points: the life of a guest of two VCPUs with a RAM, an alias of it, a serial port and
-- a region that isn't built.
use Rattle.std.specs.Prelude.{ℕ, Bool, true, false, None, Ok, Err, List, [], ◌∷◌, codes}
use Rattle.hv_answer.specs.declared.reply.Reply.{Reply}
use Rattle.hv_answer.specs.declared.reply.Reply.TheVariants as reply
use Rattle.hv_kinds.specs.declared.address.AddressType.TheVariants.{Memory}
use Rattle.hv_kinds.specs.declared.changes.SignalChanges.{SignalChanges}
use Rattle.hv_kinds.specs.declared.generation.Generation.{Generation}
use Rattle.hv_region.specs.declared.plan.Form.{Form}
use Rattle.hv_region.specs.declared.plan.Form.TheVariants.{Ram, Device, Alias}
use Rattle.hv_region.specs.declared.plan.RegionPlan.{RegionPlan}
use Rattle.hv_refusal.specs.declared.refusal.Refusal.TheVariants as refusal
use Rattle.hv_rules.specs.Carry.{nothing}
use Rattle.hv_rules.specs.Line.{LineState, Asked, begun, line_after}

abbrev pub region : (name : List ℕ) → Form → (detached : Bool) → RegionPlan
region name form detached = record {
  name = name;
  kind = Memory;
  base = 2147483648;
  size = 4096;
  form = form;
  detached = detached;
  clock = false;
  parent = None;
}

abbrev pub regions : List RegionPlan
regions =
    region (codes "view") (Alias 2147483648) false
    ∷ region (codes "ram") Ram false
    ∷ region (codes "uart") (Device (codes "ns16550" ∷ [])) false
    ∷ region (codes "spare") Ram true
    ∷ []

-- The line as it is begun.
abbrev pub line : Asked → LineState
line asked = begun asked 2 regions

-- The line after replies.
abbrev pub after : LineState → List Reply → LineState
after l [] = l
after l (r ∷ replies) = after (line_after l r nothing) replies

-- The guest's slot and birth, and replies.
abbrev pub guest : Generation
guest = record { slot = 2; birth = 7 }

abbrev pub claimed : Reply
claimed = reply.Name (Ok guest)

abbrev pub unchanged : SignalChanges
unchanged = record { line = false; pins = 0 }

abbrev pub added : Reply
added = reply.Add (Ok unchanged)

abbrev pub not_added : Reply
not_added = reply.Add (Err refusal.NoEmulator)

abbrev pub dropped : Reply
dropped = reply.Drop (Ok unchanged)

abbrev pub kicked : Reply
kicked = reply.Kick (Ok tt)

abbrev pub gone : Reply
gone = reply.Kick (Err refusal.NoSuchGuest)

abbrev pub name : List ℕ
name = codes "g0"
