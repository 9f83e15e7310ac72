-- The hello bundle: its boot script shows one file, and its run must be this.
use Rattle.std.specs.Prelude.{ℕ, Ok, List, [], ◌∷◌, ◌++◌, codes}
use Rattle.hv_event.specs.declared.event.ActorId.TheVariants.{Terminal}
use Rattle.hv_event.specs.declared.event.Event.{Event}
use Rattle.hv_step.specs.declared.step.Step.TheVariants as step
use Rattle.hv_answer.specs.declared.reply.Reply.TheVariants as reply
use Rattle.hv_model.specs.declared.opening.Opening.{Opening}
use Rattle.hv_model.specs.Origin.{Origin, origin_of}

abbrev pub opening : Opening
opening = record {
  harts = 2;
  turns = 0;
  files =
      record { path = codes "boot.xscript" ∷ []; bytes = codes "vfs cat /hello" ++ 10 ∷ [] }
      ∷ record { path = codes "hello" ∷ []; bytes = codes "hi" ++ 10 ∷ [] }
      ∷ [];
  areas = [];
  plans = [];
  scripts = (codes "vfs cat /hello" ++ 10 ∷ []) ∷ [] ∷ [] ∷ [] ∷ [] ∷ [];
}

abbrev pub origin : Origin
origin = origin_of opening []

abbrev pub event : Event
event = record {
  actor = Terminal 0;
  index = 1;
  stamp = 1;
  step = step.Cat (record { path = codes "hello" ∷ [] });
  reply = reply.Cat (Ok (codes "hi" ++ 10 ∷ []));
}

abbrev pub history : List Event
history = event ∷ []

-- The same event with another byte in the reply.
abbrev pub other_byte : Event
other_byte = record event { reply = reply.Cat (Ok (codes "ho" ++ 10 ∷ [])) }

-- The same event with another stamp.
abbrev pub other_stamp : Event
other_stamp = record event { stamp = 2 }

-- The same event with another index.
abbrev pub other_index : Event
other_index = record event { index = 2 }

abbrev pub lines : List (List ℕ) → List ℕ
lines [] = []
lines (l ∷ ls) = l ++ 10 ∷ lines ls

-- What Terminal 0 shows.
abbrev pub transcript : List ℕ
transcript = lines (codes "> vfs cat /hello" ∷ codes "hi" ∷ codes "< ok" ∷ [])

-- The report of the hello bundle.
abbrev pub text : List ℕ
text = lines (
    codes "xvsim 1"
    ∷ codes "harts 2 turns 0 order seq"
    ∷ codes "term 0"
    ∷ codes "> vfs cat /hello"
    ∷ codes "hi"
    ∷ codes "< ok"
    ∷ codes "states"
    ∷ codes "vcpu 0 Reset"
    ∷ codes "history"
    ∷ codes "1 t0 1 cat /hello -> ok 68690a"
    ∷ codes "end 1"
    ∷ []
    )
