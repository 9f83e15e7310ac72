-- The definitions compute.
use Rattle.std.proofs.Common.{◌≤◌, ℕ, ◌≡◌, ◌+◌, max, List, [], ◌∷◌, ◌++◌, codes, Ok, map, refl, subst, ap, lit≤, arith, slice_index, slice_index_or, length}
use Rattle.std.specs.Fmt.{digits}
use Rattle.hv_event.specs.Line.{event_text}
use Rattle.hv_model.specs.Transcript.{shown}
use Rattle.std.specs.List.{AllByRecursion}
use Rattle.hv_machine.specs.Machine.{State, greatest, MayHappen, IsRun}
use Rattle.hv_machine.specs.Phases.{IsTwoPart}
use Rattle.hv_event.specs.declared.event.CellId.TheVariants as component
use Rattle.hv_event.specs.declared.event.Event.{Event}
use Rattle.hv_answer.specs.declared.reply.Reply.{Reply}
use Rattle.hv_answer.specs.declared.reply.Reply.TheVariants as reply
use Rattle.hv_model.specs.Cell.{Component, is_actor}
use Rattle.hv_model.specs.Entry.{Entry, nothing}
use Rattle.hv_model.specs.Files.{load_files, read_file, answered}
use Rattle.hv_model.specs.Terminal.{IsAtEnd}
use Rattle.hv_model.specs.Rules.{machine, IsAllowedAt, footprint_of}
use Rattle.hv_model.specs.Legal.{first, Leads, IsComplete, reached, start, begun}
use Rattle.hv_model.specs.Example as example
use Rattle.hv_model.proofs.laws.hello_example.Goals as goal

abbrev entry : Entry
entry = record { event = example.event; carry = nothing }

leads : Leads example.origin example.history (reached example.origin (entry ∷ []) [])
leads =
    record {
      boot = entry ∷ [];
      later = [];
      runs = record {
        events = refl;
        rising = (tt, tt);
        in_range = (lit≤ tt, tt);
        parts = record {
          alone = (refl, tt);
          boot_runs = (record { agreed = (record { index = refl; step = (refl, tt); carry = refl }, (refl, tt)); stamped = refl }, tt);
          later_runs = tt;
        };
        within = refl;
      };
      state = record { ended = λ _. refl; unended = λ not_ended. absurd (not_ended (record { owed = refl; booted = record { line = refl; boot = refl } })) };
    }

ended : IsAtEnd (reached example.origin (entry ∷ []) [] first).value
ended = record { owed = refl; ended = record { line = refl; boot = refl; own = refl } }

complete : IsComplete example.origin (reached example.origin (entry ∷ []) [])
complete = record {
  terminals = (
    ended,
    (
      record { owed = refl; ended = record { line = refl; boot = refl; own = refl } },
      (
        record { owed = refl; ended = record { line = refl; boot = refl; own = refl } },
        (record { owed = refl; ended = record { line = refl; boot = refl; own = refl } }, tt),
      ),
    ),
  );
  harts = (
    record { turns_are = refl; pending = refl; owed = refl },
    (record { turns_are = refl; pending = refl; owed = refl }, tt),
  );
}

pub returns-clause-legal : goal.returns-clause-legal
returns-clause-legal c = (reached example.origin (entry ∷ []) [], leads)

pub returns-clause-complete : goal.returns-clause-complete
returns-clause-complete c = (reached example.origin (entry ∷ []) [], leads, complete)

pub returns-clause-report : goal.returns-clause-report
unfolding digits event_text shown
returns-clause-report c = record {
  transcripts = example.transcript ∷ [] ∷ [] ∷ [] ∷ [];
  shown = ((example.transcript, [], refl, record { behind = codes "hi" ++ 10 ∷ codes "< ok" ++ 10 ∷ []; shows = refl; text_is = refl }, refl), (refl, (refl, (refl, tt))));
  text_is = refl;
}

-- no history is legal whose first event may not happen at the start nor where all begin
module _ (wrong : Event) (never : (s : State (machine example.origin)) (e : Entry)
    → (s (Component component.Files)).value ≡ load_files example.opening.files
    → (s first).value.count ≡ 0 → (s (Component component.Files)).stamp ≡ 0 → (s first).stamp ≡ 0
    → e.event ≡ wrong → MayHappen (machine example.origin) s e → ⊥) where
  starts : (s : State (machine example.origin)) (es : List Entry)
      → (s (Component component.Files)).value ≡ load_files example.opening.files
      → (s first).value.count ≡ 0 → (s (Component component.Files)).stamp ≡ 0 → (s first).stamp ≡ 0
      → map (λ e. e.event) es ≡ wrong ∷ [] → IsRun (machine example.origin) s es → ⊥
  starts s [] files count stamp own is run = let none : length (map (λ (e : Entry). e.event) []) ≡ 1 = ap length is in omega arith
  starts s (e ∷ es) files count stamp own is run = never s e files count stamp own (ap (λ es. slice_index_or es 0 wrong) is) run.0

  by-parts : (boot later : List Entry) → map (λ e. e.event) (boot ++ later) ≡ wrong ∷ []
      → IsTwoPart (machine example.origin) is_actor first (start example.origin) boot later → ⊥
  by-parts [] later is parts = starts (begun example.origin []) later refl refl refl refl is parts.later_runs
  by-parts (e ∷ boot) later is parts = never (start example.origin) e refl refl refl refl (ap (λ es. slice_index_or es 0 wrong) is) parts.boot_runs.0

abbrev second_byte : Reply → ℕ
second_byte (reply.Cat (Ok bytes)) = slice_index bytes 1
second_byte _ = 0

bytes-apart : reply.Cat (Ok (codes "ho" ++ 10 ∷ [])) ≡ reply.Cat (Ok (codes "hi" ++ 10 ∷ [])) → ⊥
bytes-apart e = let bytes : ◌≡◌ {A = ℕ} 111 105 = ap second_byte e in omega arith

pub returns-clause-other_byte : goal.returns-clause-other_byte
returns-clause-other_byte c = λ legal.
    let runs = legal.1.runs in
    by-parts example.other_byte
    (λ s e files count stamp own is may.
    let m = machine example.origin in
    let At : Event → Type 0 = λ v. let f : Entry = record { event = v; carry = e.carry } in AllByRecursion (λ x. IsAllowedAt x (s x).value f) (footprint_of 2 f) in
    let agreed : At example.other_byte = subst At is may.agreed in
    let says : reply.Cat (Ok (codes "ho" ++ 10 ∷ [])) ≡ reply.Cat (answered (read_file (s (Component component.Files)).value (codes "hello" ∷ []))) = agreed.1.0 in
    bytes-apart (rw files at says))
    legal.1.boot legal.1.later runs.events runs.parts

pub returns-clause-other_index : goal.returns-clause-other_index
returns-clause-other_index c = λ legal.
    let runs = legal.1.runs in
    by-parts example.other_index
    (λ s e files count stamp own is may.
    let At : Event → Type 0 = λ v. let f : Entry = record { event = v; carry = e.carry } in AllByRecursion (λ x. IsAllowedAt x (s x).value f) (footprint_of 2 f) in
    let agreed : At example.other_index = subst At is may.agreed in
    let index : ◌≡◌ {A = ℕ} 2 ((s first).value.count + 1) = agreed.0.index in
    omega (arith, index, count))
    legal.1.boot legal.1.later runs.events runs.parts

pub returns-clause-other_stamp : goal.returns-clause-other_stamp
returns-clause-other_stamp c = λ legal.
    let runs = legal.1.runs in
    by-parts example.other_stamp
    (λ s e files count stamp own is may.
    let At : Event → Type 0 = λ v. let f : Entry = record { event = v; carry = e.carry } in v.stamp ≡ greatest (map (λ x. (s x).stamp) (footprint_of 2 f)) + 1 in
    let stamped : ◌≡◌ {A = ℕ} 2 (max (s first).stamp (max (s (Component component.Files)).stamp 0) + 1) = subst At is may.stamped in
    omega (arith, stamped, stamp, own))
    legal.1.boot legal.1.later runs.events runs.parts
