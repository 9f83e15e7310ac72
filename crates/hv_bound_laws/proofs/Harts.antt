-- Queues have entries of the board's VCPUs alone, and a hart runs one of these.
use Rattle.std.proofs.Common.{◌≡◌, ℕ, ◌<◌, ◌≤◌, ◌==◌, nat_lt, Bool, true, false, cond, refl, sym, subst, List, [], ◌∷◌, ◌++◌, All, Option, None, Some, Ok, IfSome}
use Rattle.std.specs.List.{AllByRecursion, list_any}
use Rattle.std.proofs.lemmas.List.Elements.{recursion_from_All}
use Rattle.hv_answer.specs.declared.reply.Outcome.{Outcome}
use Rattle.hv_answer.specs.declared.reply.Outcome.TheVariants as outcome
use Rattle.hv_answer.specs.declared.reply.Reply.{Reply}
use Rattle.hv_answer.specs.declared.reply.Reply.TheVariants as reply
use Rattle.hv_event.specs.declared.event.ActorId.{ActorId}
use Rattle.hv_event.specs.declared.event.ActorId.TheVariants.{Hart, Terminal}
use Rattle.hv_event.specs.declared.event.CellId.TheVariants as component
use Rattle.hv_kinds.specs.declared.access.AccessKind.{AccessKind}
use Rattle.hv_kinds.specs.declared.access.AccessKind.TheVariants as access
use Rattle.hv_kinds.specs.declared.generation.Generation.{Generation}
use Rattle.hv_kinds.specs.declared.state.State.TheVariants.{Ready, Unknown}
use Rattle.hv_laws.proofs.Current.{hart-step}
use Rattle.hv_laws.proofs.Frame.{or-true, touched}
use Rattle.hv_laws.proofs.Legal.{made_of, starts, step-of}
use Rattle.hv_laws.proofs.Queued.{entries-are-of-ready}
use Rattle.hv_laws.specs.Board.{Board, Made, IsStep, is_hart, is_queue}
use Rattle.hv_laws.specs.Legal.{board_of}
use Rattle.hv_laws.specs.Run.{IsReached, IsRun}
use Rattle.hv_machine.specs.Machine.{MayHappen, State, next_state}
use Rattle.hv_model.specs.Cell.{Component}
use Rattle.hv_model.specs.declared.entry.Entry.{Entry}
use Rattle.hv_model.specs.Legal.{start}
use Rattle.hv_model.specs.Origin.{Origin}
use Rattle.hv_model.specs.Rules.{machine}
use Rattle.hv_queue.specs.Queue.{best_of, better, head_of, vcpu_of}
use Rattle.hv_queue.specs.declared.entry.QueueEntry.{QueueEntry}
use Rattle.hv_rules.specs.Carry.{Carry}
use Rattle.hv_rules.specs.Footprint.{components}
use Rattle.hv_rules.specs.Hart.{Current, HartState, faulted, fetched, hart_after, used_up}
use Rattle.hv_rules.specs.Queue.{QueueAgrees, queue_after}
use Rattle.hv_step.specs.declared.step.Step.{Step}
use Rattle.hv_step.specs.declared.step.Step.TheVariants as step
use Rattle.hv_text.specs.declared.limits.TheConstants.{VCPUS}
use Rattle.hv_window_laws.proofs.Lists.{lt-is, lt-isnt}

-- a run with one step more

run-more : (count : ℕ) (from : Board) (steps : List Made) (to next : Board) (made : Made) → IsRun count from steps to → IsStep count to next made → IsRun count from (steps ++ made ∷ []) next
run-more count from [] to next made is one = (next, subst (λ (b : Board). IsStep count b next made) is one, refl)
run-more count from (m ∷ steps) to next made is one = (is.0, is.1, run-more count is.0 steps to next made is.2 one)

reached-more : (count : ℕ) (board next : Board) (made : Made) → IsReached count board → IsStep count board next made → IsReached count next
reached-more count board next made is one = record {
  start = is.start;
  steps = is.steps ++ made ∷ [];
  begins = is.begins;
  leads = run-more count is.start is.steps board next made is.leads one;
}

-- the head of a queue is of one of its entries

abbrev IsOf : QueueEntry → Type 0
IsOf entry = entry.vcpu < VCPUS

better-below : (e : QueueEntry) (found : Option QueueEntry) → IsOf e → IfSome found IsOf → IfSome (better e found) IsOf
better-below e None one other = one
better-below e (Some f) one other = by (nat_lt e.priority f.priority)
  where
    by : (b : Bool) → IfSome (cond b (Some f) (Some e)) IsOf
    by true = other
    by false = one

best-below : (q : List QueueEntry) → AllByRecursion IsOf q → IfSome (best_of q) IsOf
best-below [] all = tt
best-below (e ∷ q) all = better-below e (best_of q) all.0 (best-below q all.1)

vcpu-below : (found : Option QueueEntry) (v : ℕ) → IfSome found IsOf → vcpu_of found ≡ Some v → v < VCPUS
vcpu-below None v one is = absurd (cc is)
vcpu-below (Some e) v one is = let same : e.vcpu ≡ v = cc is in subst (λ (n : ℕ). n < VCPUS) same one

head-below : (q : List QueueEntry) (v : ℕ) → All IsOf q → head_of q ≡ Some v → v < VCPUS
head-below q v all is = vcpu-below (best_of q) v (best-below q (recursion_from_All IsOf q all)) is

-- the VCPU that a hart runs

abbrev pub IsBelow : Option Current → Type 0
IsBelow current = IfSome current (λ current. current.vcpu < VCPUS)

used-below : (current : Option Current) → IsBelow current → IsBelow (used_up current)
used-below None is = tt
used-below (Some current) is = is

fetched-below : (hart : HartState) (g : Generation) (it : Outcome) (c : Carry) → IsBelow hart.current → IsBelow (fetched hart g it c).current
fetched-below hart g outcome.Wait c is = tt
fetched-below hart g outcome.Access c is = used-below hart.current is
fetched-below hart g it c is = used-below hart.current is

faulted-below : (hart : HartState) (kind : AccessKind) → IsBelow hart.current → IsBelow (faulted hart kind).current
faulted-below hart access.Execute is = used-below hart.current is
faulted-below hart kind is = is

after-below : (hart : HartState) (x : Step) (r : Reply) (c : Carry) → ((v : ℕ) → x ≡ step.Dispatch (record { vcpu = v }) → v < VCPUS) → IsBelow hart.current → IsBelow (hart_after hart x r c).current
after-below hart (step.Dispatch s) (reply.Dispatch (Ok slice)) c new is = new s.vcpu refl
after-below hart (step.Dispatch s) r c new is = is
after-below hart (step.Sample s) (reply.Sample None) c new is = is
after-below hart (step.Sample s) (reply.Sample (Some sampled)) c new is = is
after-below hart (step.Sample s) r c new is = is
after-below hart (step.Tick s) (reply.Tick None) c new is = is
after-below hart (step.Tick s) (reply.Tick (Some changes)) c new is = is
after-below hart (step.Tick s) r c new is = is
after-below hart (step.Preempt s) r c new is = tt
after-below hart (step.Leave s) r c new is = tt
after-below hart (step.Take s) r c new is = used-below hart.current is
after-below hart (step.Balance s) r c new is = used-below hart.current is
after-below hart (step.Fetch s) (reply.Fetch None) c new is = used-below hart.current is
after-below hart (step.Fetch s) (reply.Fetch (Some done)) c new is = fetched-below hart s.generation done.outcome c is
after-below hart (step.Fetch s) r c new is = is
after-below hart (step.Access s) (reply.Access None) c new is = is
after-below hart (step.Access s) (reply.Access (Some accessed)) c new is = is
after-below hart (step.Access s) r c new is = is
after-below hart (step.Fault s) r c new is = faulted-below hart s.access is
after-below hart x r c new is = is

queue-among : (count h v : ℕ) (by : ActorId) (r : Reply) (c : Carry) → is_hart h by ≡ true → list_any (is_queue h) (components count by (step.Dispatch (record { vcpu = v })) r c) ≡ true
queue-among count h v (Hart k) r c is = or-true (h == k) _ is
queue-among count h v (Terminal t) r c is = absurd (cc is)

module _ (O : Origin) where
  -- what is known of queues and harts
  pub record HartsFit (s : State (machine O)) : Type 0 where
    pub led : IsReached O.opening.harts (board_of O s)
    pub currents : (h : ℕ) → IsBelow ((board_of O s).harts h).current

  pub starts-fit : HartsFit (start O)
  starts-fit = record {
    led = record { start = board_of O (start O); steps = []; begins = starts O; leads = refl };
    currents = λ h. tt;
  }

  module _ (some : 1 ≤ O.opening.harts) (s : State (machine O)) (beyond : (v : ℕ) → VCPUS ≤ v → (s (Component (component.Vcpu v))).value.state ≡ Unknown) (fit : HartsFit s) where
    ready-below : (v : ℕ) → (s (Component (component.Vcpu v))).value.state ≡ Ready → v < VCPUS
    ready-below v ready = by (nat_lt v VCPUS) refl
      where
        by : (b : Bool) → nat_lt v VCPUS ≡ b → v < VCPUS
        by true is = lt-is v VCPUS is
        by false is = absurd (let unknown = beyond v (lt-isnt v VCPUS is) in cc)

    pub queue-below : (g : ℕ) → All IsOf (s (Component (component.Queue g))).value
    queue-below g i d within =
        let entry = entries-are-of-ready O.opening.harts (board_of O s) some fit.led g i d within in
        ready-below _ entry.ready

    module _ (e : Entry) (may : MayHappen (machine O) s e) where
      made : IsStep O.opening.harts (board_of O s) (board_of O (next_state (machine O) s e)) (made_of e)
      made = step-of O s e may

      dispatch-below : (h v : ℕ) → is_hart h e.event.actor ≡ true → e.event.step ≡ step.Dispatch (record { vcpu = v }) → v < VCPUS
      dispatch-below h v by is =
          let q = (board_of O s).queues h in
          let among : list_any (is_queue h) (components O.opening.harts e.event.actor e.event.step e.event.reply e.carry) ≡ true =
          subst (λ (x : Step). list_any (is_queue h) (components O.opening.harts e.event.actor x e.event.reply e.carry) ≡ true) (sym is)
          (queue-among O.opening.harts h v e.event.actor e.event.reply e.carry by) in
          let agrees : QueueAgrees h q e.event.step e.event.reply e.carry =
          (touched (list_any (is_queue h) (components O.opening.harts e.event.actor e.event.step e.event.reply e.carry)) (QueueAgrees h q e.event.step e.event.reply e.carry)
          (queue_after h q e.event.step e.event.reply e.carry) q ((board_of O (next_state (machine O) s e)).queues h) among (made.components.queues h)).0 in
          head-below q v (queue-below h) (subst (λ (x : Step). QueueAgrees h q x e.event.reply e.carry) is agrees)

      pub fit-next : HartsFit (next_state (machine O) s e)
      fit-next = record {
        led = reached-more O.opening.harts (board_of O s) (board_of O (next_state (machine O) s e)) (made_of e) fit.led made;
        currents = λ h.
            hart-step O.opening.harts (board_of O s) (board_of O (next_state (machine O) s e)) (made_of e) made h (λ (hart : HartState). IsBelow hart.current)
            (λ t agreed. after-below ((board_of O s).harts h) e.event.step e.event.reply e.carry (λ v is. dispatch-below h v t is) (fit.currents h))
            (λ t. fit.currents h);
      }
