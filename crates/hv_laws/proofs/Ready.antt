-- A VCPU is counted in the queues by what it is worth: each step keeps it.
use Rattle.std.proofs.Common.{◌≡◌, ℕ, ◌+◌, ◌<◌, ◌≤◌, ◌%◌, Bool, true, false, ◌==◌, if◌then◌else◌, List, [], ◌∷◌, ◌++◌, length, refl, ap, sym, ◌∙◌, subst, arith, eq-eqb}
use Rattle.std.specs.Prelude.{Option, None, Some, Result, Ok, Err, is_ok, nat_le}
use Rattle.std.specs.List.{list_any, range_with_len}
use Rattle.std.proofs.Math.Nat.{mod-lt}
use Rattle.hv_answer.specs.declared.reply.Reply.{Reply}
use Rattle.hv_answer.specs.declared.reply.Reply.TheVariants as reply
use Rattle.hv_event.specs.declared.event.ActorId.{ActorId}
use Rattle.hv_event.specs.declared.event.ActorId.TheVariants.{Hart, Terminal}
use Rattle.hv_kinds.specs.declared.state.State.{State}
use Rattle.hv_queue.specs.Queue.{weigh, count_in, without, appended, last_of, front_of}
use Rattle.hv_queue.specs.declared.entry.QueueEntry.{QueueEntry}
use Rattle.hv_refusal.specs.declared.refusal.Refusal.{Refusal}
use Rattle.hv_rules.specs.Balance.{longest, shortest, is_uneven}
use Rattle.hv_rules.specs.Carry.{Carry}
use Rattle.hv_event.specs.declared.event.CellId.{CellId}
use Rattle.hv_event.specs.declared.event.CellId.TheVariants.{Dir, Queue, Vcpu}
use Rattle.hv_rules.specs.Footprint.{all_queues, past_dir_if, components}
use Rattle.hv_rules.specs.Hart.{HartAgrees, hart_after}
use Rattle.hv_rules.specs.Queue.{QueueAgrees, SaysMoved, queue_after, arrived, balanced}
use Rattle.hv_rules.specs.Vcpu.{VcpuAgrees, vcpu_after, answered, dispatched}
use Rattle.hv_step.specs.declared.step.Balance.{Balance}
use Rattle.hv_step.specs.declared.step.ByGuest.{ByGuest}
use Rattle.hv_step.specs.declared.step.Dispatch.{Dispatch}
use Rattle.hv_step.specs.declared.step.Halt.{Halt}
use Rattle.hv_step.specs.declared.step.Kick.{Kick}
use Rattle.hv_step.specs.declared.step.Pause.{Pause}
use Rattle.hv_step.specs.declared.step.Pin.{Pin}
use Rattle.hv_step.specs.declared.step.Preempt.{Preempt}
use Rattle.hv_step.specs.declared.step.Reset.{Reset}
use Rattle.hv_step.specs.declared.step.Resume.{Resume}
use Rattle.hv_step.specs.declared.step.Step.{Step}
use Rattle.hv_step.specs.declared.step.Step.TheVariants as step
use Rattle.hv_step.specs.declared.step.Vdrop.{Vdrop}
use Rattle.hv_vcpu.specs.Table.{led}
use Rattle.hv_vcpu.specs.Vcpu.{VcpuValue, stepped, with_pins, wakes}
use Rattle.hv_vcpu.specs.declared.moves.Move.{Move}
use Rattle.hv_vcpu.specs.declared.moves.Move.TheVariants as move
use Rattle.hv_vcpu.specs.declared.moves.WrongState.{WrongState}
use Rattle.hv_laws.specs.Board.{Board, Made, Changes, IsStep, is_vcpu, is_hart}
use Rattle.hv_laws.specs.Laws.{sum_below, standing_of, current_of, is_ready}
use Rattle.hv_laws.proofs.Beyond.{is_at_own, empty-kept, idle-kept, own-there}
use Rattle.hv_laws.proofs.Counted.{Counted, quiet, one-small, arrives-if, leaves-if, departs-if}
use Rattle.hv_laws.proofs.Current.{Currents, currents-kept, hart-step}
use Rattle.hv_laws.proofs.Frame.{touched, or-false, or-true, at-same, false-true}
use Rattle.hv_laws.proofs.Rows.{Asks, asked, harts-same}
use Rattle.hv_laws.proofs.States.{take-same, access-same}
use Rattle.hv_laws.proofs.Steps.{queue-step, queue-touched, queue-untouched, vcpu-step, vcpu-touched, vcpu-untouched, past-dir-if, past-queues, queue-among}
use Rattle.hv_laws.proofs.Sums.{sum-same, sum-two, sum-pair, place-below, uneven-apart, apart-back}
use Rattle.hv_laws.proofs.Weights.{valued, weigh-other, weigh-arrived-other, weigh-appended, head-stands, weigh-front}
use Rattle.hv_laws.proofs.Worths.{worth, worth-same, running-not-ready, is_arrival, arrival-worth, arrival-not-ready, is_departure, departure-worth, preempts, added-worth, wakes-not-ready, woken-worth, fetch-worth}

-- the VCPU whose entry a step puts into a queue or takes out of it
abbrev names : Step → ℕ → Bool
names (step.Kick s) v = v == s.vcpu
names (step.Resume s) v = v == s.vcpu
names (step.Pause s) v = v == s.vcpu
names (step.Halt s) v = v == s.vcpu
names (step.Reset s) v = v == s.vcpu
names (step.Vdrop s) v = v == s.vcpu
names (step.Preempt s) v = v == s.vcpu
names (step.Pin s) v = v == s.vcpu
names (step.Dispatch s) v = v == s.vcpu
names _ v = false

-- whether a step moves an entry of any VCPU
abbrev balances : Step → Bool
balances (step.Balance s) = true
balances _ = false

pin-other : (v : ℕ) (f : ℕ → ℕ) (w : ℕ) (b : Bool) (p : Option ℕ) (q : List QueueEntry) → (v == w) ≡ false → weigh (valued v f) (if b then arrived w p q else q) ≡ weigh (valued v f) q
pin-other v f w true p q other = weigh-arrived-other v f w p q other
pin-other v f w false p q other = refl

-- the entries of another VCPU weigh the same
queue-other : (g v : ℕ) (f : ℕ → ℕ) (s : Step) (r : Reply) (c : Carry) (q : List QueueEntry) → balances s ≡ false → names s v ≡ false
    → weigh (valued v f) (queue_after g q s r c) ≡ weigh (valued v f) q
queue-other g v f (step.Kick s) (reply.Kick (Ok done)) c q b other = weigh-arrived-other v f s.vcpu c.priority q other
queue-other g v f (step.Resume s) (reply.Resume (Ok done)) c q b other = weigh-arrived-other v f s.vcpu c.priority q other
queue-other g v f (step.Pause s) (reply.Pause (Ok done)) c q b other = weigh-other v f s.vcpu q other
queue-other g v f (step.Halt s) (reply.Halt (Ok done)) c q b other = weigh-other v f s.vcpu q other
queue-other g v f (step.Reset s) (reply.Reset (Ok done)) c q b other = weigh-other v f s.vcpu q other
queue-other g v f (step.Vdrop s) (reply.Vdrop (Ok done)) c q b other = weigh-other v f s.vcpu q other
queue-other g v f (step.Preempt s) r c q b other = weigh-arrived-other v f s.vcpu c.priority q other
queue-other g v f (step.Pin s) (reply.Pin (Some pinned)) c q b other = pin-other v f s.vcpu pinned.woke c.priority q other
queue-other g v f (step.Dispatch s) (reply.Dispatch (Ok slice)) c q b other = weigh-other v f s.vcpu q other
queue-other g v f (step.Balance s) r c q b other = absurd (cc)
queue-other g v f s r c q b other = refl

module _ (count : ℕ) (positive : 0 < count) (before after : Board) (by : ActorId) where
  abbrev made : Step → Reply → Carry → Made
  made s r c = record { by = by; step = s; reply = r; carry = c }

  abbrev Kept : ℕ → Type 0
  Kept v = Counted count before v → Counted count after v

  -- another VCPU than the one that a step names, where the step doesn't touch it
  other-kept : (cs : List CellId) (s : Step) (r : Reply) (c : Carry) → Changes cs before after (made s r c) → balances s ≡ false
      → (v : ℕ) → names s v ≡ false → list_any (is_vcpu v) cs ≡ false → Kept v
  other-kept cs s r c changes b v other away =
      quiet count before after v
      (λ f g l.
      queue-step cs before after (made s r c) changes g (λ q. weigh (valued v f) q ≡ weigh (valued v f) (before.queues g))
      (λ t ok. queue-other g v f s r c (before.queues g) b other)
      (λ t. refl))
      (λ f. ap (worth f) (vcpu-untouched cs before after (made s r c) changes v away))

  -- the one that it names, or another
  by-name : (v u : ℕ) → ((v == u) ≡ false → Kept v) → Kept u → Kept v
  by-name v u other named =
      let Goal : Bool → Type 0 = λ b. (v == u) ≡ b → Kept v in
      elim (v == u) as Goal [ true ↦ λ is. at-same Kept v u is named | false ↦ other ] refl

  -- a step that touches no queue and leaves what VCPUs are worth
  quiet-kept : (cs : List CellId) (s : Step) (r : Reply) (c : Carry) → Changes cs before after (made s r c)
      → ((g : ℕ) (q : List QueueEntry) → queue_after g q s r c ≡ q)
      → ((f : ℕ → ℕ) (x : VcpuValue) → VcpuAgrees by x s r c → worth f (vcpu_after by x s r c) ≡ worth f x) → (v : ℕ) → Kept v
  quiet-kept cs s r c changes queues vcpus v =
      quiet count before after v
      (λ f g l.
      queue-step cs before after (made s r c) changes g (λ q. weigh (valued v f) q ≡ weigh (valued v f) (before.queues g))
      (λ t ok. ap (weigh (valued v f)) (queues g (before.queues g)))
      (λ t. refl))
      (λ f.
      vcpu-step cs before after (made s r c) changes v (λ x. worth f x ≡ worth f (before.vcpus v))
      (λ t ok. vcpus f (before.vcpus v) ok)
      (λ t. refl))

  -- a kick or a resume: the VCPU goes to its home queue
  module _ (u : ℕ) (m : Move) (s : Step) (answer : Result (Unit {0}) Refusal → Reply) (r : Reply) (c : Carry) (arrival : is_arrival m ≡ true)
      (named : (v : ℕ) → names s v ≡ (v == u)) (b : balances s ≡ false)
      (shows : (x : VcpuValue) → VcpuAgrees by x s r c → (r ≡ answer (answered (led m x.state))) × (c.priority ≡ Some x.plan.priority))
      (moves : (x : VcpuValue) → vcpu_after by x s r c ≡ stepped m x)
      (queued : (g : ℕ) (q : List QueueEntry) (l : Result State WrongState) → queue_after g q s (answer (answered l)) c ≡ (if is_ok l then arrived u c.priority q else q)) where
    abbrev home : List CellId
    home = Queue (u % count) ∷ Vcpu u ∷ []

    home-named : Changes home before after (made s r c) → Kept u
    home-named changes =
        let k = u % count in
        let x = before.vcpus u in
        let l = led m x.state in
        let at = vcpu-touched home before after (made s r c) changes u (or-true (u == u) false (eq-eqb u u refl)) in
        let shown = shows x at.0 in
        let here = queue-touched home before after (made s r c) changes k (or-true (k == k) false (eq-eqb k k refl)) in
        arrives-if count before after u (is_ok l) k x.plan.priority (mod-lt u positive)
        (λ g other. queue-untouched home before after (made s r c) changes g (or-false (g == k) ∙ other))
        (here.1
        ∙ ap (λ reply. queue_after k (before.queues k) s reply c) shown.0
        ∙ queued k (before.queues k) l
        ∙ ap (λ p. if is_ok l then arrived u p (before.queues k) else before.queues k) shown.1)
        (λ ok. arrival-not-ready m x.state arrival ok)
        (λ f. ap (worth f) (at.1 ∙ moves x) ∙ arrival-worth f m x.state x arrival)

    home-kept : Changes home before after (made s r c) → (v : ℕ) → Kept v
    home-kept changes v =
        by-name v u (λ other. other-kept home s r c changes b v (named v ∙ other) (or-false (v == u) ∙ other)) (home-named changes)

  -- a pause, a halt, a reset or a drop: the VCPU leaves all queues
  module _ (u : ℕ) (m : Move) (s : Step) (answer : Result (Unit {0}) Refusal → Reply) (r : Reply) (c : Carry) (departure : is_departure m ≡ true)
      (named : (v : ℕ) → names s v ≡ (v == u)) (b : balances s ≡ false)
      (shows : (x : VcpuValue) → VcpuAgrees by x s r c → r ≡ answer (answered (led m x.state)))
      (moves : (x : VcpuValue) → vcpu_after by x s r c ≡ stepped m x)
      (queued : (g : ℕ) (q : List QueueEntry) (l : Result State WrongState) → queue_after g q s (answer (answered l)) c ≡ (if is_ok l then without u q else q)) where
    abbrev all : List CellId
    all = all_queues count ++ Vcpu u ∷ []

    all-vcpus : (v : ℕ) → list_any (is_vcpu v) all ≡ (v == u)
    all-vcpus v = past-queues v (range_with_len 0 count) (Vcpu u ∷ []) ∙ or-false (v == u)

    all-named : Changes all before after (made s r c) → Kept u
    all-named changes =
        let x = before.vcpus u in
        let l = led m x.state in
        let at = vcpu-touched all before after (made s r c) changes u (all-vcpus u ∙ eq-eqb u u refl) in
        let shown = shows x at.0 in
        leaves-if count before after u (is_ok l)
        (λ g less.
        (queue-touched all before after (made s r c) changes g (queue-among 0 count g (Vcpu u ∷ []) (omega arith) (omega arith))).1
        ∙ ap (λ reply. queue_after g (before.queues g) s reply c) shown
        ∙ queued g (before.queues g) l)
        (λ f. ap (worth f) (at.1 ∙ moves x) ∙ departure-worth f m x.state x departure)

    all-kept : Changes all before after (made s r c) → (v : ℕ) → Kept v
    all-kept changes v =
        by-name v u (λ other. other-kept all s r c changes b v (named v ∙ other) (all-vcpus v ∙ other)) (all-named changes)

  -- a step that the directory stops touches neither queues nor VCPUs
  stopped-kept : (s : Step) (r : Reply) (c : Carry) → Changes (Dir ∷ []) before after (made s r c) → (v : ℕ) → Kept v
  stopped-kept s r c changes v = quiet count before after v (λ f g l. ap (weigh (valued v f)) (changes.queues g)) (λ f. ap (worth f) (changes.vcpus v))

  past : (cs : List CellId) (s : Step) (r : Reply) (c : Carry) → Changes (Dir ∷ cs) before after (made s r c) → Changes cs before after (made s r c)
  past cs s r c changes = record { queues = changes.queues; vcpus = changes.vcpus }

  by-guest : (guest : Option ByGuest) (cs : List CellId) (s : Step) (r : Reply) (c : Carry) → (Changes cs before after (made s r c) → (v : ℕ) → Kept v)
      → Changes (past_dir_if guest cs) before after (made s r c) → (v : ℕ) → Kept v
  by-guest guest cs s r c kept =
      past-dir-if (λ touched. Changes touched before after (made s r c) → (v : ℕ) → Kept v) guest cs (stopped-kept s r c) kept (λ changes. kept (past cs s r c changes))

  kick-kept : (s : Kick) (r : Reply) (c : Carry) → Changes (components count by (step.Kick s) r c) before after (made (step.Kick s) r c) → (v : ℕ) → Kept v
  kick-kept s r c =
      by-guest s.guest (Queue (s.vcpu % count) ∷ Vcpu s.vcpu ∷ []) (step.Kick s) r c
      (home-kept s.vcpu move.Kick (step.Kick s) (λ q. reply.Kick q) r c refl (λ v. refl) refl (λ x ok. ok) (λ x. refl) queued)
    where
      queued : (g : ℕ) (q : List QueueEntry) (l : Result State WrongState) → queue_after g q (step.Kick s) (reply.Kick (answered l)) c ≡ (if is_ok l then arrived s.vcpu c.priority q else q)
      queued g q (Ok to) = refl
      queued g q (Err wrong) = refl

  resume-kept : (s : Resume) (r : Reply) (c : Carry) → Changes (components count by (step.Resume s) r c) before after (made (step.Resume s) r c) → (v : ℕ) → Kept v
  resume-kept s r c =
      by-guest s.guest (Queue (s.vcpu % count) ∷ Vcpu s.vcpu ∷ []) (step.Resume s) r c
      (home-kept s.vcpu move.Resume (step.Resume s) (λ q. reply.Resume q) r c refl (λ v. refl) refl (λ x ok. ok) (λ x. refl) queued)
    where
      queued : (g : ℕ) (q : List QueueEntry) (l : Result State WrongState) → queue_after g q (step.Resume s) (reply.Resume (answered l)) c ≡ (if is_ok l then arrived s.vcpu c.priority q else q)
      queued g q (Ok to) = refl
      queued g q (Err wrong) = refl

  pause-kept : (s : Pause) (r : Reply) (c : Carry) → Changes (components count by (step.Pause s) r c) before after (made (step.Pause s) r c) → (v : ℕ) → Kept v
  pause-kept s r c =
      by-guest s.guest (all_queues count ++ Vcpu s.vcpu ∷ []) (step.Pause s) r c
      (all-kept s.vcpu move.Pause (step.Pause s) (λ q. reply.Pause q) r c refl (λ v. refl) refl (λ x ok. ok) (λ x. refl) queued)
    where
      queued : (g : ℕ) (q : List QueueEntry) (l : Result State WrongState) → queue_after g q (step.Pause s) (reply.Pause (answered l)) c ≡ (if is_ok l then without s.vcpu q else q)
      queued g q (Ok to) = refl
      queued g q (Err wrong) = refl

  halt-kept : (s : Halt) (r : Reply) (c : Carry) → Changes (components count by (step.Halt s) r c) before after (made (step.Halt s) r c) → (v : ℕ) → Kept v
  halt-kept s r c =
      by-guest s.guest (all_queues count ++ Vcpu s.vcpu ∷ []) (step.Halt s) r c
      (all-kept s.vcpu move.Halt (step.Halt s) (λ q. reply.Halt q) r c refl (λ v. refl) refl (λ x ok. ok) (λ x. refl) queued)
    where
      queued : (g : ℕ) (q : List QueueEntry) (l : Result State WrongState) → queue_after g q (step.Halt s) (reply.Halt (answered l)) c ≡ (if is_ok l then without s.vcpu q else q)
      queued g q (Ok to) = refl
      queued g q (Err wrong) = refl

  reset-kept : (s : Reset) (r : Reply) (c : Carry) → Changes (components count by (step.Reset s) r c) before after (made (step.Reset s) r c) → (v : ℕ) → Kept v
  reset-kept s r c =
      by-guest s.guest (all_queues count ++ Vcpu s.vcpu ∷ []) (step.Reset s) r c
      (all-kept s.vcpu move.Reset (step.Reset s) (λ q. reply.Reset q) r c refl (λ v. refl) refl (λ x ok. ok) (λ x. refl) queued)
    where
      queued : (g : ℕ) (q : List QueueEntry) (l : Result State WrongState) → queue_after g q (step.Reset s) (reply.Reset (answered l)) c ≡ (if is_ok l then without s.vcpu q else q)
      queued g q (Ok to) = refl
      queued g q (Err wrong) = refl

  vdrop-kept : (s : Vdrop) (r : Reply) (c : Carry) → Changes (components count by (step.Vdrop s) r c) before after (made (step.Vdrop s) r c) → (v : ℕ) → Kept v
  vdrop-kept s r c =
      all-kept s.vcpu move.Drop (step.Vdrop s) (λ q. reply.Vdrop q) r c refl (λ v. refl) refl (λ x ok. ok) (λ x. refl) queued
    where
      queued : (g : ℕ) (q : List QueueEntry) (l : Result State WrongState) → queue_after g q (step.Vdrop s) (reply.Vdrop (answered l)) c ≡ (if is_ok l then without s.vcpu q else q)
      queued g q (Ok to) = refl
      queued g q (Err wrong) = refl

  -- a pin, which may wake its VCPU
  pin-named : (s : Pin) (r : Reply) (c : Carry) → Changes (components count by (step.Pin s) r c) before after (made (step.Pin s) r c) → Kept s.vcpu
  pin-named s (reply.Pin None) c changes =
      let cs = components count by (step.Pin s) (reply.Pin None) c in
      let e = made (step.Pin s) (reply.Pin None) c in
      quiet count before after s.vcpu
      (λ f g l. ap (weigh (valued s.vcpu f)) (queue-step cs before after e changes g (λ q. q ≡ before.queues g) (λ t ok. refl) (λ t. refl)))
      (λ f. ap (worth f) (vcpu-step cs before after e changes s.vcpu (λ x. x ≡ before.vcpus s.vcpu) (λ t ok. refl) (λ t. refl)))
  pin-named s (reply.Pin (Some pinned)) c changes =
      let r = reply.Pin (Some pinned) in
      let cs = components count by (step.Pin s) r c in
      let e = made (step.Pin s) r c in
      let u = s.vcpu in
      let k = u % count in
      let x = before.vcpus u in
      let y = with_pins s.row pinned.pins x in
      let at = vcpu-touched cs before after e changes u (or-true (u == u) false (eq-eqb u u refl)) in
      let here = queue-touched cs before after e changes k (or-true (k == k) false (eq-eqb k k refl)) in
      arrives-if count before after u (wakes y) k x.plan.priority (mod-lt u positive)
      (λ g other. queue-untouched cs before after e changes g (or-false (g == k) ∙ other))
      (here.1
      ∙ ap (λ b. if b then arrived u c.priority (before.queues k) else before.queues k) at.0.1
      ∙ ap (λ p. if wakes y then arrived u p (before.queues k) else before.queues k) at.0.2)
      (λ wake. wakes-not-ready y wake)
      (λ f. ap (worth f) at.1 ∙ woken-worth f y)
  pin-named s r c changes =
      let at = vcpu-touched (components count by (step.Pin s) r c) before after (made (step.Pin s) r c) changes s.vcpu (or-true (s.vcpu == s.vcpu) false (eq-eqb s.vcpu s.vcpu refl)) in
      absurd at.0

  pin-kept : (s : Pin) (r : Reply) (c : Carry) → Changes (components count by (step.Pin s) r c) before after (made (step.Pin s) r c) → (v : ℕ) → Kept v
  pin-kept s r c changes v =
      by-name v s.vcpu
      (λ other. other-kept (components count by (step.Pin s) r c) (step.Pin s) r c changes refl v other (or-false (v == s.vcpu) ∙ other))
      (pin-named s r c changes)

-- a hart's own queue: a VCPU that it preempts goes there
module _ (count : ℕ) (positive : 0 < count) (before after : Board) (h : ℕ) (less : h < count) (s : Preempt) (r : Reply) (c : Carry)
    (changes : Changes (components count (Hart h) (step.Preempt s) r c) before after (made count positive before after (Hart h) (step.Preempt s) r c)) where
  abbrev u : ℕ
  u = s.vcpu

  abbrev x : VcpuValue
  x = before.vcpus u

  abbrev l : Result State WrongState
  l = led move.Preempt x.state

  abbrev cs : List CellId
  cs = Queue h ∷ Vcpu u ∷ []

  abbrev e : Made
  e = made count positive before after (Hart h) (step.Preempt s) r c

  at : VcpuAgrees (Hart h) x (step.Preempt s) r c × (after.vcpus u ≡ stepped move.Preempt x)
  at = vcpu-touched cs before after e changes u (or-true (u == u) false (eq-eqb u u refl))

  here : QueueAgrees h (before.queues h) (step.Preempt s) r c × (after.queues h ≡ arrived u c.priority (before.queues h))
  here = queue-touched cs before after e changes h (or-true (h == h) false (eq-eqb h h refl))

  preempted : (v : ℕ) → Counted count before v → Counted count after v
  preempted v =
      by-name count positive before after (Hart h) v u
      (λ other. other-kept count positive before after (Hart h) cs (step.Preempt s) r c changes refl v other (or-false (v == u) ∙ other))
      (arrives-if count before after u (is_ok l) h x.plan.priority less
      (λ g other. queue-untouched cs before after e changes g (or-false (g == h) ∙ other))
      (here.1
      ∙ ap (λ p. arrived u p (before.queues h)) at.0.2
      ∙ sym (ap (λ b. if b then arrived u (Some x.plan.priority) (before.queues h) else before.queues h) (preempts (Hart h) x.state at.0.0)))
      (λ ok. running-not-ready (Hart h) x.state at.0.0)
      (λ f. ap (worth f) at.1 ∙ arrival-worth f move.Preempt x.state x refl))

-- and one that it dispatches stood there
module _ (count : ℕ) (positive : 0 < count) (before after : Board) (h : ℕ) (less : h < count) (s : Dispatch) (r : Reply) (c : Carry)
    (changes : Changes (components count (Hart h) (step.Dispatch s) r c) before after (made count positive before after (Hart h) (step.Dispatch s) r c)) where
  abbrev u' : ℕ
  u' = s.vcpu

  abbrev x' : VcpuValue
  x' = before.vcpus u'

  abbrev l' : Result State WrongState
  l' = led (move.Dispatch h) x'.state

  abbrev cs' : List CellId
  cs' = Queue h ∷ Vcpu u' ∷ []

  abbrev e' : Made
  e' = made count positive before after (Hart h) (step.Dispatch s) r c

  at' : VcpuAgrees (Hart h) x' (step.Dispatch s) r c × (after.vcpus u' ≡ stepped (move.Dispatch h) x')
  at' = vcpu-touched cs' before after e' changes u' (or-true (u' == u') false (eq-eqb u' u' refl))

  here' : QueueAgrees h (before.queues h) (step.Dispatch s) r c × (after.queues h ≡ queue_after h (before.queues h) (step.Dispatch s) r c)
  here' = queue-touched cs' before after e' changes h (or-true (h == h) false (eq-eqb h h refl))

  queued : (o : Result State WrongState) → queue_after h (before.queues h) (step.Dispatch s) (reply.Dispatch (dispatched x'.plan.slice o)) c ≡ (if is_ok o then without u' (before.queues h) else before.queues h)
  queued (Ok to) = refl
  queued (Err wrong) = refl

  dispatched-kept : (v : ℕ) → Counted count before v → Counted count after v
  dispatched-kept v =
      by-name count positive before after (Hart h) v u'
      (λ other. other-kept count positive before after (Hart h) cs' (step.Dispatch s) r c changes refl v other (or-false (v == u') ∙ other))
      (departs-if count before after u' (is_ok l') h less
      (λ g other. queue-untouched cs' before after e' changes g (or-false (g == h) ∙ other))
      (here'.1 ∙ ap (λ reply. queue_after h (before.queues h) (step.Dispatch s) reply c) at'.0 ∙ queued l')
      (head-stands (before.queues h) u' here'.0)
      (λ f. ap (worth f) at'.1 ∙ departure-worth f (move.Dispatch h) x'.state x' refl))

-- a balance moves an entry from one queue to another
says-moved : (is_longest uneven : Bool) (q : List QueueEntry) (m : Option QueueEntry) (e : QueueEntry) → is_longest ≡ true → m ≡ Some e → SaysMoved is_longest uneven q m
    → (uneven ≡ true) × (last_of q ≡ Some e)
says-moved true true q m e is moved says = (refl, sym says ∙ moved)
says-moved is_longest false q m e is moved says = absurd (cc)
says-moved false true q m e is moved says = absurd (cc)

module _ (count : ℕ) (positive : 0 < count) (before after : Board) (by : ActorId) (s : Balance) (r : Reply) (c : Carry)
    (changes : Changes (components count by (step.Balance s) r c) before after (made count positive before after by (step.Balance s) r c))
    (long : length c.lengths ≡ count) (v : ℕ) (was : Counted count before v) (f : ℕ → ℕ) where
  abbrev w : QueueEntry → ℕ
  w = valued v f

  abbrev a : ℕ
  a = longest c.lengths

  abbrev b : ℕ
  b = shortest c.lengths

  abbrev event : Made
  event = made count positive before after by (step.Balance s) r c

  abbrev touched_by : List CellId
  touched_by = all_queues count ++ Vcpu 0 ∷ []

  abbrev Same : Type 0
  Same = standing_of count after w ≡ standing_of count before w

  balanced-queue : (g : ℕ) → g < count → QueueAgrees g (before.queues g) (step.Balance s) r c × (after.queues g ≡ balanced (g == a) (g == b) c.moved (before.queues g))
  balanced-queue g less = queue-touched touched_by before after event changes g (queue-among 0 count g (Vcpu 0 ∷ []) (omega arith) (omega arith))

  none-moved : c.moved ≡ None → Same
  none-moved is =
      sum-same count (λ g. weigh w (after.queues g)) (λ g. weigh w (before.queues g))
      (λ g less. ap (weigh w) ((balanced-queue g less).1 ∙ ap (λ m. balanced (g == a) (g == b) m (before.queues g)) is))

  gives : (is_shortest is_longest : Bool) (m : Option QueueEntry) (e : QueueEntry) (q : List QueueEntry) → is_longest ≡ true → m ≡ Some e → balanced is_longest is_shortest m q ≡ front_of q
  gives is_shortest is_longest m e q is moved = rw (moved, is) refl

  takes : (is_longest is_shortest : Bool) (m : Option QueueEntry) (e : QueueEntry) (q : List QueueEntry) → is_longest ≡ false → is_shortest ≡ true → m ≡ Some e
      → balanced is_longest is_shortest m q ≡ appended e q
  takes is_longest is_shortest m e q other is moved = rw (moved, other, is) refl

  stays : (is_longest is_shortest : Bool) (m : Option QueueEntry) (q : List QueueEntry) → is_longest ≡ false → is_shortest ≡ false → balanced is_longest is_shortest m q ≡ q
  stays is_longest is_shortest None q x y = refl
  stays is_longest is_shortest (Some e) q x y = rw (x, y) refl

  -- a VCPU whose entry the longest queue gives stands in no other
  none-elsewhere : (e : QueueEntry) → a < count → b < count → (a == b) ≡ false → last_of (before.queues a) ≡ Some e → (v == e.vcpu) ≡ true → count_in v (before.queues b) ≡ 0
  none-elsewhere e la lb apart last own =
      let one : ℕ → ℕ = λ p. 1 in
      let old : ℕ → ℕ = λ g. weigh (valued v one) (before.queues g) in
      let total : sum_below count old ≡ worth one (before.vcpus v) = was one in
      let small = one-small (is_ready (before.vcpus v).state) in
      let front = weigh-front (valued v one) (before.queues a) e last in
      let here : valued v one e ≡ 1 = ap (λ t. if t then 1 else 0) own in
      let pair : old a + old b ≤ sum_below count old = sum-pair count a b old la lb apart in
      let none : old b ≡ 0 = omega arith in
      none

  some-moved : (e : QueueEntry) → c.moved ≡ Some e → Same
  some-moved e moved =
      let long' : 0 < length c.lengths = omega arith in
      let la : a < count = subst (λ n. a < n) long (place-below (λ n k. nat_le k n) c.lengths long') in
      let lb : b < count = subst (λ n. b < n) long (place-below nat_le c.lengths long') in
      let at-longest = balanced-queue a la in
      let at-shortest = balanced-queue b lb in
      let says = says-moved (a == a) (is_uneven c.lengths) (before.queues a) c.moved e (eq-eqb a a refl) moved at-longest.0.1 in
      let apart = uneven-apart c.lengths says.0 in
      let old = λ (g : ℕ). weigh w (before.queues g) in
      let new = λ (g : ℕ). weigh w (after.queues g) in
      let at-a : new a ≡ weigh w (front_of (before.queues a)) = ap (weigh w) (at-longest.1 ∙ gives (a == b) (a == a) c.moved e (before.queues a) (eq-eqb a a refl) moved) in
      let at-b : new b ≡ weigh w (appended e (before.queues b)) = ap (weigh w) (at-shortest.1 ∙ takes (b == a) (b == b) c.moved e (before.queues b) (apart-back a b apart) (eq-eqb b b refl) moved) in
      let front = weigh-front w (before.queues a) e says.1 in
      let back = weigh-appended v f e (before.queues b) (none-elsewhere e la lb apart says.1) in
      let sums = sum-two count a b old new la lb apart (λ g na nb.
      queue-step touched_by before after event changes g (λ q. weigh w q ≡ weigh w (before.queues g))
      (λ t ok. ap (weigh w) (stays (g == a) (g == b) c.moved (before.queues g) na nb)) (λ t. refl)) in
      omega arith

  standing-same : Same
  standing-same = elim c.moved as (λ m. c.moved ≡ m → Same) [ None ↦ none-moved | Some e ↦ some-moved e ] refl

-- each step keeps how VCPUs are counted, by what is known of a hart that makes it
module _ (count : ℕ) (positive : 0 < count) (before after : Board) where
  abbrev Keeps : ActorId → Step → Reply → Carry → Type 0
  Keeps by s r c = Changes (components count by s r c) before after (made count positive before after by s r c) → (v : ℕ) → Counted count before v → Counted count after v

  balance-kept : (by : ActorId) (s : Balance) (r : Reply) (c : Carry) → ((h : ℕ) → by ≡ Hart h → length c.lengths ≡ count) → Keeps by (step.Balance s) r c
  balance-kept (Hart h) s r c long changes v was f =
      standing-same count positive before after (Hart h) s r c changes (long h refl) v was f
      ∙ was f
      ∙ sym (vcpu-step (components count (Hart h) (step.Balance s) r c) before after (made count positive before after (Hart h) (step.Balance s) r c) changes v (λ x. worth f x ≡ worth f (before.vcpus v)) (λ t ok. refl) (λ t. refl))
  balance-kept (Terminal t) s r c long changes v was f =
      let cs = components count (Terminal t) (step.Balance s) r c in
      let among = past-queues 0 (range_with_len 0 count) (Vcpu 0 ∷ []) in
      let at = vcpu-touched cs before after (made count positive before after (Terminal t) (step.Balance s) r c) changes 0 among in
      absurd (false-true at.0)

  step-kept : (by : ActorId) (s : Step) (r : Reply) (c : Carry) → ((h : ℕ) → by ≡ Hart h → is_at_own s ≡ true → h < count) → ((h : ℕ) → by ≡ Hart h → (now : Option ℕ) × Asks count now s c) → Keeps by s r c
  step-kept by (step.Kick s) r c there asks = kick-kept count positive before after by s r c
  step-kept by (step.Resume s) r c there asks = resume-kept count positive before after by s r c
  step-kept by (step.Pause s) r c there asks = pause-kept count positive before after by s r c
  step-kept by (step.Halt s) r c there asks = halt-kept count positive before after by s r c
  step-kept by (step.Reset s) r c there asks = reset-kept count positive before after by s r c
  step-kept by (step.Vdrop s) r c there asks = vdrop-kept count positive before after by s r c
  step-kept by (step.Pin s) r c there asks = pin-kept count positive before after by s r c
  step-kept (Hart h) (step.Preempt s) r c there asks = preempted count positive before after h (there h refl refl) s r c
  step-kept (Terminal t) (step.Preempt s) r c there asks = λ changes v.
      let at = vcpu-touched (Vcpu s.vcpu ∷ []) before after (made count positive before after (Terminal t) (step.Preempt s) r c) changes s.vcpu (or-true (s.vcpu == s.vcpu) false (eq-eqb s.vcpu s.vcpu refl)) in
      absurd (false-true at.0.0)
  step-kept (Hart h) (step.Dispatch s) r c there asks = dispatched-kept count positive before after h (there h refl refl) s r c
  step-kept (Terminal t) (step.Dispatch s) r c there asks = λ changes v.
      let at = vcpu-touched (Vcpu s.vcpu ∷ []) before after (made count positive before after (Terminal t) (step.Dispatch s) r c) changes s.vcpu (or-true (s.vcpu == s.vcpu) false (eq-eqb s.vcpu s.vcpu refl)) in
      absurd at.0
  step-kept by (step.Balance s) r c there asks = balance-kept by s r c (λ h is. (asks h is).1)
  step-kept by (step.Vadd s) r c there asks = λ changes.
      quiet-kept count positive before after by (components count by (step.Vadd s) r c) (step.Vadd s) r c changes (λ g q. refl) (λ f x ok. added-worth f x s.birth c.vcpu)
  step-kept by (step.Take s) r c there asks = λ changes.
      quiet-kept count positive before after by (components count by (step.Take s) r c) (step.Take s) r c changes (λ g q. refl) (λ f x ok. worth-same f x (vcpu_after by x (step.Take s) r c) (take-same by x c s.vcpu r))
  step-kept by (step.Fetch s) r c there asks = λ changes.
      quiet-kept count positive before after by (components count by (step.Fetch s) r c) (step.Fetch s) r c changes (λ g q. refl) (λ f x ok. fetch-worth f by x s r c ok.0)
  step-kept by (step.Access s) r c there asks = λ changes.
      quiet-kept count positive before after by (components count by (step.Access s) r c) (step.Access s) r c changes (λ g q. refl) (λ f x ok. worth-same f x (vcpu_after by x (step.Access s) r c) (access-same by x c s r))
  step-kept by s r c there asks = λ changes.
      quiet-kept count positive before after by (components count by s r c) s r c changes (λ g q. refl) (λ f x ok. refl)

-- what each reached board keeps
pub record Ordered (count : ℕ) (b : Board) : Type 0 where
  pub currents : Currents b
  pub known : (h : ℕ) → (b.harts h).harts ≡ count
  pub idle : (h : ℕ) → count ≤ h → current_of (b.harts h) ≡ None
  pub empty : (g : ℕ) → count ≤ g → b.queues g ≡ []
  pub counted : (v : ℕ) → Counted count b v

module _ (count : ℕ) (positive : 0 < count) (before after : Board) (J : Ordered count before) (m : Made) (is : IsStep count before after m) where
  pub there : (h : ℕ) → m.by ≡ Hart h → is_at_own m.step ≡ true → h < count
  there h by own = own-there count before after J.currents J.idle J.empty h m by own is.components

  asks : (h : ℕ) → m.by ≡ Hart h → (now : Option ℕ) × Asks count now m.step m.carry
  asks h by =
      let agreed =
      touched (is_hart h m.by) (HartAgrees h (before.harts h) m.step m.carry) (hart_after (before.harts h) m.step m.reply m.carry) (before.harts h) (after.harts h)
      (ap (is_hart h) by ∙ eq-eqb h h refl) (is.actor h) in (
        current_of (before.harts h),
        subst (λ n. Asks n (current_of (before.harts h)) m.step m.carry) (J.known h)
            (asked h (before.harts h) m.step m.carry (J.currents.owes h) agreed.0),
      )

  pub ordered-kept : Ordered count after
  ordered-kept = record {
    currents = currents-kept count before after m is J.currents;
    known = λ h. hart-step count before after m is h (λ hart. hart.harts ≡ count) (λ t ok. harts-same (before.harts h) m.step m.reply m.carry ∙ J.known h) (λ t. J.known h);
    idle = λ h out. idle-kept count h before after m is J.currents (J.empty h out) (J.idle h out);
    empty = λ g out. empty-kept count positive g out before after m is.components there (J.empty g out);
    counted = λ v. step-kept count positive before after m.by m.step m.reply m.carry there asks is.components v (J.counted v);
  }
