-- Harts beyond those that are there run no VCPU, and their queues stay empty.
use Rattle.std.proofs.Common.{◌≡◌, ℕ, zero, suc, ◌+◌, ◌<◌, ◌≤◌, ◌%◌, ◌⊎◌, inl, inr, Bool, true, false, ◌==◌, ◌||◌, List, [], ◌∷◌, ◌++◌, map, refl, ap, sym, ◌∙◌, subst, arith, eqb-true, eq-eqb}
use Rattle.std.proofs.lemmas.Bool.{cases_lt}
use Rattle.std.specs.Prelude.{Option, None, Some, Ok}
use Rattle.std.specs.List.{list_any, range_with_len}
use Rattle.std.proofs.Math.Nat.{mod-lt}
use Rattle.hv_answer.specs.declared.reply.Reply.{Reply}
use Rattle.hv_answer.specs.declared.reply.Reply.TheVariants as reply
use Rattle.hv_event.specs.declared.event.ActorId.{ActorId}
use Rattle.hv_event.specs.declared.event.ActorId.TheVariants.{Hart, Terminal}
use Rattle.hv_rules.specs.Carry.{Carry}
use Rattle.hv_event.specs.declared.event.CellId.{CellId}
use Rattle.hv_event.specs.declared.event.CellId.TheVariants.{Queue, Vcpu}
use Rattle.hv_rules.specs.Footprint.{components}
use Rattle.hv_queue.specs.Queue.{head_of}
use Rattle.hv_rules.specs.Hart.{HartState, hart_after}
use Rattle.hv_rules.specs.Queue.{queue_after}
use Rattle.hv_rules.specs.Vcpu.{runs_on}
use Rattle.hv_step.specs.declared.step.Step.{Step}
use Rattle.hv_step.specs.declared.step.Step.TheVariants as step
use Rattle.hv_laws.specs.Board.{Board, Made, Changes, IsStep, is_queue, is_hart}
use Rattle.hv_laws.specs.Laws.{current_of}
use Rattle.hv_laws.proofs.Current.{Currents, hart-step}
use Rattle.hv_laws.proofs.Frame.{or-false, or-true}
use Rattle.hv_laws.proofs.Rows.{Asks, asked, current-same}
use Rattle.hv_laws.proofs.States.{runs-here}
use Rattle.hv_laws.proofs.Steps.{past-dir-if, queue-step, queue-touched, vcpu-touched}

-- the steps that a hart makes at its own queue
abbrev pub is_at_own : Step → Bool
is_at_own (step.Preempt s) = true
is_at_own (step.Dispatch s) = true
is_at_own _ = false

-- the steps that put an entry into a queue
abbrev puts : Step → Bool
puts (step.Kick s) = true
puts (step.Resume s) = true
puts (step.Preempt s) = true
puts (step.Pin s) = true
puts (step.Balance s) = true
puts _ = false

-- any other leaves an empty queue empty
empty-after : (g : ℕ) (s : Step) (r : Reply) (c : Carry) → puts s ≡ false → queue_after g [] s r c ≡ []
empty-after g (step.Kick s) r c other = absurd (cc)
empty-after g (step.Resume s) r c other = absurd (cc)
empty-after g (step.Preempt s) r c other = absurd (cc)
empty-after g (step.Pin s) r c other = absurd (cc)
empty-after g (step.Balance s) r c other = absurd (cc)
empty-after g (step.Pause s) (reply.Pause (Ok done)) c other = refl
empty-after g (step.Halt s) (reply.Halt (Ok done)) c other = refl
empty-after g (step.Reset s) (reply.Reset (Ok done)) c other = refl
empty-after g (step.Vdrop s) (reply.Vdrop (Ok done)) c other = refl
empty-after g (step.Dispatch s) (reply.Dispatch (Ok slice)) c other = refl
empty-after g s r c other = refl

not-same : (g k count : ℕ) → count ≤ g → k < count → (g == k) ≡ true → ⊥
not-same g k count out less is = let same = eqb-true g k is in omega arith

not-among : (b n g : ℕ) (cs : List CellId) → b + n ≤ g → list_any (is_queue g) (map Queue (range_with_len b n) ++ cs) ≡ list_any (is_queue g) cs
not-among b zero g cs out = refl
not-among b (suc n) g cs out =
    let rest = list_any (is_queue g) (map Queue (range_with_len (b + 1) n) ++ cs) in
    ap (λ t. t || rest) (past b g (omega arith)) ∙ not-among (b + 1) n g cs (omega arith)
  where
    past : (b g : ℕ) → b < g → (g == b) ≡ false
    past b g l = grind arith

module _ (count : ℕ) (positive : 0 < count) (g : ℕ) (out : count ≤ g) where
  abbrev Away : List CellId → Type 0
  Away cs = list_any (is_queue g) cs ≡ true → ⊥

  at-home : (u : ℕ) → Away (Queue (u % count) ∷ Vcpu u ∷ [])
  at-home u t = not-same g (u % count) count out (mod-lt u positive) (sym (or-false (g == u % count)) ∙ t)

  nowhere : false ≡ true → ⊥
  nowhere t = cc

  away : (by : ActorId) (s : Step) (r : Reply) (c : Carry) → ((h : ℕ) → by ≡ Hart h → is_at_own s ≡ true → h < count) → puts s ≡ true → Away (components count by s r c)
  away by (step.Kick s) r c there is = past-dir-if Away s.guest (Queue (s.vcpu % count) ∷ Vcpu s.vcpu ∷ []) nowhere (at-home s.vcpu) (at-home s.vcpu)
  away by (step.Resume s) r c there is = past-dir-if Away s.guest (Queue (s.vcpu % count) ∷ Vcpu s.vcpu ∷ []) nowhere (at-home s.vcpu) (at-home s.vcpu)
  away (Hart h) (step.Preempt s) r c there is = λ t. not-same g h count out (there h refl refl) (sym (or-false (g == h)) ∙ t)
  away (Terminal u) (step.Preempt s) r c there is = nowhere
  away by (step.Pin s) r c there is = at-home s.vcpu
  away by (step.Balance s) r c there is = λ t. nowhere (sym (not-among 0 count g (Vcpu 0 ∷ []) (omega arith)) ∙ t)
  away by _ r c there is = absurd (cc)

  pub empty-kept : (before after : Board) (m : Made) → Changes (components count m.by m.step m.reply m.carry) before after m → ((h : ℕ) → m.by ≡ Hart h → is_at_own m.step ≡ true → h < count)
      → before.queues g ≡ [] → after.queues g ≡ []
  empty-kept before after m changes there was =
      let Goal : Bool → Type 0 = λ b. puts m.step ≡ b → after.queues g ≡ [] in
      let cs = components count m.by m.step m.reply m.carry in
      elim (puts m.step) as Goal [
        | true ↦ λ is. queue-step cs before after m changes g (λ q. q ≡ []) (λ t ok. absurd (away m.by m.step m.reply m.carry there is t)) (λ t. was)
        | false ↦ λ is. queue-step cs before after m changes g (λ q. q ≡ [])
            (λ t ok. ap (λ q. queue_after g q m.step m.reply m.carry) was ∙ empty-after g m.step m.reply m.carry is)
            (λ t. was)
      ] refl

-- a hart that runs no VCPU runs none after a step that is no dispatch
abbrev dispatches : Step → Bool
dispatches (step.Dispatch s) = true
dispatches _ = false

none-some : (now : Option ℕ) (v : ℕ) → now ≡ None → now ≡ Some v → ⊥
none-some now v p q = cc

idle-after : (hart : HartState) (s : Step) (r : Reply) (c : Carry) → dispatches s ≡ false → Asks hart.harts (current_of hart) s c → current_of hart ≡ None → current_of (hart_after hart s r c) ≡ None
idle-after hart (step.Dispatch s) r c other asks was = absurd (cc)
idle-after hart (step.Preempt s) r c other asks was = refl
idle-after hart (step.Leave s) r c other asks was = refl
idle-after hart (step.Fetch s) r c other asks was = absurd (none-some (current_of hart) s.vcpu was asks)
idle-after hart s r c other asks was = current-same hart s r c refl ∙ was

-- nor can it dispatch one from an empty queue
no-dispatch : (count h : ℕ) (before after : Board) (by : ActorId) (s : Step) (r : Reply) (c : Carry) → dispatches s ≡ true → is_hart h by ≡ true → before.queues h ≡ []
    → Changes (components count by s r c) before after (record { by = by; step = s; reply = r; carry = c }) → ⊥
no-dispatch count h before after (Hart g) (step.Dispatch s) r c is own empty changes =
    let cs = Queue g ∷ Vcpu s.vcpu ∷ [] in
    let at = queue-touched cs before after (record { by = Hart g; step = step.Dispatch s; reply = r; carry = c }) changes h (or-true (h == g) false own) in
    none-some (head_of (before.queues h)) s.vcpu (ap head_of empty) at.0
no-dispatch count h before after (Terminal t) s r c is own empty changes = absurd (cc)
no-dispatch count h before after (Hart g) _ r c is own empty changes = absurd (cc)

pub idle-kept : (count h : ℕ) (before after : Board) (m : Made) → IsStep count before after m → Currents before → before.queues h ≡ [] → current_of (before.harts h) ≡ None → current_of (after.harts h) ≡ None
idle-kept count h before after m is J empty was =
    let Goal : Bool → Type 0 = λ b. dispatches m.step ≡ b → current_of (after.harts h) ≡ None in
    elim (dispatches m.step) as Goal [
      | true ↦ λ d. hart-step count before after m is h (λ hart. current_of hart ≡ None) (λ t ok. absurd (no-dispatch count h before after m.by m.step m.reply m.carry d t empty is.components)) (λ t. was)
      | false ↦ λ d.
          hart-step count before after m is h (λ hart. current_of hart ≡ None)
          (λ t ok. idle-after (before.harts h) m.step m.reply m.carry d (asked h (before.harts h) m.step m.carry (J.owes h) ok) was)
          (λ t. was)
    ] refl

-- so a hart that makes a step at its own queue is there
module _ (count : ℕ) (before after : Board) (J : Currents before) (idle : (h : ℕ) → count ≤ h → current_of (before.harts h) ≡ None) (empty : (g : ℕ) → count ≤ g → before.queues g ≡ []) where
  -- a VCPU runs on a hart that is there
  runs-below : (v h : ℕ) → runs_on (Hart h) (before.vcpus v).state ≡ true → h < count
  runs-below v h runs =
      let there : (h < count) ⊎ (count ≤ h) = cases_lt h count in
      elim there [ inl l ↦ l | inr out ↦ absurd (none-some (current_of (before.harts h)) v (idle h out) (J.runs v h (runs-here h (before.vcpus v).state runs))) ]

  own-at : (h : ℕ) (by : ActorId) (s : Step) (r : Reply) (c : Carry) → by ≡ Hart h → is_at_own s ≡ true
      → Changes (components count by s r c) before after (record { by = by; step = s; reply = r; carry = c }) → h < count
  own-at h (Hart g) (step.Preempt s) r c is own changes =
      let cs = Queue g ∷ Vcpu s.vcpu ∷ [] in
      let at = vcpu-touched cs before after (record { by = Hart g; step = step.Preempt s; reply = r; carry = c }) changes s.vcpu (or-true (s.vcpu == s.vcpu) false (eq-eqb s.vcpu s.vcpu refl)) in
      runs-below s.vcpu h (subst (λ a. runs_on a (before.vcpus s.vcpu).state ≡ true) is at.0.0)
  own-at h by (step.Dispatch s) r c is own changes =
      let there : (h < count) ⊎ (count ≤ h) = cases_lt h count in
      elim there [
        | inl l ↦ l
        | inr out ↦ absurd (no-dispatch count h before after by (step.Dispatch s) r c refl (ap (is_hart h) is ∙ eq-eqb h h refl) (empty h out) changes)
      ]
  own-at h (Terminal t) s r c is own changes = absurd (cc)
  own-at h (Hart g) _ r c is own changes = absurd (cc)

  pub own-there : (h : ℕ) (m : Made) → m.by ≡ Hart h → is_at_own m.step ≡ true → Changes (components count m.by m.step m.reply m.carry) before after m → h < count
  own-there h m is own changes = own-at h m.by m.step m.reply m.carry is own changes
