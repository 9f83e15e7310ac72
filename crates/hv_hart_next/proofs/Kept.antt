-- What holds of each board that steps lead to: a hart owes interrupt steps alone, knows how many harts there are, and
-- waits for accesses of at least one byte.
use Rattle.std.proofs.Common.{◌≡◌, ℕ, zero, suc, ◌≤◌, ◌==◌, true, eq-eqb, refl, sym, ap, subst, ◌∙◌, List}
use Rattle.std.specs.Prelude.{Option, None, Some, Ok}
use Rattle.std.specs.List.{list_all, list_any}
use Rattle.hv_answer.specs.declared.reply.Outcome.{Outcome}
use Rattle.hv_answer.specs.declared.reply.Outcome.TheVariants as outcome
use Rattle.hv_answer.specs.declared.reply.Reply.{Reply}
use Rattle.hv_answer.specs.declared.reply.Reply.TheVariants as reply
use Rattle.hv_event.specs.declared.event.ActorId.{ActorId}
use Rattle.hv_exec.specs.declared.context.After.{After}
use Rattle.hv_exec.specs.declared.context.After.TheVariants.{Load, Store}
use Rattle.hv_kinds.specs.declared.access.AccessKind.{AccessKind}
use Rattle.hv_kinds.specs.declared.access.AccessKind.TheVariants as access
use Rattle.hv_kinds.specs.declared.generation.Generation.{Generation}
use Rattle.hv_kinds.specs.declared.state.State.TheVariants.{Running}
use Rattle.hv_laws.specs.Board.{Board, Changes, IsStep, Made, is_vcpu}
use Rattle.hv_laws.specs.Run.{IsReached, IsStart}
use Rattle.hv_laws.proofs.Current.{Currents, currents-kept, hart-step}
use Rattle.hv_laws.proofs.Frame.{or-true}
use Rattle.hv_laws.proofs.Rows.{harts-same}
use Rattle.hv_rules.proofs.Slices.{is_signal}
use Rattle.hv_laws.proofs.Runs.{reached-keeps}
use Rattle.hv_laws.proofs.Steps.{vcpu-touched}
use Rattle.hv_rules.specs.Carry.{Carry, Pending, load, store}
use Rattle.hv_rules.specs.Footprint.{components, reached}
use Rattle.hv_rules.specs.Hart.{HartState, faulted, fetched, hart_after, pended}
use Rattle.hv_rules.specs.Vcpu.{AgreesToFetch, pending_of}
use Rattle.hv_step.specs.declared.step.Step.{Step}
use Rattle.hv_step.specs.declared.step.Step.TheVariants as step
use Rattle.hv_vcpu.specs.Instruction.{carried_out}
use Rattle.hv_vcpu.specs.Vcpu.{VcpuValue}
use Rattle.hv_window_laws.proofs.Lists.{le-is}
use Rattle.hv_hart_next.proofs.Sizes.{carried-whole, is_whole}

-- how many bytes a pending access has
abbrev pub size_of : Pending → ℕ
size_of (load address size is_signed register) = size
size_of (store address size value) = size

abbrev pub IsSome : Option Pending → Type 0
IsSome None = Unit {0}
IsSome (Some pending) = 1 ≤ size_of pending

abbrev pub IsSized : Option (Pending × Generation) → Type 0
IsSized None = Unit {0}
IsSized (Some pending) = 1 ≤ size_of pending.0

-- what a fetch leaves pending has a size

pending-some : (answer : After) → is_whole answer ≡ true → IsSome (pending_of answer)
pending-some (Load address size is_signed register) whole = le-is 1 size whole
pending-some (Store address size value) whole = le-is 1 size whole
pending-some _ whole = tt

agreed-some : (v : VcpuValue) (r : Reply) (c : Carry) → AgreesToFetch v r c → IsSome c.pending
agreed-some v (reply.Fetch None) c agreed = subst IsSome (sym agreed) tt
agreed-some v (reply.Fetch (Some done)) c agreed =
    subst IsSome (sym agreed.1) (pending-some (carried_out v.context done.word).answer (carried-whole v.context done.word))
agreed-some v _ c agreed = absurd agreed

abbrev FetchesSome : Step → Carry → Type 0
FetchesSome (step.Fetch s) c = IsSome c.pending
FetchesSome _ c = Unit {0}

fetches-some : (count : ℕ) (before after : Board) (by : ActorId) (s : Step) (r : Reply) (c : Carry)
    → Changes (components count by s r c) before after (record { by = by; step = s; reply = r; carry = c }) → FetchesSome s c
fetches-some count before after by (step.Fetch s) r c changes =
    let cs = components count by (step.Fetch s) r c in
    let at = vcpu-touched cs before after (record { by = by; step = step.Fetch s; reply = r; carry = c }) changes s.vcpu
    (or-true (s.vcpu == s.vcpu) (list_any (is_vcpu s.vcpu) (reached s.generation s.row c.area)) (eq-eqb s.vcpu s.vcpu refl)) in
    agreed-some (before.vcpus s.vcpu) r c at.0.4
fetches-some count before after by _ r c changes = tt

-- so each access that a hart waits for has one

pended-sized : (pending : Option Pending) (generation : Generation) → IsSome pending → IsSized (pended pending generation)
pended-sized None generation some = tt
pended-sized (Some pending) generation some = some

fetched-sized : (hart : HartState) (generation : Generation) (o : Outcome) (c : Carry) → IsSome c.pending → IsSized hart.pending
    → IsSized (fetched hart generation o c).pending
fetched-sized hart generation outcome.Access c some was = pended-sized c.pending generation some
fetched-sized hart generation outcome.Wait c some was = tt
fetched-sized hart generation _ c some was = was

faulted-sized : (hart : HartState) (kind : AccessKind) → IsSized hart.pending → IsSized (faulted hart kind).pending
faulted-sized hart access.Execute was = was
faulted-sized hart _ was = tt

sized-kept : (hart : HartState) (s : Step) (r : Reply) (c : Carry) → FetchesSome s c → IsSized hart.pending → IsSized (hart_after hart s r c).pending
sized-kept hart (step.Sample s) (reply.Sample None) c some was = was
sized-kept hart (step.Sample s) (reply.Sample (Some sampled)) c some was = was
sized-kept hart (step.Tick s) (reply.Tick None) c some was = was
sized-kept hart (step.Tick s) (reply.Tick (Some changes)) c some was = was
sized-kept hart (step.Dispatch s) (reply.Dispatch (Ok slice)) c some was = was
sized-kept hart (step.Dispatch s) r c some was = was
sized-kept hart (step.Preempt s) r c some was = tt
sized-kept hart (step.Leave s) r c some was = tt
sized-kept hart (step.Fetch s) (reply.Fetch None) c some was = was
sized-kept hart (step.Fetch s) (reply.Fetch (Some done)) c some was = fetched-sized hart s.generation done.outcome c some was
sized-kept hart (step.Access s) (reply.Access None) c some was = tt
sized-kept hart (step.Access s) (reply.Access (Some accessed)) c some was = tt
sized-kept hart (step.Fault s) r c some was = faulted-sized hart s.access was
sized-kept hart s r c some was = was

pub record Kept (count : ℕ) (b : Board) : Type 0 where
  pub currents : Currents b
  pub known : (h : ℕ) → (b.harts h).harts ≡ count
  pub sized : (h : ℕ) → IsSized (b.harts h).pending

start-running : (count : ℕ) (b : Board) → IsStart count b → (v h : ℕ) → (b.vcpus v).state ≡ Running h → ⊥
start-running count b is zero h run = let r = is.orphan in cc
start-running count b is (suc v) h run = let r = ap (λ (x : VcpuValue). x.state) (is.others v) in cc

pub start-kept : (count : ℕ) (b : Board) → IsStart count b → Kept count b
start-kept count b is = record {
  currents = record {
    runs = λ v h run. absurd (start-running count b is v h run);
    owes = λ h. ap (λ (owed : List Step). list_all is_signal owed) (is.nothing_owed h);
  };
  known = is.known;
  sized = λ h. subst IsSized (sym (is.nothing_pending h)) tt;
}

pub step-kept : (count : ℕ) (before after : Board) (m : Made) → IsStep count before after m → Kept count before → Kept count after
step-kept count before after m is J = record {
  currents = currents-kept count before after m is J.currents;
  known = λ h.
      hart-step count before after m is h (λ hart. hart.harts ≡ count)
      (λ t ok. harts-same (before.harts h) m.step m.reply m.carry ∙ J.known h) (λ t. J.known h);
  sized = λ h.
      hart-step count before after m is h (λ hart. IsSized hart.pending)
      (λ t ok. sized-kept (before.harts h) m.step m.reply m.carry (fetches-some count before after m.by m.step m.reply m.carry is.components) (J.sized h))
      (λ t. J.sized h);
}

pub kept-reached : (count : ℕ) (b : Board) → IsReached count b → Kept count b
kept-reached count = reached-keeps count (Kept count) (start-kept count) (λ b a m is J. step-kept count b a m is J)
