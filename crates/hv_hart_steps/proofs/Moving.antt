-- Queues that take a step one after the other, each as its own number has to.
use Rattle.std.proofs.Common.{◌≡◌, ◌≢◌, ℕ, zero, suc, ◌+◌, ◌<◌, ◌≤◌, inl, inr, List, [], ◌∷◌, ◌++◌, map, drop, length, slice_index_or, slice_set, sym, subst, ◌∙◌, arith}
use Rattle.std.specs.List.{range_with_len}
use Rattle.std.proofs.lemmas.Bool.{cases_lt}
use Rattle.std.proofs.lemmas.List.{get_or-set_same, get_or-set_other, get_or_default}
use Rattle.hv_answer.specs.declared.reply.Reply.{Reply}
use Rattle.hv_event.specs.declared.event.ActorId.{ActorId}
use Rattle.hv_event.specs.declared.event.CellId.{CellId}
use Rattle.hv_event.specs.declared.event.CellId.TheVariants as component
use Rattle.hv_hart_steps.specs.Allowed.{HasVcpu}
use Rattle.hv_parts.specs.Kinds.{AreOf, IsPartOf}
use Rattle.hv_parts.specs.Takes.{PartTakes, AllTake}
use Rattle.hv_parts.specs.Value.{PartValue}
use Rattle.hv_parts.specs.Value as value
use Rattle.hv_rules.specs.Carry.{Carry}
use Rattle.hv_rules.specs.Footprint.{all_queues}
use Rattle.hv_step.specs.declared.step.Step.{Step}
use Rattle.hv_vcpu.specs.Vcpu.{VcpuValue}

module _ {P : Type 0} (Changes : ℕ → P → P → Type 0) (old now : List P) (n : ℕ) (b a : P) (low : n < length now) (rest : (k : ℕ) (d : P) → n ≤ k → slice_index_or now k d ≡ slice_index_or old k d) where
  apart : (k : ℕ) → k < n → k ≢ n
  apart k less is = omega (arith, less, is)

  beyond : (k : ℕ) → n + 1 ≤ k → k ≢ n
  beyond k more is = omega (arith, more, is)

  here : (d : P) → Changes n (slice_index_or now n b) a → Changes n (slice_index_or old n d) (slice_index_or (slice_set now n a) n d)
  here d took =
      let set : slice_index_or (slice_set now n a) n d ≡ a = get_or-set_same now n a d low in
      let was : slice_index_or now n b ≡ slice_index_or old n d = get_or_default now n b d low ∙ rest n d (omega arith) in
      subst (λ t. Changes n t (slice_index_or (slice_set now n a) n d)) was
      (subst (λ t. Changes n (slice_index_or now n b) t) (sym set) took)

  -- One part more is changed.
  pub each-more :
      ((k : ℕ) (d : P) → k < n → Changes k (slice_index_or old k d) (slice_index_or now k d))
      → Changes n (slice_index_or now n b) a
      → (k : ℕ) (d : P) → k < n + 1 → Changes k (slice_index_or old k d) (slice_index_or (slice_set now n a) k d)
  each-more each took k d less =
      elim (cases_lt k n) [
        | inl below ↦ subst (λ t. Changes k (slice_index_or old k d) t) (sym (get_or-set_other now n k a d (apart k below))) (each k d below)
        | inr above ↦
            let is : n ≡ k = omega (arith, less, above) in
            subst (λ j. Changes j (slice_index_or old j d) (slice_index_or (slice_set now n a) j d)) is (here d took)
      ]

  -- The others stay as they were.
  pub rest-more : (k : ℕ) (d : P) → n + 1 ≤ k → slice_index_or (slice_set now n a) k d ≡ slice_index_or old k d
  rest-more k d more = get_or-set_other now n k a d (beyond k more) ∙ rest k d (omega (arith, more))

module _ {P : Type 0} (f : P → PartValue) (by : ActorId) (s : Step) (r : Reply) (c : Carry) where
  -- Queues take a step, each by its number, and what stands behind them.
  each-queue-takes :
      (n h : ℕ) (zs : List CellId) (ps qs xs ys : List P) → length ps ≡ n → length qs ≡ length ps
      → ((k : ℕ) (d : P) → k < length ps → PartTakes by (component.Queue (h + k)) s r c (f (slice_index_or ps k d)) (f (slice_index_or qs k d)))
      → AllTake by zs s r c (map f xs) (map f ys) → AllTake by (map component.Queue (range_with_len h n) ++ zs) s r c (map f (ps ++ xs)) (map f (qs ++ ys))
  each-queue-takes zero h zs [] [] xs ys n-is l each rest = rest
  each-queue-takes zero h zs (p ∷ ps) qs xs ys n-is l each rest = absurd (omega (arith, n-is))
  each-queue-takes zero h zs [] (q ∷ qs) xs ys n-is l each rest = absurd (omega (arith, l))
  each-queue-takes (suc n) h zs [] qs xs ys n-is l each rest = absurd (omega (arith, n-is))
  each-queue-takes (suc n) h zs (p ∷ ps) [] xs ys n-is l each rest = absurd (omega (arith, l))
  each-queue-takes (suc n) h zs (p ∷ ps) (q ∷ qs) xs ys n-is l each rest =
      let first : h + 0 ≡ h = omega arith in
      let later : (k : ℕ) → h + suc k ≡ h + 1 + k = λ k. omega arith in (
        subst (λ j. PartTakes by (component.Queue j) s r c (f p) (f q)) first (each 0 p (omega arith)),
        each-queue-takes n (h + 1) zs ps qs xs ys (omega (arith, n-is)) (omega (arith, l))
            (λ k d b. subst (λ j. PartTakes by (component.Queue j) s r c (f (slice_index_or ps k d)) (f (slice_index_or qs k d))) (later k) (each (suc k) d (omega arith)))
            rest,
      )

  -- The queues of all harts take it, and what stands behind them.
  pub all-queues-take :
      (n : ℕ) (zs : List CellId) (ps qs xs ys : List P) → length ps ≡ n → length qs ≡ length ps
      → ((k : ℕ) (d : P) → k < length ps → PartTakes by (component.Queue k) s r c (f (slice_index_or ps k d)) (f (slice_index_or qs k d)))
      → AllTake by zs s r c (map f xs) (map f ys) → AllTake by (all_queues n ++ zs) s r c (map f (ps ++ xs)) (map f (qs ++ ys))
  all-queues-take n zs ps qs xs ys n-is l each rest =
      let from : (k : ℕ) → k ≡ 0 + k = λ k. omega arith in
      each-queue-takes n 0 zs ps qs xs ys n-is l
      (λ k d b. subst (λ j. PartTakes by (component.Queue j) s r c (f (slice_index_or ps k d)) (f (slice_index_or qs k d))) (from k) (each k d b))
      rest

past-queue : (h : ℕ) (wanted : VcpuValue → Type 0) (w : PartValue) (ws : List PartValue) → IsPartOf (component.Queue h) w → HasVcpu wanted (w ∷ ws) → HasVcpu wanted ws
past-queue h wanted (value.Queue q) ws is has = has
past-queue h wanted w ws is has = absurd is

-- The VCPU behind all queues is as wanted.
pub vcpu-behind :
    {P : Type 0} (f : P → PartValue) (wanted : VcpuValue → Type 0) (n h v : ℕ) (ps : List P) → AreOf (map component.Queue (range_with_len h n) ++ component.Vcpu v ∷ []) (map f ps)
    → HasVcpu wanted (map f ps) → HasVcpu wanted (map f (drop n ps))
vcpu-behind f wanted zero h v ps are has = has
vcpu-behind f wanted (suc n) h v [] are has = has
vcpu-behind f wanted (suc n) h v (p ∷ ps) are has = vcpu-behind f wanted n (h + 1) v ps are.1 (past-queue h wanted (f p) (map f ps) are.0 has)
