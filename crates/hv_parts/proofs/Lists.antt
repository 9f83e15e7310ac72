-- Components that stand in one list, of which some take a step.
use Rattle.std.proofs.Common.{◌≡◌, ℕ, zero, suc, ◌+◌, ◌<◌, List, [], ◌∷◌, ◌++◌, map, take, drop, length, slice_index_or, slice_set, refl, ap, sym, subst, ◌∙◌, arith}
use Rattle.std.specs.Prelude.{All}
use Rattle.std.specs.List.{range_with_len}
use Rattle.hv_answer.specs.declared.reply.Reply.{Reply}
use Rattle.hv_event.specs.declared.event.ActorId.{ActorId}
use Rattle.hv_event.specs.declared.event.CellId.{CellId}
use Rattle.hv_event.specs.declared.event.CellId.TheVariants as component
use Rattle.hv_parts.specs.Kinds.{IsPartOf, AreOf}
use Rattle.hv_parts.specs.Takes.{PartTakes, AllTake}
use Rattle.hv_parts.specs.Value.{PartValue}
use Rattle.hv_parts.specs.Value as value
use Rattle.hv_rules.specs.Carry.{Carry}
use Rattle.hv_step.specs.declared.step.Step.{Step}

module _ {P : Type 0} (f : P → PartValue) (by : ActorId) (s : Step) (r : Reply) (c : Carry) where
  -- One component is changed.
  pub one-takes :
      (x : CellId) (ps : List P) (a b a' : P) → AreOf (x ∷ []) (map f ps) → slice_index_or ps 0 a ≡ b → PartTakes by x s r c (f b) (f a')
      → AllTake by (x ∷ []) s r c (map f ps) (map f (slice_set ps 0 a'))
  one-takes x [] a b a' are is takes = absurd are
  one-takes x (p ∷ []) a b a' are is takes = (subst (λ t. PartTakes by x s r c (f t) (f a')) (sym is) takes, tt)
  one-takes x (p ∷ q ∷ ps) a b a' are is takes = absurd are.1

  -- One component is read.
  pub one-reads :
      (x : CellId) (ps : List P) (a b : P) → AreOf (x ∷ []) (map f ps) → a ≡ slice_index_or ps 0 a → a ≡ b → PartTakes by x s r c (f b) (f b)
      → AllTake by (x ∷ []) s r c (map f ps) (map f ps)
  one-reads x [] a b are at is takes = absurd are
  one-reads x (p ∷ []) a b are at is takes =
      (subst (λ t. PartTakes by x s r c (f t) (f t)) at (subst (λ t. PartTakes by x s r c (f t) (f t)) (sym is) takes), tt)
  one-reads x (p ∷ q ∷ ps) a b are at is takes = absurd are.1

  -- Two components are changed, and the others take the step as they are.
  pub two-take :
      (x y : CellId) (zs : List CellId) (ps front back : List P) (a b a0 b0 a' b' : P)
      → AreOf (x ∷ y ∷ zs) (map f ps) → ps ≡ front ++ back → length front ≡ 1 → slice_index_or front 0 a ≡ a0 → slice_index_or back 0 b ≡ b0
      → PartTakes by x s r c (f a0) (f a') → PartTakes by y s r c (f b0) (f b')
      → ((p q : P) (rest : List P) → ps ≡ p ∷ q ∷ rest → AreOf zs (map f rest) → AllTake by zs s r c (map f rest) (map f rest))
      → AllTake by (x ∷ y ∷ zs) s r c (map f ps) (map f (slice_set front 0 a' ++ slice_set back 0 b'))
  two-take x y zs ps [] back a b a0 b0 a' b' are is long is0 is1 first second others = absurd (omega (arith, long))
  two-take x y zs ps (p ∷ q ∷ front) back a b a0 b0 a' b' are is long is0 is1 first second others = absurd (omega (arith, long))
  two-take x y zs ps (p ∷ []) [] a b a0 b0 a' b' are is long is0 is1 first second others =
      absurd ((subst (λ l. AreOf (x ∷ y ∷ zs) (map f l)) is are).1)
  two-take x y zs ps (p ∷ []) (q ∷ back) a b a0 b0 a' b' are is long is0 is1 first second others =
      subst (λ l. AllTake by (x ∷ y ∷ zs) s r c (map f l) (f a' ∷ f b' ∷ map f back)) (sym is) (
        subst (λ t. PartTakes by x s r c (f t) (f a')) (sym is0) first,
        (
          subst (λ t. PartTakes by y s r c (f t) (f b')) (sym is1) second,
          others p q back is (subst (λ l. AreOf (x ∷ y ∷ zs) (map f l)) is are).1.1,
        ),
      )

  -- No others are there.
  pub no-others : (p q : P) (rest : List P) → AreOf [] (map f rest) → AllTake by [] s r c (map f rest) (map f rest)
  no-others p q [] are = tt
  no-others p q (t ∷ rest) are = absurd are

  -- Queues take a step, and what stands behind them.
  pub queues-take :
      (n h : ℕ) (zs : List CellId) (ps qs xs ys : List P) → length ps ≡ n → length qs ≡ length ps
      → ((k : ℕ) (d : P) → k < length ps → (hart : ℕ) → PartTakes by (component.Queue hart) s r c (f (slice_index_or ps k d)) (f (slice_index_or qs k d)))
      → AllTake by zs s r c (map f xs) (map f ys) → AllTake by (map component.Queue (range_with_len h n) ++ zs) s r c (map f (ps ++ xs)) (map f (qs ++ ys))
  queues-take zero h zs [] [] xs ys n-is l each rest = rest
  queues-take zero h zs (p ∷ ps) qs xs ys n-is l each rest = absurd (omega (arith, n-is))
  queues-take zero h zs [] (q ∷ qs) xs ys n-is l each rest = absurd (omega (arith, l))
  queues-take (suc n) h zs [] qs xs ys n-is l each rest = absurd (omega (arith, n-is))
  queues-take (suc n) h zs (p ∷ ps) [] xs ys n-is l each rest = absurd (omega (arith, l))
  queues-take (suc n) h zs (p ∷ ps) (q ∷ qs) xs ys n-is l each rest = (
    each 0 p (omega arith) h,
    queues-take n (h + 1) zs ps qs xs ys (omega (arith, n-is)) (omega (arith, l)) (λ k d b. each (suc k) d (omega arith)) rest,
  )

any-queue : (h : ℕ) (w : PartValue) → IsPartOf (component.Queue h) w → IsPartOf (component.Queue 0) w
any-queue h (value.Queue q) is = tt
any-queue h (value.Dir q) is = is
any-queue h (value.Shelf q) is = is
any-queue h (value.Files q) is = is
any-queue h (value.Space q) is = is
any-queue h (value.Vcpu q) is = is
any-queue h (value.Body q) is = is
any-queue h (value.Area q) is = is

-- Some queues stand before a VCPU.
pub record StandBefore {P : Type 0} (f : P → PartValue) (n v : ℕ) (ps : List P) : Type 0 where
  pub long : length ps ≡ n + 1
  pub queues : All (λ p. IsPartOf (component.Queue 0) (f p)) (take n ps)
  pub vcpu : AreOf (component.Vcpu v ∷ []) (map f (drop n ps))

more :
    {P : Type 0} (f : P → PartValue) (n : ℕ) (p : P) (ps : List P) → IsPartOf (component.Queue 0) (f p) → All (λ p. IsPartOf (component.Queue 0) (f p)) (take n ps)
    → All (λ p. IsPartOf (component.Queue 0) (f p)) (p ∷ take n ps)
more f n p ps here later zero d b = here
more f n p ps here later (suc i) d b = later i d (omega arith)

pub stand-before :
    {P : Type 0} (f : P → PartValue) (n h v : ℕ) (ps : List P) → AreOf (map component.Queue (range_with_len h n) ++ component.Vcpu v ∷ []) (map f ps)
    → StandBefore f n v ps
stand-before f zero h v [] is = absurd is
stand-before f zero h v (p ∷ []) is = record { long = refl; queues = λ i d b. absurd (omega arith); vcpu = is }
stand-before f zero h v (p ∷ q ∷ qs) is = absurd is.1
stand-before f (suc n) h v [] is = absurd is
stand-before f (suc n) h v (p ∷ ps) is =
    let rest = stand-before f n (h + 1) v ps is.1 in
    record {
      long = omega (arith, rest.long);
      queues = more f n p ps (any-queue h (f p) is.0) rest.queues;
      vcpu = rest.vcpu;
    }

any-vcpu : (v : ℕ) (w : PartValue) → IsPartOf (component.Vcpu v) w → IsPartOf (component.Vcpu 0) w
any-vcpu v (value.Vcpu q) is = tt
any-vcpu v (value.Queue q) is = is
any-vcpu v (value.Dir q) is = is
any-vcpu v (value.Shelf q) is = is
any-vcpu v (value.Files q) is = is
any-vcpu v (value.Space q) is = is
any-vcpu v (value.Body q) is = is
any-vcpu v (value.Area q) is = is

-- A VCPU stands alone.
pub vcpu-is : {P : Type 0} (f : P → PartValue) (v : ℕ) (ps : List P) (d : P) → AreOf (component.Vcpu v ∷ []) (map f ps) → IsPartOf (component.Vcpu 0) (f (slice_index_or ps 0 d))
vcpu-is f v [] d is = absurd is
vcpu-is f v (p ∷ []) d is = any-vcpu v (f p) is.0
vcpu-is f v (p ∷ q ∷ ps) d is = absurd is.1

-- A list keeps what it is worth where a part does.
pub kept-as : {P : Type 0} (f : P → PartValue) (ps : List P) (a b a' : P) → slice_index_or ps 0 a ≡ b → f a' ≡ f b → map f (slice_set ps 0 a') ≡ map f ps
kept-as f [] a b a' is same = refl
kept-as f (p ∷ ps) a b a' is same = ap (λ v. v ∷ map f ps) (same ∙ ap f (sym is))
