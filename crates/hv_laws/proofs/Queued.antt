-- The ready VCPUs are those that stand in queues: in sums, by entries and by VCPUs.
use Rattle.std.proofs.Common.{◌≡◌, ℕ, zero, suc, ◌<◌, ◌≤◌, ◌⊎◌, inl, inr, Bool, true, false, ◌==◌, if◌then◌else◌, List, [], ◌∷◌, refl, ap, sym, ◌∙◌, subst, arith, eqb-true, eq-eqb}
use Rattle.std.specs.Prelude.{not}
use Rattle.std.specs.List.{All}
use Rattle.std.proofs.lemmas.Bool.{cases_lt}
use Rattle.std.proofs.lemmas.List.Elements.{All-nil, All-cons}
use Rattle.hv_kinds.specs.declared.state.State.TheVariants.{Ready}
use Rattle.hv_queue.specs.Queue.{weigh, count_in}
use Rattle.hv_queue.specs.declared.entry.QueueEntry.{QueueEntry}
use Rattle.hv_laws.specs.Board.{Board}
use Rattle.hv_laws.specs.Laws.{sum_below, is_ready, one_if, foreign, IsOfReady, ReadyIsQueued, EntriesAreOfReady, ReadyIsInOneQueue}
use Rattle.hv_laws.proofs.Ready.{Ordered}
use Rattle.hv_laws.proofs.Runs.{ordered-reached, one-if-true, ready-is}
use Rattle.hv_laws.proofs.Sums.{sum-part}

own-none : (b : Bool) (p : ℕ) → (if b then one_if (not (p == p)) else 0) ≡ 0
own-none true p = rw (eq-eqb p p refl) refl
own-none false p = refl

pub ready-is-queued : ReadyIsQueued
ready-is-queued count b positive is v =
    let ordered = ordered-reached count positive b is in
    let counted = ordered.counted v in
    let x = b.vcpus v in
    record {
      once = counted (λ p. 1);
      own_priority = counted (λ p. one_if (not (p == x.plan.priority))) ∙ own-none (is_ready x.state) x.plan.priority;
      no_other = λ g out. ap (count_in v) (ordered.empty g out);
    }

-- each entry of a queue, by what all of them weigh
one-if-none : (b : Bool) → one_if (not b) ≡ 0 → b ≡ true
one-if-none true is = refl
one-if-none false is = absurd (omega arith)

module _ (b : Board) where
  own-entry : (e : QueueEntry) → foreign e.vcpu (b.vcpus e.vcpu).plan.priority e ≡ 0 → e.priority ≡ (b.vcpus e.vcpu).plan.priority
  own-entry e none =
      let own = (b.vcpus e.vcpu).plan.priority in
      let here : one_if (not (e.priority == own)) ≡ 0 = sym (ap (λ t. if t then one_if (not (e.priority == own)) else 0) (eq-eqb e.vcpu e.vcpu refl)) ∙ none in
      eqb-true e.priority own (one-if-none (e.priority == own) here)

  all-of-ready : (q : List QueueEntry) → ((v : ℕ) → 0 < count_in v q → (b.vcpus v).state ≡ Ready) → ((v : ℕ) → weigh (foreign v (b.vcpus v).plan.priority) q ≡ 0) → All (IsOfReady b) q
  all-of-ready [] ready own = All-nil (IsOfReady b)
  all-of-ready (e ∷ es) ready own =
      let one : (if e.vcpu == e.vcpu then 1 else 0) ≡ one_if true = ap one_if (eq-eqb e.vcpu e.vcpu refl) in
      let here = own e.vcpu in
      All-cons (IsOfReady b) e es
      (record { ready = ready e.vcpu (omega arith); priority = own-entry e (omega arith) })
      (all-of-ready es (λ v stands. ready v (omega arith)) (λ v. let all = own v in omega arith))

pub entries-are-of-ready : EntriesAreOfReady
entries-are-of-ready count b positive is g =
    let o = ordered-reached count positive b is in
    let there : (g < count) ⊎ (count ≤ g) = cases_lt g count in
    elim there [
      | inl l ↦ all-of-ready b (b.queues g) (λ v stands. standing-is o v l stands) (λ v. none-foreign o v l)
      | inr out ↦ subst (λ q. All (IsOfReady b) q) (sym (o.empty g out)) (All-nil (IsOfReady b))
    ]
  where
    standing-is : Ordered count b → (v : ℕ) → g < count → 0 < count_in v (b.queues g) → (b.vcpus v).state ≡ Ready
    standing-is o v l stands =
        let part = sum-part count g (λ k. count_in v (b.queues k)) l in
        let total = o.counted v (λ p. 1) in
        ready-is (b.vcpus v).state (one-if-true (is_ready (b.vcpus v).state) (omega arith))

    none-foreign : Ordered count b → (v : ℕ) → g < count → weigh (foreign v (b.vcpus v).plan.priority) (b.queues g) ≡ 0
    none-foreign o v l =
        let part = sum-part count g (λ k. weigh (foreign v (b.vcpus v).plan.priority) (b.queues k)) l in
        let total = (ready-is-queued count b positive is v).own_priority in
        omega arith

-- numbers that are 1 together are 1 at one place and else 0
record OneAt (n : ℕ) (f : ℕ → ℕ) : Type 0 where
  at : ℕ
  less : at < n
  one : f at ≡ 1
  others : (k : ℕ) → k < n → (k == at) ≡ false → f k ≡ 0

one-at : (n : ℕ) (f : ℕ → ℕ) → sum_below n f ≡ 1 → OneAt n f
one-at zero f is = absurd (omega arith)
one-at (suc n) f is =
    let Goal : ℕ → Type 0 = λ m. f n ≡ m → OneAt (suc n) f in
    elim (f n) as Goal [
      | zero ↦ λ none. later none (one-at n f (omega arith))
      | suc m ↦ λ some. record {
        at = n;
        less = omega arith;
        one = omega arith;
        others = λ k l other. let part = sum-part n k f (below n k l other) in omega arith;
      }
    ] refl
  where
    below : (n k : ℕ) → k < suc n → (k == n) ≡ false → k < n
    below n k l other = grind arith

    later : f n ≡ 0 → OneAt n f → OneAt (suc n) f
    later none o = record {
      at = o.at;
      less = let l = o.less in omega arith;
      one = o.one;
      others = λ k l other.
          let Last : Bool → Type 0 = λ b. (k == n) ≡ b → f k ≡ 0 in
          elim (k == n) as Last [ true ↦ λ is. ap f (eqb-true k n is) ∙ none | false ↦ λ is. o.others k (below n k l is) other ] refl;
    }

pub ready-is-in-one-queue : ReadyIsInOneQueue
ready-is-in-one-queue count b positive is v ready =
    let o = ordered-reached count positive b is in
    let once = (ready-is-queued count b positive is v).once in
    let here = one-at count (λ g. count_in v (b.queues g)) (once ∙ ap (λ s. one_if (is_ready s)) ready) in
    record {
      hart = here.at;
      there = here.less;
      once = here.one;
      no_other = λ g other. elsewhere o g here.at here.others other;
    }
  where
    elsewhere : Ordered count b → (g h : ℕ) → ((k : ℕ) → k < count → (k == h) ≡ false → count_in v (b.queues k) ≡ 0) → (g == h) ≡ false → count_in v (b.queues g) ≡ 0
    elsewhere o g h others other =
        let there : (g < count) ⊎ (count ≤ g) = cases_lt g count in
        elim there [ inl l ↦ others g l other | inr out ↦ ap (count_in v) (o.empty g out) ]
