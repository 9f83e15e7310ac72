-- What the entries of a VCPU weigh in a queue, each by its priority, once an entry comes or goes.
use Rattle.std.proofs.Common.{◌≡◌, ℕ, ◌+◌, ◌<◌, Bool, true, false, ◌==◌, if◌then◌else◌, List, [], ◌∷◌, refl, ap, sym, subst, ◌∙◌, arith, eqb-true, eq-eqb}
use Rattle.std.specs.Prelude.{nat_lt, Option, None, Some}
use Rattle.hv_queue.specs.Queue.{weigh, count_in, without, appended, better, best_of, vcpu_of, head_of, last_of, front_of}
use Rattle.hv_queue.specs.declared.entry.QueueEntry.{QueueEntry}
use Rattle.hv_queue.proofs.Weights.{weigh-append}
use Rattle.hv_rules.specs.Queue.{arrived}
use Rattle.hv_laws.specs.Laws.{one_if}

-- an entry of the VCPU weighs by its priority, and any other nothing
abbrev pub valued : ℕ → (ℕ → ℕ) → QueueEntry → ℕ
valued v f e = if v == e.vcpu then f e.priority else 0

module _ (v : ℕ) (f : ℕ → ℕ) where
  pub weigh-gone : (q : List QueueEntry) → weigh (valued v f) (without v q) ≡ 0
  weigh-gone [] = refl
  weigh-gone (e ∷ es) =
      let Goal : Bool → Type 0 = λ b. (v == e.vcpu) ≡ b → weigh (valued v f) (if b then without v es else e ∷ without v es) ≡ 0 in
      elim (v == e.vcpu) as Goal [
        | true ↦ λ _. weigh-gone es
        | false ↦ λ is. rw is (let rest = weigh-gone es in omega arith)
      ] refl

  none-here : (e : QueueEntry) → (v == e.vcpu) ≡ false → valued v f e ≡ 0
  none-here e is = ap (λ b. if b then f e.priority else 0) is

  pub weigh-other : (w : ℕ) (q : List QueueEntry) → (v == w) ≡ false → weigh (valued v f) (without w q) ≡ weigh (valued v f) q
  weigh-other w [] other = refl
  weigh-other w (e ∷ es) other =
      let rest = weigh-other w es other in
      let Goal : Bool → Type 0 = λ b. (w == e.vcpu) ≡ b → weigh (valued v f) (if b then without w es else e ∷ without w es) ≡ valued v f e + weigh (valued v f) es in
      elim (w == e.vcpu) as Goal [
        | true ↦ λ is. let none = none-here e (ap (λ n. v == n) (sym (eqb-true w e.vcpu is)) ∙ other) in omega arith
        | false ↦ λ is. ap (λ n. valued v f e + n) rest
      ] refl

  pub weigh-arrived : (p : ℕ) (q : List QueueEntry) → weigh (valued v f) (arrived v (Some p) q) ≡ f p
  weigh-arrived p q =
      let e : QueueEntry = record { vcpu = v; priority = p } in
      let more = weigh-append (valued v f) (without v q) e in
      let gone = weigh-gone q in
      let own : valued v f e ≡ f p = ap (λ b. if b then f p else 0) (eq-eqb v v refl) in
      omega arith

  pub weigh-arrived-other : (w : ℕ) (p : Option ℕ) (q : List QueueEntry) → (v == w) ≡ false → weigh (valued v f) (arrived w p q) ≡ weigh (valued v f) q
  weigh-arrived-other w None q other = refl
  weigh-arrived-other w (Some p) q other =
      let e : QueueEntry = record { vcpu = w; priority = p } in
      let more = weigh-append (valued v f) (without w q) e in
      let same = weigh-other w q other in
      let none = none-here e other in
      omega arith

  nothing : (b : Bool) (n : ℕ) → one_if b ≡ 0 → (if b then n else 0) ≡ 0
  nothing true n is = absurd (omega arith)
  nothing false n is = refl

  -- where the VCPU has no entry, its entries weigh nothing
  pub weigh-none : (q : List QueueEntry) → count_in v q ≡ 0 → weigh (valued v f) q ≡ 0
  weigh-none [] none = refl
  weigh-none (e ∷ es) none =
      let rest = weigh-none es (omega arith) in
      let here = nothing (v == e.vcpu) (f e.priority) (omega arith) in
      omega arith

  -- an entry at the end adds its own weight, where its VCPU has none
  pub weigh-appended : (e : QueueEntry) (q : List QueueEntry) → ((v == e.vcpu) ≡ true → count_in v q ≡ 0) → weigh (valued v f) (appended e q) ≡ weigh (valued v f) q + valued v f e
  weigh-appended e q none =
      let more = weigh-append (valued v f) (without e.vcpu q) e in
      let Goal : Bool → Type 0 = λ b. (v == e.vcpu) ≡ b → weigh (valued v f) (without e.vcpu q) ≡ weigh (valued v f) q in
      let same : weigh (valued v f) (without e.vcpu q) ≡ weigh (valued v f) q =
      elim (v == e.vcpu) as Goal [
        | true ↦ λ is. ap (λ n. weigh (valued v f) (without n q)) (sym (eqb-true v e.vcpu is)) ∙ (weigh-gone q ∙ sym (weigh-none q (none is)))
        | false ↦ λ is. weigh-other e.vcpu q is
      ] refl in
      omega arith

-- the best entry of a queue stands in it
Stands : Option QueueEntry → List QueueEntry → Type 0
Stands None q = Unit {0}
Stands (Some f) q = 0 < count_in f.vcpu q

stands-more : (o : Option QueueEntry) (e : QueueEntry) (q : List QueueEntry) → Stands o q → Stands o (e ∷ q)
unfolding Stands
stands-more None e q h = tt
stands-more (Some f) e q h = omega arith

stands-first : (e : QueueEntry) (q : List QueueEntry) → Stands (Some e) (e ∷ q)
unfolding Stands
stands-first e q = rw (eq-eqb e.vcpu e.vcpu refl) (omega arith)

stands-better : (e : QueueEntry) (o : Option QueueEntry) (q : List QueueEntry) → Stands o (e ∷ q) → Stands (Some e) (e ∷ q) → Stands (better e o) (e ∷ q)
stands-better e None q h k = k
stands-better e (Some f) q h k = elim (nat_lt e.priority f.priority) as (λ b. Stands (if b then Some f else Some e) (e ∷ q)) [ true ↦ h | false ↦ k ]

best-stands : (q : List QueueEntry) → Stands (best_of q) q
unfolding Stands
best-stands [] = tt
best-stands (e ∷ es) = stands-better e (best_of es) es (stands-more (best_of es) e es (best-stands es)) (stands-first e es)

stands-head : (o : Option QueueEntry) (q : List QueueEntry) (v : ℕ) → Stands o q → vcpu_of o ≡ Some v → 0 < count_in v q
unfolding Stands
stands-head None q v h is = absurd (cc)
stands-head (Some f) q v h is = let same : f.vcpu ≡ v = cc in subst (λ n. 0 < count_in n q) same h

pub head-stands : (q : List QueueEntry) (v : ℕ) → head_of q ≡ Some v → 0 < count_in v q
head-stands q v is = stands-head (best_of q) q v (best-stands q) is

-- a queue without its last entry, at any weight
pub weigh-front : (w : QueueEntry → ℕ) (q : List QueueEntry) (e : QueueEntry) → last_of q ≡ Some e → weigh w (front_of q) + w e ≡ weigh w q
weigh-front w [] e is = absurd (cc)
weigh-front w (f ∷ []) e is = let same : w f ≡ w e = ap w (some-only f e is) in omega arith
  where
    some-only : (f e : QueueEntry) → Some f ≡ Some e → f ≡ e
    some-only f e is = cc
weigh-front w (f ∷ g ∷ es) e is = let rest = weigh-front w (g ∷ es) e is in omega arith
