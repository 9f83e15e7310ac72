-- What the entries of a queue weigh once one comes or goes.
use Rattle.std.proofs.Common.{◌≡◌, ℕ, zero, suc, ◌+◌, ◌≤◌, Bool, true, false, ◌==◌, if◌then◌else◌, List, [], ◌∷◌, ◌++◌, take, not, refl, ap, sym, ◌∙◌, arith, eqb-true}
use Rattle.std.specs.List.{All, filter}
use Rattle.std.proofs.lemmas.List.Elements.{All-nil, All-cons, All-head, All-tail}
use Rattle.hv_queue.specs.Queue.{weigh, of_vcpu, count_in, without}
use Rattle.hv_queue.specs.declared.entry.QueueEntry.{QueueEntry}

-- an entry at the end adds its own weight
pub weigh-append : (w : QueueEntry → ℕ) (q : List QueueEntry) (e : QueueEntry) → weigh w (q ++ e ∷ []) ≡ weigh w q + w e
weigh-append w [] e = omega arith
weigh-append w (f ∷ es) e = let rest = weigh-append w es e in omega arith

-- some of the entries weigh no more than all
pub weigh-without : (w : QueueEntry → ℕ) (v : ℕ) (q : List QueueEntry) → weigh w (without v q) ≤ weigh w q
weigh-without w v [] = omega arith
weigh-without w v (e ∷ es) =
    let rest = weigh-without w v es in
    elim (v == e.vcpu) as (λ b. weigh w (if b then without v es else e ∷ without v es) ≤ w e + weigh w es) [ true ↦ omega arith | false ↦ omega arith ]

pub weigh-take : (w : QueueEntry → ℕ) (n : ℕ) (q : List QueueEntry) → weigh w (take n q) ≤ weigh w q
weigh-take w zero q = omega arith
weigh-take w (suc n) [] = omega arith
weigh-take w (suc n) (e ∷ es) = let rest = weigh-take w n es in omega arith

-- a VCPU that is taken out stands there no more
pub count-without : (v : ℕ) (q : List QueueEntry) → count_in v (without v q) ≡ 0
count-without v [] = refl
count-without v (e ∷ es) =
    let Goal : Bool → Type 0 = λ b. (v == e.vcpu) ≡ b → count_in v (if b then without v es else e ∷ without v es) ≡ 0 in
    elim (v == e.vcpu) as Goal [
      | true ↦ λ _. count-without v es
      | false ↦ λ is. rw is (let rest = count-without v es in omega arith)
    ] refl

-- another VCPU stands there as before
pub count-without-other : (v w : ℕ) (q : List QueueEntry) → (v == w) ≡ false → count_in v (without w q) ≡ count_in v q
count-without-other v w [] other = refl
count-without-other v w (e ∷ es) other =
    let rest = count-without-other v w es other in
    let Goal : Bool → Type 0 = λ b. (w == e.vcpu) ≡ b → count_in v (if b then without w es else e ∷ without w es) ≡ of_vcpu v e + count_in v es in
    elim (w == e.vcpu) as Goal [
      | true ↦ λ is. let none : of_vcpu v e ≡ 0 = ap (λ n. if v == n then 1 else 0) (sym (eqb-true w e.vcpu is)) ∙ ap (λ b. if b then 1 else 0) other in omega arith
      | false ↦ λ is. ap (λ n. of_vcpu v e + n) rest
    ] refl

-- what holds of all entries holds of those that stay
pub all-without : (P : QueueEntry → Type 0) (v : ℕ) (q : List QueueEntry) → All P q → All P (without v q)
all-without P v [] all = All-nil P
all-without P v (e ∷ es) all =
    let rest = all-without P v es (All-tail P e es all) in
    elim (v == e.vcpu) as (λ b. All P (if b then without v es else e ∷ without v es)) [
      | true ↦ rest
      | false ↦ All-cons P e (without v es) (All-head P e es all) rest
    ]

-- to keep the entries of all others is to take a VCPU out
pub filter-without : (v : ℕ) (q : List QueueEntry) → filter (λ e. not (v == e.vcpu)) q ≡ without v q
filter-without v [] = refl
filter-without v (e ∷ es) =
    let rest = filter-without v es in
    elim (v == e.vcpu) as (λ b. (if not b then e ∷ filter (λ f. not (v == f.vcpu)) es else filter (λ f. not (v == f.vcpu)) es) ≡ (if b then without v es else e ∷ without v es)) [
      | true ↦ rest
      | false ↦ ap (λ l. e ∷ l) rest
    ]
