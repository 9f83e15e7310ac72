-- Each VCPU stands in a queue at most once after each change, so that there is room for all.
use Rattle.std.proofs.Common.{◌≡◌, ℕ, zero, suc, ◌+◌, ◌<◌, ◌≤◌, Bool, true, false, ◌==◌, if◌then◌else◌, List, [], ◌∷◌, ◌++◌, length, take, refl, ap, ◌∙◌, arith, eqb-true, eq-eqb, length-append}
use Rattle.std.specs.List.{All}
use Rattle.std.specs.Prelude.{IsTrue}
use Rattle.std.proofs.lemmas.Bool.{false≢true}
use Rattle.std.proofs.lemmas.List.Elements.{All-head, All-tail, All-take, All-push, All-weaker}
use Rattle.hv_text.specs.declared.limits.TheConstants.{VCPUS}
use Rattle.hv_queue.specs.Queue.{IsEntry, IsQueue, of_vcpu, count_in, without}
use Rattle.hv_queue.specs.declared.entry.QueueEntry.{QueueEntry}
use Rattle.hv_queue.proofs.Weights.{weigh-append, weigh-without, weigh-take, all-without}

-- the first numbers added up
unfoldable sum_below : ℕ → (ℕ → ℕ) → ℕ
sum_below zero f = 0
sum_below (suc n) f = f n + sum_below n f

sum-zero : (n : ℕ) → sum_below n (λ _. 0) ≡ 0
unfolding sum_below
sum-zero zero = refl
sum-zero (suc n) = let rest = sum-zero n in omega arith

sum-both : (n : ℕ) (f g : ℕ → ℕ) → sum_below n (λ v. f v + g v) ≡ sum_below n f + sum_below n g
unfolding sum_below
sum-both zero f g = refl
sum-both (suc n) f g = let rest = sum-both n f g in omega arith

sum-part : (n g : ℕ) (f : ℕ → ℕ) → g < n → f g ≤ sum_below n f
unfolding sum_below
sum-part zero g f l = absurd (omega arith)
sum-part (suc n) g f l =
    let Goal : Bool → Type 0 = λ b. (n == g) ≡ b → f g ≤ f n + sum_below n f in
    elim (n == g) as Goal [
      | true ↦ λ is. let here : f n ≡ f g = ap f (eqb-true n g is) in omega arith
      | false ↦ λ is. let less : g < n = below n g l is in let rest = sum-part n g f less in omega arith
    ] refl
  where
    below : (n g : ℕ) → g < suc n → (n == g) ≡ false → g < n
    below n g l is = grind arith

sum-most : (n : ℕ) (f : ℕ → ℕ) → ((v : ℕ) → f v ≤ 1) → sum_below n f ≤ n
unfolding sum_below
sum-most zero f once = omega arith
sum-most (suc n) f once = let rest = sum-most n f once in let here = once n in omega arith

-- each entry is counted at its VCPU
counted : (n : ℕ) (q : List QueueEntry) → All (λ e. e.vcpu < n) q → length q ≤ sum_below n (λ v. count_in v q)
counted n [] all = omega arith
counted n (e ∷ es) all =
    let rest = counted n es (All-tail (λ (x : QueueEntry). x.vcpu < n) e es all) in
    let both = sum-both n (λ v. of_vcpu v e) (λ v. count_in v es) in
    let part = sum-part n e.vcpu (λ v. of_vcpu v e) (All-head (λ (x : QueueEntry). x.vcpu < n) e es all) in
    let one : of_vcpu e.vcpu e ≡ 1 = ap (λ b. if b then 1 else 0) (eq-eqb e.vcpu e.vcpu refl) in
    omega arith

-- there are no more entries than VCPUs
few : (n : ℕ) (q : List QueueEntry) → All (λ e. e.vcpu < n) q → ((v : ℕ) → count_in v q ≤ 1) → length q ≤ n
few n q all once = let counts = counted n q all in let most = sum-most n (λ v. count_in v q) once in omega arith

pub at-most-all : (q : List QueueEntry) → IsQueue q → length q ≤ VCPUS
at-most-all q is = few VCPUS q (All-weaker IsEntry (λ (e : QueueEntry). e.vcpu < VCPUS) (λ e entry. entry.vcpu) q is.each) is.once

-- a queue stays one without a VCPU, without its last entries, and with an entry more of a VCPU that has none
pub kept-without : (v : ℕ) (q : List QueueEntry) → IsQueue q → IsQueue (without v q)
kept-without v q is = record {
  each = all-without IsEntry v q is.each;
  once = λ w. let less = weigh-without (of_vcpu w) v q in let most = is.once w in omega arith;
}

pub kept-take : (n : ℕ) (q : List QueueEntry) → IsQueue q → IsQueue (take n q)
kept-take n q is = record {
  each = All-take IsEntry n q is.each;
  once = λ w. let less = weigh-take (of_vcpu w) n q in let most = is.once w in omega arith;
}

once-more : (v : ℕ) (q : List QueueEntry) (e : QueueEntry) → count_in v q ≤ 1 → count_in e.vcpu q ≡ 0 → count_in v (q ++ e ∷ []) ≤ 1
once-more v q e most none =
    let more = weigh-append (of_vcpu v) q e in
    let Goal : Bool → Type 0 = λ b. (v == e.vcpu) ≡ b → count_in v (q ++ e ∷ []) ≤ 1 in
    elim (v == e.vcpu) as Goal [
      | true ↦ λ is.
          let here : count_in v q ≡ 0 = ap (λ w. count_in w q) (eqb-true v e.vcpu is) ∙ none in
          let one : of_vcpu v e ≡ 1 = ap (λ b. if b then 1 else 0) is in
          omega arith
      | false ↦ λ is. let zero' : of_vcpu v e ≡ 0 = ap (λ b. if b then 1 else 0) is in omega arith
    ] refl

pub kept-append : (q : List QueueEntry) (e : QueueEntry) → IsQueue q → IsEntry e → count_in e.vcpu q ≡ 0 → IsQueue (q ++ e ∷ [])
kept-append q e is entry none = record {
  each = All-push IsEntry q e is.each entry;
  once = λ v. once-more v q e (is.once v) none;
}

-- a VCPU that has no entry finds room
pub room : (q : List QueueEntry) (e : QueueEntry) → IsQueue q → IsEntry e → count_in e.vcpu q ≡ 0 → length q < VCPUS
room q e is entry none = let all = at-most-all (q ++ e ∷ []) (kept-append q e is entry none) in omega (arith, length-append q (e ∷ []))

-- what a test that passes chooses
pub taken_if : (b : Bool) (xs ys zs : List QueueEntry) → IsTrue b → xs ≡ (if b then ys else zs) → xs ≡ ys
taken_if true xs ys zs passes is = is
taken_if false xs ys zs passes is = absurd (false≢true passes)
