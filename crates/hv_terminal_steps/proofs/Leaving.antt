-- Queues that a VCPU leaves, one after the other.
use Rattle.std.proofs.Common.{◌≡◌, ◌≢◌, ℕ, ◌+◌, ◌<◌, ◌≤◌, inl, inr, List, length, slice_index_or, slice_set, sym, subst, ◌∙◌, arith}
use Rattle.std.proofs.lemmas.Bool.{cases_lt}
use Rattle.std.proofs.lemmas.List.{get_or-set_same, get_or-set_other, get_or_default}
use Rattle.hv_answer.specs.declared.reply.Reply.{Reply}
use Rattle.hv_parts.specs.Value.{PartValue}
use Rattle.hv_terminal_steps.specs.Taken.{Departs}

module _ {P : Type 0} (f : P → PartValue) (vcpu : ℕ) (r : Reply) (old now : List P) (n : ℕ) (b a : P) (low : n < length now) (rest : (k : ℕ) (d : P) → n ≤ k → slice_index_or now k d ≡ slice_index_or old k d) where
  apart : (k : ℕ) → k < n → k ≢ n
  apart k less is = omega (arith, less, is)

  beyond : (k : ℕ) → n + 1 ≤ k → k ≢ n
  beyond k more is = omega (arith, more, is)

  here : (d : P) → Departs vcpu r (f (slice_index_or now n b)) (f a) → Departs vcpu r (f (slice_index_or old n d)) (f (slice_index_or (slice_set now n a) n d))
  here d took =
      let set : slice_index_or (slice_set now n a) n d ≡ a = get_or-set_same now n a d low in
      let was : slice_index_or now n b ≡ slice_index_or old n d = get_or_default now n b d low ∙ rest n d (omega arith) in
      subst (λ t. Departs vcpu r (f t) (f (slice_index_or (slice_set now n a) n d))) was
      (subst (λ t. Departs vcpu r (f (slice_index_or now n b)) (f t)) (sym set) took)

  -- One queue more is left.
  pub each-more :
      ((k : ℕ) (d : P) → k < n → Departs vcpu r (f (slice_index_or old k d)) (f (slice_index_or now k d)))
      → Departs vcpu r (f (slice_index_or now n b)) (f a)
      → (k : ℕ) (d : P) → k < n + 1 → Departs vcpu r (f (slice_index_or old k d)) (f (slice_index_or (slice_set now n a) k d))
  each-more each took k d less =
      elim (cases_lt k n) [
        | inl below ↦ subst (λ t. Departs vcpu r (f (slice_index_or old k d)) (f t)) (sym (get_or-set_other now n k a d (apart k below))) (each k d below)
        | inr above ↦
            let is : n ≡ k = omega (arith, less, above) in
            subst (λ j. Departs vcpu r (f (slice_index_or old j d)) (f (slice_index_or (slice_set now n a) j d))) is (here d took)
      ]

  -- The others stay as they were.
  pub rest-more : (k : ℕ) (d : P) → n + 1 ≤ k → slice_index_or (slice_set now n a) k d ≡ slice_index_or old k d
  rest-more k d more = get_or-set_other now n k a d (beyond k more) ∙ rest k d (omega (arith, more))
