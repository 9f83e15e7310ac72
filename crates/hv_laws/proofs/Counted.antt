-- A VCPU is counted in the queues by what it is worth: how the changes of queues and VCPUs keep it.
use Rattle.std.proofs.Common.{◌≡◌, ℕ, ◌<◌, ◌≤◌, Bool, true, false, ◌==◌, if◌then◌else◌, refl, ap, sym, ◌∙◌, arith}
use Rattle.std.specs.Prelude.{Some}
use Rattle.hv_queue.specs.Queue.{weigh, count_in, without}
use Rattle.hv_rules.specs.Queue.{arrived}
use Rattle.hv_laws.specs.Board.{Board}
use Rattle.hv_laws.specs.Laws.{sum_below, standing_of, is_ready, one_if}
use Rattle.hv_laws.proofs.Frame.{at-same}
use Rattle.hv_laws.proofs.Sums.{sum-same, sum-none, sum-part, sum-one}
use Rattle.hv_laws.proofs.Weights.{valued, weigh-gone, weigh-arrived, weigh-none}
use Rattle.hv_laws.proofs.Worths.{worth, worth-none}

-- whatever an entry is worth by its priority, those of a VCPU are worth together what the VCPU is
abbrev pub Counted : ℕ → Board → ℕ → Type 0
Counted count b v = (f : ℕ → ℕ) → standing_of count b (valued v f) ≡ worth f (b.vcpus v)

pub one-small : (b : Bool) → one_if b ≤ 1
one-small true = omega arith
one-small false = omega arith

module _ (count : ℕ) (before after : Board) (v : ℕ) where
  abbrev old : (ℕ → ℕ) → ℕ → ℕ
  old f g = weigh (valued v f) (before.queues g)

  abbrev new : (ℕ → ℕ) → ℕ → ℕ
  new f g = weigh (valued v f) (after.queues g)

  pub quiet : ((f : ℕ → ℕ) (g : ℕ) → g < count → new f g ≡ old f g) → ((f : ℕ → ℕ) → worth f (after.vcpus v) ≡ worth f (before.vcpus v)) → Counted count before v → Counted count after v
  quiet queues vcpu was f = sum-same count (new f) (old f) (queues f) ∙ was f ∙ sym (vcpu f)

  -- one that becomes ready comes into one queue
  pub arrives : (k p : ℕ) → k < count → ((g : ℕ) → (g == k) ≡ false → after.queues g ≡ before.queues g) → after.queues k ≡ arrived v (Some p) (before.queues k)
      → is_ready (before.vcpus v).state ≡ false → ((f : ℕ → ℕ) → worth f (after.vcpus v) ≡ f p) → Counted count before v → Counted count after v
  arrives k p l others here not_ready vcpu was f =
      let sums = sum-one count k (old f) (new f) l (λ g other. ap (weigh (valued v f)) (others g other)) in
      let part = sum-part count k (old f) l in
      let none = worth-none f (before.vcpus v) not_ready in
      let total = was f in
      let comes : new f k ≡ f p = ap (weigh (valued v f)) here ∙ weigh-arrived v f p (before.queues k) in
      let now = vcpu f in
      omega arith

  -- one that is ready no more leaves all queues
  pub leaves : ((f : ℕ → ℕ) (g : ℕ) → g < count → new f g ≡ 0) → ((f : ℕ → ℕ) → worth f (after.vcpus v) ≡ 0) → Counted count after v
  leaves queues vcpu f = sum-none count (new f) (queues f) ∙ sym (vcpu f)

  -- or the one queue in which it stands
  pub departs : (k : ℕ) → k < count → ((g : ℕ) → (g == k) ≡ false → after.queues g ≡ before.queues g) → after.queues k ≡ without v (before.queues k)
      → 0 < count_in v (before.queues k) → ((f : ℕ → ℕ) → worth f (after.vcpus v) ≡ 0) → Counted count before v → Counted count after v
  departs k l others here stood vcpu was =
      let one : ℕ → ℕ = λ p. 1 in
      let sums = sum-one count k (old one) (new one) l (λ g other. ap (weigh (valued v one)) (others g other)) in
      let total = was one in
      let small = one-small (is_ready (before.vcpus v).state) in
      let gone : new one k ≡ 0 = ap (weigh (valued v one)) here ∙ weigh-gone v one (before.queues k) in
      let none : sum_below count (new one) ≡ 0 = omega arith in
      leaves (λ f g m. let part = sum-part count g (new one) m in weigh-none v f (after.queues g) (omega arith)) vcpu

  all-same : (k : ℕ) → ((g : ℕ) → (g == k) ≡ false → after.queues g ≡ before.queues g) → after.queues k ≡ before.queues k → (g : ℕ) → after.queues g ≡ before.queues g
  all-same k others here g =
      let Goal : Bool → Type 0 = λ b. (g == k) ≡ b → after.queues g ≡ before.queues g in
      elim (g == k) as Goal [ true ↦ λ is. at-same (λ n. after.queues n ≡ before.queues n) g k is here | false ↦ λ is. others g is ] refl

  -- the same, where a test says whether the step goes through
  pub arrives-if : (goes : Bool) (k p : ℕ) → k < count → ((g : ℕ) → (g == k) ≡ false → after.queues g ≡ before.queues g)
      → after.queues k ≡ (if goes then arrived v (Some p) (before.queues k) else before.queues k)
      → (goes ≡ true → is_ready (before.vcpus v).state ≡ false)
      → ((f : ℕ → ℕ) → worth f (after.vcpus v) ≡ (if goes then f p else worth f (before.vcpus v))) → Counted count before v → Counted count after v
  arrives-if true k p l others here not_ready vcpu was = arrives k p l others here (not_ready refl) vcpu was
  arrives-if false k p l others here not_ready vcpu was = quiet (λ f g m. ap (weigh (valued v f)) (all-same k others here g)) vcpu was

  pub leaves-if : (goes : Bool) → ((g : ℕ) → g < count → after.queues g ≡ (if goes then without v (before.queues g) else before.queues g))
      → ((f : ℕ → ℕ) → worth f (after.vcpus v) ≡ (if goes then 0 else worth f (before.vcpus v))) → Counted count before v → Counted count after v
  leaves-if true queues vcpu was = leaves (λ f g m. ap (weigh (valued v f)) (queues g m) ∙ weigh-gone v f (before.queues g)) vcpu
  leaves-if false queues vcpu was = quiet (λ f g m. ap (weigh (valued v f)) (queues g m)) vcpu was

  pub departs-if : (goes : Bool) (k : ℕ) → k < count → ((g : ℕ) → (g == k) ≡ false → after.queues g ≡ before.queues g)
      → after.queues k ≡ (if goes then without v (before.queues k) else before.queues k)
      → 0 < count_in v (before.queues k)
      → ((f : ℕ → ℕ) → worth f (after.vcpus v) ≡ (if goes then 0 else worth f (before.vcpus v))) → Counted count before v → Counted count after v
  departs-if true k l others here stood vcpu was = departs k l others here stood vcpu was
  departs-if false k l others here stood vcpu was = quiet (λ f g m. ap (weigh (valued v f)) (all-same k others here g)) vcpu was
