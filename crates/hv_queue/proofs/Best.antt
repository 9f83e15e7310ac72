-- The best entry of a queue, entry by entry.
use Rattle.std.proofs.Common.{◌≡◌, ℕ, ◌+◌, ◌<◌, Bool, true, false, if◌then◌else◌, List, [], ◌∷◌, ◌++◌, length, get_or, take, refl, ap, sym, ◌∙◌, arith}
use Rattle.std.specs.Prelude.{nat_lt, Option, Some, None}
use Rattle.std.proofs.lemmas.List.{take_more}
use Rattle.hv_queue.specs.Queue.{better, best_of}
use Rattle.hv_queue.specs.Search.{later}
use Rattle.hv_queue.specs.declared.entry.QueueEntry.{QueueEntry}

-- of three priorities the first greatest is found from either end
in-either-order : (x f e : QueueEntry) → better x (later (Some f) e) ≡ later (better x (Some f)) e
in-either-order x f e =
    let Goal : Bool → Bool → Bool → Type 0 = λ fe xf xe. nat_lt f.priority e.priority ≡ fe → nat_lt x.priority f.priority ≡ xf → nat_lt x.priority e.priority ≡ xe
    → better x (if fe then Some e else Some f) ≡ later (if xf then Some f else Some x) e in
    let all : (fe xf xe : Bool) → Goal fe xf xe = λ fe xf xe.
    elim fe as (λ b. Goal b xf xe) [
      | true ↦ elim xf as (λ b. Goal true b xe) [
        | true ↦ elim xe as (λ b. Goal true true b) [ true ↦ λ p q r. rw (r, p) refl | false ↦ λ p q r. absurd (not-less f.priority e.priority x.priority p q r) ]
        | false ↦ elim xe as (λ b. Goal true false b) [ true ↦ λ p q r. rw r refl | false ↦ λ p q r. rw r refl ]
      ]
      | false ↦ elim xf as (λ b. Goal false b xe) [
        | true ↦ λ p q r. rw (q, p) refl
        | false ↦ elim xe as (λ b. Goal false false b) [ true ↦ λ p q r. absurd (not-more f.priority e.priority x.priority p q r) | false ↦ λ p q r. rw (q, r) refl ]
      ]
    ] in
    all (nat_lt f.priority e.priority) (nat_lt x.priority f.priority) (nat_lt x.priority e.priority) refl refl refl
  where
    not-less : (f e x : ℕ) → nat_lt f e ≡ true → nat_lt x f ≡ true → nat_lt x e ≡ false → ⊥
    not-less f e x p q r = grind arith

    not-more : (f e x : ℕ) → nat_lt f e ≡ false → nat_lt x f ≡ false → nat_lt x e ≡ true → ⊥
    not-more f e x p q r = grind arith

either-order : (x : QueueEntry) (o : Option QueueEntry) (e : QueueEntry) → better x (later o e) ≡ later (better x o) e
either-order x None e = refl
either-order x (Some f) e = in-either-order x f e

-- one more entry
best-push : (q : List QueueEntry) (e : QueueEntry) → best_of (q ++ e ∷ []) ≡ later (best_of q) e
best-push [] e = refl
best-push (x ∷ q) e = ap (better x) (best-push q e) ∙ either-order x (best_of q) e

pub best-more : (q : List QueueEntry) (at : ℕ) (d : QueueEntry) (best : Option QueueEntry) → at < length q → best ≡ best_of (take at q) → later best (get_or q at d) ≡ best_of (take (at + 1) q)
best-more q at d best lt so_far =
    ap (λ o. later o (get_or q at d)) so_far ∙ (sym (best-push (take at q) (get_or q at d)) ∙ ap best_of (sym (take_more q at d lt)))
