-- The last entry of a queue, and the queue without it.
use Rattle.std.proofs.Common.{◌≡◌, ℕ, zero, suc, ◌+◌, ◌-◌, List, [], ◌∷◌, ◌++◌, length, refl, ap, arith}
use Rattle.std.specs.Prelude.{Some}
use Rattle.std.specs.List.{slice_get}
use Rattle.hv_queue.specs.Queue.{last_of, front_of}
use Rattle.hv_queue.specs.declared.entry.QueueEntry.{QueueEntry}

pub last-push : (q : List QueueEntry) (e : QueueEntry) → last_of (q ++ e ∷ []) ≡ Some e
last-push [] e = refl
last-push (f ∷ []) e = refl
last-push (f ∷ g ∷ q) e = last-push (g ∷ q) e

pub front-push : (q : List QueueEntry) (e : QueueEntry) → front_of (q ++ e ∷ []) ≡ q
front-push [] e = refl
front-push (f ∷ []) e = refl
front-push (f ∷ g ∷ q) e = ap (λ rest. f ∷ rest) (front-push (g ∷ q) e)

-- it stands at the last place
last-at : (q : List QueueEntry) (k : ℕ) → length q ≡ k + 1 → slice_get q k ≡ last_of q
last-at [] k is = absurd (omega arith)
last-at (e ∷ []) zero is = refl
last-at (e ∷ []) (suc k) is = absurd (omega arith)
last-at (e ∷ f ∷ q) zero is = absurd (omega arith)
last-at (e ∷ f ∷ q) (suc k) is = last-at (f ∷ q) k (omega arith)

pub last-read : (q : List QueueEntry) → slice_get q (length q - 1) ≡ last_of q
last-read [] = refl
last-read (e ∷ q) = last-at (e ∷ q) (length (e ∷ q) - 1) (omega arith)
