-- Where a text stops being a bundle.
use Rattle.std.proofs.Common.{◌≡◌, ℕ, List, ◌⊎◌, inl, inr, sym, ◌∙◌, arith}
use Rattle.hv_bundle.specs.Bundle.{LacksMagic, StopsAt, IsBadAt}

-- a text that is no bundle stops being one at one offset
pub one_offset : (text : List ℕ) (one other : ℕ) → IsBadAt text one → IsBadAt text other → one ≡ other
one_offset text one other h k = same h.stop k.stop
  where
    same : (LacksMagic text × (one ≡ 0)) ⊎ StopsAt text one → (LacksMagic text × (other ≡ 0)) ⊎ StopsAt text other → one ≡ other
    same (inl none) (inl lacks) = none.1 ∙ sym lacks.1
    same (inl none) (inr stop) = absurd (none.0 _ stop.begins.parts)
    same (inr stop) (inl none) = absurd (none.0 _ stop.begins.parts)
    same (inr here) (inr there) =
        let behind = here.longest there.files there.rest there.begins in
        let before = there.longest here.files here.rest here.begins in
        let ends = here.ends in
        let other_ends = there.ends in
        omega (arith, behind, before, ends, other_ends)
