-- The steps of pins, a VCPU at a time.
use Rattle.std.proofs.Common.{◌≡◌, ℕ, zero, suc, ◌+◌, List, [], ◌∷◌, ◌++◌, map, filter, ap, ◌∙◌, arith, add-one}
use Rattle.std.specs.List.{range_with_len}
use Rattle.std.proofs.lemmas.List.{map-append}
use Rattle.std.proofs.lemmas.List.Elements.{filter-append}
use Rattle.hv_kinds.specs.declared.generation.Generation.{Generation}
use Rattle.hv_step.specs.declared.step.Step.{Step}
use Rattle.hv_rules.specs.Owed.{has_changed, pin_step}
use Rattle.hv_programs.specs.Owed.{pin_at}

-- the numbers from one on, with the last one by itself
pub range-more : (a n : ℕ) → range_with_len a (suc n) ≡ range_with_len a n ++ (a + n) ∷ []
range-more a zero = ap (λ k. k ∷ []) (omega arith)
range-more a (suc n) =
    ap (λ rest. a ∷ rest) (range-more (a + 1) n ∙ ap (λ k. range_with_len (a + 1) n ++ k ∷ []) (omega arith))

-- the steps of the pins of a guest's first VCPUs
abbrev pub pins_below : Generation → (row pins count : ℕ) → List Step
pins_below generation row pins count =
    map (pin_step generation row) (filter (has_changed pins) (range_with_len 0 count))

-- one VCPU more has one step more, if its pins changed
pub pins_more : (generation : Generation) (row pins n : ℕ) → pins_below generation row pins (n + 1) ≡ pins_below generation row pins n ++ pin_at generation row pins n
pins_more generation row pins n =
    ap (λ k. pins_below generation row pins k) (add-one n)
    ∙ ap (λ numbers. map (pin_step generation row) (filter (has_changed pins) numbers)) (range-more 0 n ∙ ap (λ k. range_with_len 0 n ++ k ∷ []) (omega arith))
    ∙ ap (map (pin_step generation row)) (filter-append (has_changed pins) (range_with_len 0 n) (n ∷ []))
    ∙ map-append (pin_step generation row) _ _
