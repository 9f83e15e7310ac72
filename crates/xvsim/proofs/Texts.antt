-- The parts of a report, put together.
use Rattle.std.proofs.Common.{◌≡◌, ℕ, ◌<◌, List, [], ◌∷◌, ◌++◌, length, refl, arith, append_assoc}
use Rattle.std.specs.Prelude.{codes}
use Rattle.hv_model.specs.Report.{titled}
use Rattle.hv_model.specs.Transcript.{line}

-- a text that isn't empty has its title
pub titled_some : (title text : List ℕ) → 0 < length text → titled title text ≡ title ++ text
titled_some title [] some = absurd (omega arith)
titled_some title (b ∷ bs) some = refl

-- a report's parts, as they are appended one after the other
pub report_parts : (heading terminals events count : List ℕ)
    → (((((heading ++ terminals) ++ (codes "states" ++ 10 ∷ [] ++ codes "vcpu 0 Reset" ++ 10 ∷ [] ++ codes "history" ++ 10 ∷ [])) ++ events) ++ codes "end ") ++ count) ++ 10 ∷ []
    ≡ heading ++ terminals ++ (codes "states" ++ 10 ∷ codes "vcpu 0 Reset" ++ 10 ∷ []) ++ (line (codes "history") ++ events) ++ line (codes "end " ++ count)
report_parts heading terminals events count = simp append_assoc refl
