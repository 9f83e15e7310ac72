-- Steps on regions of guests that the directory admits.
use Rattle.std.proofs.Common.{◌≡◌, ℕ, [], ◌∷◌, Option, Some, ap, sym, subst}
use Rattle.std.specs.Prelude.{IsSome, Result}
use Rattle.std.specs.Result.{result_ok}
use Rattle.hv_answer.specs.declared.reply.Reply.{Reply}
use Rattle.hv_event.specs.declared.event.CellId.TheVariants as component
use Rattle.hv_kinds.specs.declared.generation.Generation.{Generation}
use Rattle.hv_parts.proofs.Directories.{admits}
use Rattle.hv_refusal.specs.declared.refusal.Refusal.{Refusal}
use Rattle.hv_rules.specs.Carry.{Carry}
use Rattle.hv_rules.specs.Dir.{Admits, with_region}
use Rattle.hv_rules.specs.Footprint.{past_dir, row_body}

-- A guest whose generation is shown is admitted, and so is a region that its plan has.
pub region-admits :
    (guest : Result Generation Refusal) (row : Option ℕ) (k : ℕ) (shown : Option Generation) (refused : Refusal → Reply) (r : Reply) (c : Carry) → row ≡ Some k
    → IsSome shown → shown ≡ result_ok guest → Admits (with_region row guest) shown refused r c
region-admits guest row k shown refused r c has there is =
    subst (λ (o : Option ℕ). Admits (with_region o guest) shown refused r c) (sym has) (admits guest shown refused r c there is)

-- The body of the row that is handed over is touched.
pub row-touched :
    (shown : Option Generation) (row : Option ℕ) (k : ℕ) → row ≡ Some k
    → past_dir shown (λ guest. row_body guest row) ≡ past_dir shown (λ guest. component.Body guest.slot k ∷ [])
row-touched shown row k has = ap (λ (o : Option ℕ). past_dir shown (λ guest. row_body guest o)) has
