-- What a run is answered.
use Rattle.std.specs.Prelude.{◌≡◌, ◌⊎◌, ℕ, Option, None, Some, Result, Ok, Err, List, length}
use Rattle.hv_text.specs.Lines.{script_lines}
use Rattle.hv_refusal.specs.declared.refusal.Refusal.{Refusal}
use Rattle.hv_refusal.specs.declared.refusal.Refusal.TheVariants as refusal

-- A run is answered by what was found, or refused.
abbrev pub AnswersRun : (found r : Result (List ℕ) Refusal) → Type 0
AnswersRun (Ok script) r = (r ≡ Ok script) ⊎ ((r ≡ Err refusal.TooDeep) ⊎ (r ≡ Err refusal.TooLong))
AnswersRun (Err why) r = (r ≡ Err why) ⊎ (r ≡ Err refusal.TooDeep)

-- How many lines a script has that was found.
abbrev pub lines_found : Result (List ℕ) Refusal → Option ℕ
lines_found (Ok script) = Some (length (script_lines script))
lines_found (Err why) = None
