-- The words for the causes of faults in a guest's plan.
use Rattle.std.specs.Prelude.{ℕ, List, codes}
use Rattle.hv_kinds.specs.declared.cause.Cause.{Cause}
use Rattle.hv_kinds.specs.declared.cause.Cause.TheVariants as cause

-- The word for a cause is its name.
abbrev pub cause_word : Cause → List ℕ
cause_word cause.Missing = codes "Missing"
cause_word cause.TooMany = codes "TooMany"
cause_word cause.Kind = codes "Kind"
cause_word cause.Form = codes "Form"
cause_word cause.NoArea = codes "NoArea"
cause_word cause.Parent = codes "Parent"
cause_word cause.SourceUsed = codes "SourceUsed"
cause_word cause.Overlap = codes "Overlap"
cause_word cause.AliasTarget = codes "AliasTarget"
