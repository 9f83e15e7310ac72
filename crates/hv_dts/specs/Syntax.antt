-- A refusal by the grammar as one of the reader.
use Rattle.hv_dtgram.specs.declared.syntax.SyntaxRefusal.{SyntaxRefusal}
use Rattle.hv_dtgram.specs.declared.syntax.SyntaxRefusal.TheVariants as syntax
use Rattle.hv_dts.specs.declared.refusal.DtsRefusal.{DtsRefusal}
use Rattle.hv_dts.specs.declared.refusal.DtsRefusal.TheVariants as refusal

-- the same refusal
abbrev pub refused_by : SyntaxRefusal → DtsRefusal
refused_by (syntax.BadToken offset) = refusal.BadToken offset
refused_by (syntax.Unexpected offset) = refusal.Unexpected offset
refused_by (syntax.Memory e) = refusal.Memory e
