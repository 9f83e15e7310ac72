use Rattle.hv_dtgram.proofs.Lexing.{reads_only}
use Rattle.hv_dtgram.proofs.syntax.source_tokens.Goals as goal

pub returns-clause-only : goal.returns-clause-only
returns-clause-only c = λ tokens is. reads_only c.args.text.now c.judged.result c.judged.ensures.found c.judged.ensures.refused tokens is
