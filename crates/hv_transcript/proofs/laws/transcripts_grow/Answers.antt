use Rattle.hv_transcript.proofs.Told.{grows}
use Rattle.hv_transcript.proofs.laws.transcripts_grow.Goals as goal

pub returns : goal.returns
returns c = grows
