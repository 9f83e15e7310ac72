use Rattle.hv_transcript.proofs.Told.{begins-told, begins-up}
use Rattle.hv_transcript.proofs.laws.transcripts_begin_so.Goals as goal

pub returns-clause-shown : goal.returns-clause-shown
returns-clause-shown c = begins-told

pub returns-clause-keeps_up : goal.returns-clause-keeps_up
returns-clause-keeps_up c = begins-up
