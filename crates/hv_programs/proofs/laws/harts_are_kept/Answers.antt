use Rattle.hv_programs.proofs.HartLemmas.{hart-kept, hart-starts}
use Rattle.hv_programs.proofs.laws.harts_are_kept.Goals as goal

pub returns-clause-start : goal.returns-clause-start
returns-clause-start c = hart-starts

pub returns-clause-step : goal.returns-clause-step
returns-clause-step c = λ n hart s r carry agrees brings keeps. hart-kept n hart keeps s r carry agrees brings
