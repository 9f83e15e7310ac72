use Rattle.hv_programs.proofs.HartLemmas.{may-make}
use Rattle.hv_programs.proofs.laws.harts_may_make_their_steps.Goals as goal

pub returns : goal.returns
returns c = λ n hart s carry agrees keeps. may-make n hart keeps s carry agrees
