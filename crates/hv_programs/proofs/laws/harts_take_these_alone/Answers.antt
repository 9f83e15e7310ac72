-- Of what is handed over, a hart takes the pending access, the clock and the parent alone.
use Rattle.std.proofs.Common.{◌≡◌, refl, None, Some, Ok, Err}
use Rattle.hv_answer.specs.declared.reply.Outcome.{Outcome}
use Rattle.hv_answer.specs.declared.reply.Outcome.TheVariants as outcome
use Rattle.hv_answer.specs.declared.reply.Reply.{Reply}
use Rattle.hv_answer.specs.declared.reply.Reply.TheVariants as reply
use Rattle.hv_kinds.specs.declared.generation.Generation.{Generation}
use Rattle.hv_step.specs.declared.step.Step.{Step}
use Rattle.hv_step.specs.declared.step.Step.TheVariants as step
use Rattle.hv_rules.specs.Carry.{Carry}
use Rattle.hv_rules.specs.Hart.{HartState, fetched, hart_after}
use Rattle.hv_programs.specs.Hart.{handed_alone}
use Rattle.hv_programs.proofs.laws.harts_take_these_alone.Goals as goal

fetched-alone : (hart : HartState) (generation : Generation) (came : Outcome) (c : Carry) → fetched hart generation came c ≡ fetched hart generation came (handed_alone c.pending c.clock c.parent)
fetched-alone hart generation outcome.Access c = refl
fetched-alone hart generation outcome.Wait c = refl
fetched-alone hart generation _ c = refl

alone : (hart : HartState) (s : Step) (r : Reply) (c : Carry) → hart_after hart s r c ≡ hart_after hart s r (handed_alone c.pending c.clock c.parent)
alone hart (step.Sample s) (reply.Sample None) c = refl
alone hart (step.Sample s) (reply.Sample (Some sampled)) c = refl
alone hart (step.Tick s) (reply.Tick None) c = refl
alone hart (step.Tick s) (reply.Tick (Some changes)) c = refl
alone hart (step.Dispatch s) (reply.Dispatch (Ok slice)) c = refl
alone hart (step.Dispatch s) (reply.Dispatch (Err why)) c = refl
alone hart (step.Fetch s) (reply.Fetch None) c = refl
alone hart (step.Fetch s) (reply.Fetch (Some done)) c = fetched-alone hart s.generation done.outcome c
alone hart (step.Access s) (reply.Access None) c = refl
alone hart (step.Access s) (reply.Access (Some accessed)) c = refl
alone hart s r c = refl

pub returns : goal.returns
returns c = alone
