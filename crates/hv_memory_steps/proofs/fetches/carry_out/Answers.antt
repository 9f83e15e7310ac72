use Rattle.std.proofs.Common.{◌≡◌, ℕ, Option, Some, sym, ap, ◌∙◌}
use Rattle.std.specs.Option.{option_map}
use Rattle.hv_event.specs.declared.event.ActorId.TheVariants.{Hart}
use Rattle.hv_handed.specs.Given.{pended}
use Rattle.hv_handed.specs.declared.pending.Pending as code
use Rattle.hv_vcpu_steps.specs.Instructions.{fetches_at}
use Rattle.hv_memory_steps.specs.Hands.{fetch_carry}
use Rattle.hv_memory_steps.proofs.FetchLemmas.{fetch_carried, fetched_pc, if_some}
use Rattle.hv_memory_steps.proofs.fetches.carry_out.Goals as goal

pub returns-clause-vcpu : goal.returns-clause-vcpu
returns-clause-vcpu g c =
    fetch_carried (Hart c.args.hart) c.args.step _ _ c.fetch-executed.result.shown c.fetch-executed.result.pc
    (option_map pended c.fetch-executed.result.pending) c.args.area _ _ c.made_fetch.ensures.reply c.made_fetch.ensures.handed c.fetch-executed.ensures.vcpu

pub returns-clause-handed : goal.returns-clause-handed
returns-clause-handed g c =
    let pc : Some c.fetch-executed.result.pc ≡ Some c.args.vcpu.now.context.pc =
    fetched_pc (Hart c.args.hart) c.args.step c.fetch-executed.result.shown c.fetch-executed.result.pc
    (option_map pended c.fetch-executed.result.pending) c.args.vcpu.now c.fetch-executed.new.vcpu c.fetch-executed.ensures.vcpu in
    let at : fetches_at c.args.hart c.args.step.generation.birth c.args.vcpu.now ≡ Some c.args.vcpu.now.context.pc =
    if_some _ _ c.requires in
    c.made_fetch.ensures.handed
    ∙ (ap (λ (o : Option ℕ). fetch_carry o (option_map pended c.fetch-executed.result.pending) c.args.area) (pc ∙ sym at)
    ∙ ap (λ (p : Option code.Pending). fetch_carry (fetches_at c.args.hart c.args.step.generation.birth c.args.vcpu.now) (option_map pended p) c.args.area)
    (sym c.made_fetch.ensures.pending))
