use Rattle.std.proofs.Common.{◌≡◌, ◌∙◌, ℕ, ◌<◌, get_or, length, subst, sym, set, arith}
use Rattle.std.proofs.lemmas.List.{length-set}
use Rattle.std.proofs.lemmas.List.Edits.{fill_by_more}
use Rattle.std.proofs.lemmas.List.FromFn.{fill_by_all}
use Rattle.hv_body.specs.Body.{no_pins, seen}
use Rattle.hv_kinds.specs.declared.pins.Pins.{Pins}
use Rattle.hv_rules.specs.Body.{pins_in}
use Rattle.hv_text.specs.declared.limits.TheConstants.{GUEST_VCPUS}
use Rattle.hv_signals.proofs.signals.Signals.of.Goals as goal

pub loop-vcpu-preserved : goal.loop-vcpu-preserved
loop-vcpu-preserved g c =
    let f : ℕ → Pins = pins_in (seen g.E.Emulator.state c.args.body.now) in
    let pins = c.loop-vcpu.pins in
    let long = c.loop-vcpu.invariant.long in
    let within : c.loop-vcpu.vcpu < length pins = omega arith in
    record {
      long = length-set pins c.loop-vcpu.vcpu c.pins.result ∙ long;
      each =
          λ k d lt.
          subst (λ (x : Pins). get_or (set pins c.loop-vcpu.vcpu x) k d ≡ f k) (sym c.pins.ensures)
          (fill_by_more f pins c.loop-vcpu.vcpu d within (λ j lj. c.loop-vcpu.invariant.each j d lj) k lt);
    }

pub returns : goal.returns
returns g c =
    let f : ℕ → Pins = pins_in (seen g.E.Emulator.state c.args.body.now) in
    let each : (k : ℕ) → k < GUEST_VCPUS → get_or c.loop-vcpu.pins k no_pins ≡ f k =
    λ k lt. let all : k < c.loop-vcpu.vcpu = omega arith in c.loop-vcpu.invariant.each k no_pins all in
    λ i. record {
      line = c.line.ensures i;
      pins = fill_by_all f c.loop-vcpu.pins GUEST_VCPUS no_pins c.loop-vcpu.invariant.long each i;
    }
