use Rattle.std.proofs.Common.{◌≡◌, ℕ, ◌+◌, ◌<◌, List, [], ◌∷◌, ◌++◌, sym, ap, subst, ◌∙◌, arith, Some, None, length, slice_get, take, vec_len}
use Rattle.hv_body.specs.Body.{seen, shown}
use Rattle.hv_rules.specs.Body.{output_of}
use Rattle.hv_device_steps.proofs.BodyLemmas.{all_sent, sent_more, sent_within, shown_output}
use Rattle.hv_device_steps.proofs.device.bytes_sent.Goals as goal

pub sent-smaller : goal.sent-smaller
sent-smaller g c =
    let all : List ℕ = shown output_of [] (seen g.E.Emulator.state c.args.body.now) in
    let there : slice_get all c.len.result ≡ Some c.in-Some.byte =
    sym (c.in-Some.ensures ∙ shown_output (seen g.E.Emulator.state c.args.body.now) c.len.result) in
    let within : c.len.result < length all = sent_within all c.len.result c.in-Some.byte there in
    omega (arith, within, c.len.ensures, c.in_ok-push.ensures.len)

pub sent-preserved : goal.sent-preserved
sent-preserved g c =
    let all : List ℕ = shown output_of [] (seen g.E.Emulator.state c.args.body.now) in
    let here : slice_get all c.len.result ≡ Some c.in-Some.byte =
    sym (c.in-Some.ensures ∙ shown_output (seen g.E.Emulator.state c.args.body.now) c.len.result) in
    let there : slice_get all (vec_len c.sent.bytes) ≡ Some c.in-Some.byte =
    subst (λ (n : ℕ). slice_get all n ≡ Some c.in-Some.byte) c.len.ensures here in
    let within : vec_len c.sent.bytes < length all = sent_within all (vec_len c.sent.bytes) c.in-Some.byte there in
    let next : vec_len c.sent.bytes + 1 ≡ vec_len c.push.new.self = omega (arith, c.in_ok-push.ensures.len) in (
      c.in_ok-push.ensures.items
          ∙ (ap (λ (bytes : List ℕ). bytes ++ c.in-Some.byte ∷ []) c.sent.invariant.0
          ∙ (sent_more all (vec_len c.sent.bytes) c.in-Some.byte there ∙ ap (λ (n : ℕ). take n all) next)),
      omega (arith, within, next),
    )

pub returns : goal.returns
returns g c =
    let all : List ℕ = shown output_of [] (seen g.E.Emulator.state c.args.body.now) in
    let here : slice_get all c.len.result ≡ None =
    sym (shown_output (seen g.E.Emulator.state c.args.body.now) c.len.result) ∙ (sym c.output_at.ensures ∙ c.in_default.is) in
    let there : slice_get all (vec_len c.sent.bytes) ≡ None = subst (λ (n : ℕ). slice_get all n ≡ None) c.len.ensures here in
    c.from_vec.ensures ∙ (c.sent.invariant.0 ∙ all_sent all (vec_len c.sent.bytes) there c.sent.invariant.1)
