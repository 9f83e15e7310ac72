use Rattle.std.proofs.Common.{◌≡◌, ◌<◌, length, get_or, true, nat_lt, ap, sym, ◌∙◌, arith}
use Rattle.std.proofs.lemmas.Bool.{lt-ltb}
use Rattle.hv_emu.specs.Plic.{candidates}
use Rattle.hv_plic.specs.Meaning.{meaning}
use Rattle.hv_plic.proofs.Claims.{any_above}
use Rattle.hv_plic.proofs.plic.Plic.external.Goals as goal

pub returns-then-context-len : goal.returns-then-context-len
returns-then-context-len c =
    let p = meaning c.args.self.now in
    let context = c.args.context in
    let within : context < length p.enable = let below = c.if-context-len.true in let len = c.len.ensures.value in omega arith in
    let there : nat_lt context (length p.enable) ≡ true = lt-ltb context (length p.enable) within in
    let threshold : c.word_at.result ≡ get_or p.threshold context 0 = c.word_at.ensures ∙ ap (λ words. get_or words context 0) c.as_slice.ensures.value in
    rw (there, threshold, c.best-greatest.ensures.priority) (sym (any_above p (candidates p context) (get_or p.threshold context 0)))
