use Rattle.std.proofs.Common.{◌≡◌, rules, tests}
use Rattle.std.specs.List.{list_any}
use Rattle.std.proofs.lemmas.Iterator.{YieldsList-from_slice}
use Rattle.std.proofs.lemmas.Iterator.Search.{any_from_yields_List}
use Rattle.hv_kinds.specs.declared.pins.Pins.{Pins}
use Rattle.hv_vcpu.proofs.vcpu.joined.Goals as goal

pub returns : goal.returns
returns c =
    let rows = c.args.rows.now in
    let ext : c.any.result ≡ list_any (λ (p : Pins). p.ext) rows = any_from_yields_List (λ (p : Pins). p.ext) _ _ c.any.result c.any.ensures.ran (YieldsList-from_slice rows (cc)) (λ x b q k. search (rules, tests)) in
    let soft : c.any-2.result ≡ list_any (λ (p : Pins). p.soft) rows = any_from_yields_List (λ (p : Pins). p.soft) _ _ c.any-2.result c.any-2.ensures.ran (YieldsList-from_slice rows (cc)) (λ x b q k. search (rules, tests)) in
    let timer : c.any-3.result ≡ list_any (λ (p : Pins). p.timer) rows = any_from_yields_List (λ (p : Pins). p.timer) _ _ c.any-3.result c.any-3.ensures.ran (YieldsList-from_slice rows (cc)) (λ x b q k. search (rules, tests)) in
    cc
