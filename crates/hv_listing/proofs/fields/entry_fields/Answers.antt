use Rattle.std.proofs.Common.{refl, arith, length-append, ◌∷◌, []}
use Rattle.hv_listing.proofs.FieldLemmas.{nothing_taken, more_taken, none_behind, all_taken}
use Rattle.hv_listing.proofs.fields.entry_fields.Goals as goal

pub loop-init : goal.loop-init
loop-init c = rw c.new-fields.ensures.items (nothing_taken c.args.text.now, refl)

pub returns-in_default : goal.returns-in_default
returns-in_default c =
    none_behind c.args.text.now c.args.count c.loop.fields.items c.loop.rest.now c.loop.invariant.0 (omega (arith, c.loop.invariant.1)) c.in_default.ensures

pub loop-preserved : goal.loop-preserved
loop-preserved c =
    rw (c.in_ok-push.ensures.items, c.from_vec.ensures, c.in_ok-from_slice.ensures.items)
    (more_taken c.args.text.now c.loop.fields.items c.loop.rest.now c.in-Some.field.now c.in-Some.behind.now c.loop.invariant.0 c.in-Some.ensures.0 c.in-Some.ensures.1, omega (arith, c.loop.invariant.1, length-append c.loop.fields.items (c.in-Some.field.now ∷ [])))

pub returns : goal.returns
returns c =
    rw (c.in_ok-push-2.ensures.items, c.from_vec-2.ensures, c.in_ok-from_slice-2.ensures.items)
    (all_taken c.args.text.now c.args.count c.loop.fields.items c.loop.rest.now c.before_comma.result.0.now c.before_comma.result.1.now c.loop.invariant.0 (omega (arith, c.loop.invariant.1)) c.before_comma.ensures.free c.before_comma.ensures.stops c.before_comma.ensures.text)
