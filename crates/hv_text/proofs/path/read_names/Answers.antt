use Rattle.std.proofs.Common.{◌≡◌, false, eqb, List, ℕ, [], ◌∷◌, ◌++◌, length, drop, take, refl, sym, ap, ◌∙◌, subst, take-append-drop}
use Rattle.std.proofs.lemmas.Bool.{false≢true}
use Rattle.hv_text.specs.Path.{IsName}
use Rattle.hv_text.proofs.Exits.{on_ok}
use Rattle.hv_text.proofs.Names.{none_refused, reads_more, all_read}
use Rattle.hv_text.proofs.path.read_names.Goals as goal

pub loop-after-init : goal.loop-after-init
loop-after-init c = rw c.new-names.ensures.items (record { each = tt; parts = refl; only = λ all h is. (all, refl, h, is) })

pub returns-then-not-is_name-clause-only : goal.returns-then-not-is_name-clause-only
returns-then-not-is_name-clause-only c =
    let len = c.front_len.result in
    let after = c.in-Some.after.now in
    none_refused c.args.text.now c.loop-after.names.items c.loop-after.rest.now after (take len after) (drop len after) c.loop-after.invariant c.in-Some.ensures (sym (take-append-drop len after)) c.front_len.ensures.free c.front_len.ensures.stops
    (λ is. false≢true (c.if-not-is_name.ensures.1 (subst IsName (sym c.split_at.ensures.front) is)))

pub loop-after-preserved : goal.loop-after-preserved
loop-after-preserved c =
    let len = c.front_len.result in
    let after = c.in-Some.after.now in
    let is : IsName (take len after) = subst IsName c.split_at.ensures.front (c.if-not-is_name.ensures.0 refl) in
    let more = reads_more c.args.text.now c.loop-after.names.items c.loop-after.rest.now after (take len after) (drop len after) c.loop-after.invariant c.in-Some.ensures (sym (take-append-drop len after)) c.front_len.ensures.free c.front_len.ensures.stops is in
    let names_are : c.push_name.new.names.items ≡ c.loop-after.names.items ++ take len after ∷ [] =
    on_ok c.push_name.result c.in_ok-map_err.ensures.variant c.push_name.ensures ∙ ap (λ (t : List ℕ). c.loop-after.names.items ++ t ∷ []) c.split_at.ensures.front in
    rw (names_are, c.split_at.ensures.back) more

pub returns-then-not-is_empty-clause-only : goal.returns-then-not-is_empty-clause-only
returns-then-not-is_empty-clause-only c = λ all h is.
    let both = all_read c.args.text.now c.loop-after.names.items c.loop-after.rest.now c.loop-after.invariant c.in_default.ensures all h is in
    let some : false ≡ eqb (length c.loop-after.rest.now) 0 = c.if-not-is_empty.ensures in
    false≢true (some ∙ ap (λ (t : List ℕ). eqb (length t) 0) both.0)

pub returns-clause-only : goal.returns-clause-only
returns-clause-only c = λ all h is.
    (all_read c.args.text.now c.loop-after.names.items c.loop-after.rest.now c.loop-after.invariant c.in_default.ensures all h is).1
