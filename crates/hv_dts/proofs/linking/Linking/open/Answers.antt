use Rattle.std.proofs.Common.{◌≡◌, ℕ, List, [], ◌∷◌, ◌++◌, refl, sym, ap, ◌∙◌}
use Rattle.std.specs.Prelude.{Option}
use Rattle.std.specs.Ordering.{nat_cmp}
use Rattle.std.specs.Option.{option_or, unwrap_or}
use Rattle.std.specs.Cmp.Lexicographic.{slice_cmp}
use Rattle.std.specs.BTreeMap.{get}
use Rattle.hv_dts.specs.Resolved.{number_then}
use Rattle.hv_dts.specs.Linking.{some_if, names_path, site_here}
use Rattle.hv_dts.specs.declared.linking.Linking.{Linking}
use Rattle.hv_dts.proofs.Links.{any_label, leads_more}
use Rattle.hv_dts.proofs.linking.Linking.open.Goals as goal

pub returns : goal.returns
returns c = λ cells paths used nodes asked leads.
    let old = c.args.self.now in
    let name = c.args.name.now.name in
    let labels = c.args.labels.now in
    let site = site_here old.around labels c.args.name.now c.args.following.now in
    let given = c.in_ok-given.given in
    let new : Linking = record { next = c.in_ok-given.next; given = c.push-2.new.self; links = c.note_labels.new.links; around = c.push.new.self } in
    let copied : c.in_ok-clone.field-0 ≡ name = c.in_ok-clone.ensures.cases in
    let around : c.push.new.self ≡ old.around ++ name ∷ [] = c.in_ok-push.ensures ∙ ap (λ (n : List ℕ). old.around ++ n ∷ []) copied in
    let number : c.unwrap_or-number.result ≡ number_then (site, given) =
    c.unwrap_or-number.ensures ∙ ap (λ (o : Option ℕ). unwrap_or o 0) (c.or.ensures ∙ ap (λ (o : Option ℕ). option_or o given) c.in_ok-own.ensures) in
    let path : names_path c.as_slice.result.now ≡ site.path = ap names_path (c.as_slice.ensures ∙ around) in
    record {
      given = given;
      gives = c.in_ok-given.ensures.gives cells used site asked.in_cells asked.numbers refl (sym c.in_ok-own.ensures);
      small = c.in_ok-given.ensures.small;
      leads = leads_more paths old new nodes site given c.unwrap_or-number.result leads c.in_ok-push-2.ensures.items number c.in_ok-note_labels.ensures.numbers
          (λ other asks. c.in_ok-note_labels.ensures.paths paths asked.elsewhere other asks
          ∙ ap (λ (p : List ℕ). option_or (get (slice_cmp nat_cmp) old.links.paths other) (some_if (any_label labels other) p)) path);
      around = around;
    }
