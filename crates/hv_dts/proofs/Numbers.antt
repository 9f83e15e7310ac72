-- The numbers of phandles, one after the other.
use Rattle.std.proofs.Common.{◌≡◌, ℕ, ◌+◌, ◌<◌, ◌≤◌, true, List, [], ◌∷◌, length, drop, get_or, refl, sym, ap, subst, ◌∙◌, Ok, Err}
use Rattle.std.specs.Prelude.{Option, Some, None, Result, OnOk}
use Rattle.std.specs.Ordering.{nat_cmp, is_eq}
use Rattle.std.specs.List.{fold, list_any}
use Rattle.std.proofs.lemmas.List.{drop_more, drop_all}
use Rattle.std.proofs.lemmas.Bool.{cond-true}
use Rattle.std.specs.BTreeSet.{IsEmpty}
use Rattle.hv_dts.specs.Bytes.{is_phandle_name, phandle_number}
use Rattle.hv_dts.specs.Rules.{lesser, least, bad_place, with_number, bad_here, numbers_after, bad_phandles}
use Rattle.hv_dts.specs.Resolved.{used_numbers}
use Rattle.hv_dts.specs.Sets.{HoldsNumbers}
use Rattle.hv_dtgram.specs.declared.contents.Named.{Named}
use Rattle.hv_dtgram.specs.declared.contents.Value.{Value}
use Rattle.hv_dtgram.specs.declared.contents.Entry.{Entry}
use Rattle.hv_dtgram.specs.declared.contents.Entry.TheVariants as entry
use Rattle.hv_dts.specs.declared.phandles.Phandles.{Phandles}
use Rattle.hv_dts.proofs.Twice.{lesser_none, least_more}

-- an entry that is a phandle with a number
pub bad_here_is : (earlier : List ℕ) (one : Entry) (labels : List Named) (name : Named) (values : List Value) (number : ℕ) → one ≡ entry.Property labels name values → is_phandle_name name.name ≡ true → phandle_number values ≡ Some number
    → bad_here earlier one ≡ bad_place earlier name.place (Some number)
bad_here_is earlier one labels name values number is named numbered =
    ap (bad_here earlier) is ∙ cond-true (is_phandle_name name.name) (bad_place earlier name.place (phandle_number values)) [] named ∙ ap (bad_place earlier name.place) numbered

pub numbers_after_is : (earlier : List ℕ) (one : Entry) (labels : List Named) (name : Named) (values : List Value) (number : ℕ) → one ≡ entry.Property labels name values → is_phandle_name name.name ≡ true → phandle_number values ≡ Some number
    → numbers_after earlier one ≡ number ∷ earlier
numbers_after_is earlier one labels name values number is named numbered =
    ap (numbers_after earlier) is ∙ cond-true (is_phandle_name name.name) (with_number earlier (phandle_number values)) earlier named ∙ ap (with_number earlier) numbered

pub on_ok : {T E : Type 0} (result : Result T E) (P Q : Type 0) → (P → Q) → OnOk result P → OnOk result Q
on_ok (Ok t) P Q f p = f p
on_ok (Err e) P Q f p = tt

-- where the entries that are left lead to the same
pub record Counting (found : Phandles) (left entries : List Entry) : Type 0 where
  pub earlier : List ℕ
  pub holds : HoldsNumbers found.used earlier
  pub same : lesser found.best (least (bad_phandles earlier left)) ≡ least (bad_phandles [] entries)
  pub numbers : fold numbers_after earlier left ≡ used_numbers entries

pub counting_start : (found : Phandles) (entries : List Entry) → found.best ≡ None → IsEmpty found.used → Counting found entries entries
counting_start found entries none empty = record {
  earlier = [];
  holds = λ number. ap (list_any (λ key. is_eq (nat_cmp number key))) empty;
  same = ap (λ (o : Option ℕ). lesser o (least (bad_phandles [] entries))) none;
  numbers = refl;
}

pub counting_more : (found new : Phandles) (entries : List Entry) (i : ℕ) (one : Entry) → i < length entries → one ≡ get_or entries i one
    → ((earlier : List ℕ) → HoldsNumbers found.used earlier → (new.best ≡ lesser found.best (least (bad_here earlier one))) × HoldsNumbers new.used (numbers_after earlier one))
    → Counting found (drop i entries) entries → Counting new (drop (i + 1) entries) entries
counting_more found new entries i one lt is step it =
    let rest = drop (i + 1) entries in
    let here : drop i entries ≡ one ∷ rest = drop_more entries i one lt ∙ ap (λ (e : Entry). e ∷ rest) (sym is) in
    let taken = step it.earlier it.holds in
    let after = numbers_after it.earlier one in
    record {
      earlier = after;
      holds = taken.1;
      same = ap (λ (o : Option ℕ). lesser o (least (bad_phandles after rest))) taken.0
          ∙ least_more found.best (bad_here it.earlier one) (bad_phandles after rest)
          ∙ ap (λ (es : List Entry). lesser found.best (least (bad_phandles it.earlier es))) (sym here) ∙ it.same;
      numbers = ap (fold numbers_after it.earlier) (sym here) ∙ it.numbers;
    }

pub counted_best : (found : Phandles) (entries : List Entry) (i : ℕ) → length entries ≤ i → Counting found (drop i entries) entries → found.best ≡ least (bad_phandles [] entries)
counted_best found entries i over it =
    sym (lesser_none found.best) ∙ ap (λ (es : List Entry). lesser found.best (least (bad_phandles it.earlier es))) (sym (drop_all i entries over)) ∙ it.same

pub counted_used : (found : Phandles) (entries : List Entry) (i : ℕ) → length entries ≤ i → Counting found (drop i entries) entries → HoldsNumbers found.used (used_numbers entries)
counted_used found entries i over it =
    subst (HoldsNumbers found.used) (ap (fold numbers_after it.earlier) (sym (drop_all i entries over)) ∙ it.numbers) it.holds
