use Rattle.std.proofs.Common.{◌≡◌, List, ℕ, true, sym, ap, subst, ◌∙◌, Some}
use Rattle.hv_dts.specs.Bytes.{is_phandle_name, phandle_number}
use Rattle.hv_dts.specs.Rules.{lesser, least}
use Rattle.hv_dts.specs.Sets.{HoldsNumbers}
use Rattle.hv_dts.proofs.Numbers.{bad_here_is, numbers_after_is, on_ok}
use Rattle.hv_dts.proofs.phandles.Phandles.take.Goals as goal

pub returns-in-Some : goal.returns-in-Some
returns-in-Some c = λ earlier holds.
    let one = c.args.entry.now in
    let labels = c.in-Property.field-0 in
    let name = c.in-Property.name in
    let values = c.in-Property.values in
    let number = c.in-Some.number in
    let named : is_phandle_name name.name ≡ true = cc (c.if-not-is_phandle_name.ensures) in
    let numbered : phandle_number values ≡ Some number = cc (c.in_ok-phandle_number.ensures, c.as_slice.ensures, c.in-Some.is) in
    let bad = bad_here_is earlier one labels name values number c.in-Property.is named numbered in
    let after = numbers_after_is earlier one labels name values number c.in-Property.is named numbered in
    on_ok c.note.result _ _
    (λ taken. (taken.0 ∙ ap (λ (t : List ℕ). lesser c.args.self.now.best (least t)) (sym bad), subst (HoldsNumbers c.note.new.self.used) (sym after) taken.1))
    (c.note.ensures earlier holds)
