use Rattle.std.proofs.Common.{subst}
use Rattle.std.specs.Io.KnownBytes.{Appends}
use Rattle.hv_base.specs.Writing.{AppendsFront}
use Rattle.xvsim.proofs.Told.{of_given, good_of, check_of}
use Rattle.xvsim.specs.Check.{IsCheckOf}
use Rattle.xvsim.proofs.Exact.{exact_status, due_status}
use Rattle.xvsim.proofs.top.check_bundle.Goals as goal

pub returns-in-Ok-write_all-clause-check : goal.returns-in-Ok-write_all-clause-check
returns-in-Ok-write_all-clause-check g c = λ done.
    of_given (λ bytes. IsCheckOf bytes c.in-Ok-check_text.text) _ _ (λ bytes is. record { text = c.in-Ok-check_text.text; is_check = is; appended = subst (Appends _ _) c.as_slice.ensures c.in-Ok-write_all.ensures.ok })
    (check_of _ _ _ c.in-Ok.input c.in-Ok-check_text.text c.in-Ok.ensures.whole c.in-Ok.ensures.all c.in-Ok-check_text.ensures)

pub returns-in-Ok-write_all-clause-due : goal.returns-in-Ok-write_all-clause-due
returns-in-Ok-write_all-clause-due g c = good_of _ _ _ c.in-Ok.input c.in-Ok.ensures.whole c.in-Ok.ensures.all

pub returns-in-Ok-check_text-clause-cut_short : goal.returns-in-Ok-check_text-clause-cut_short
returns-in-Ok-check_text-clause-cut_short g c = λ done.
    of_given (λ bytes. IsCheckOf bytes c.in-Ok-check_text.text) _ _ (λ bytes is. record { text = c.in-Ok-check_text.text; is_check = is; appended = subst (AppendsFront _ _) c.as_slice.ensures c.in-Err-write_all.ensures.front })
    (check_of _ _ _ c.in-Ok.input c.in-Ok-check_text.text c.in-Ok.ensures.whole c.in-Ok.ensures.all c.in-Ok-check_text.ensures)

pub returns-in-Ok-check_text-clause-due : goal.returns-in-Ok-check_text-clause-due
returns-in-Ok-check_text-clause-due g c = good_of _ _ _ c.in-Ok.input c.in-Ok.ensures.whole c.in-Ok.ensures.all

pub returns-in-Err-clause-exact : goal.returns-in-Err-clause-exact
returns-in-Err-clause-exact g c = rw c.status.ensures (exact_status _ _ (due_status _ c.in-Err.refusal c.in-Err.ensures.due))

pub returns-in-Ok-write_all-clause-exact : goal.returns-in-Ok-write_all-clause-exact
returns-in-Ok-write_all-clause-exact g c = exact_status _ _ (good_of _ _ _ c.in-Ok.input c.in-Ok.ensures.whole c.in-Ok.ensures.all)

pub returns-in-Ok-check_text-clause-exact : goal.returns-in-Ok-check_text-clause-exact
returns-in-Ok-check_text-clause-exact g c = exact_status _ _ (good_of _ _ _ c.in-Ok.input c.in-Ok.ensures.whole c.in-Ok.ensures.all)
