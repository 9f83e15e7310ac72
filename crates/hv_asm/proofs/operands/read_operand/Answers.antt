use Rattle.std.proofs.Common.{rules, sym, FitsSigned, w64}
use Rattle.std.proofs.lemmas.Int.{to_z-of_z}
use Rattle.hv_asm.proofs.Spelling.{only_based, not_closed, no_base, no_offset, is_based, is_register, is_number, is_none}
use Rattle.hv_asm.proofs.operands.read_operand.Goals as goal

pub returns-in_err-strip_end-in-Some-clause-exact : goal.returns-in_err-strip_end-in-Some-clause-exact
returns-in_err-strip_end-in-Some-clause-exact c = λ o fits spelled.
    let front = c.in-Some.front.now in
    let behind = c.in-Some.behind.now in
    absurd (not_closed front behind o c.in_err-strip_end-in-Some.ensures (only_based c.args.text.now front behind o c.in-Some.ensures.0 c.in-Some.ensures.1 fits spelled))

pub returns-in_err-base-in-Some-clause-exact : goal.returns-in_err-base-in-Some-clause-exact
returns-in_err-base-in-Some-clause-exact c = λ o fits spelled.
    let front = c.in-Some.front.now in
    let behind = c.in-Some.behind.now in
    absurd (no_base front behind c.in_ok-strip_end-in-Some.field-0.now o c.in_ok-strip_end-in-Some.ensures c.in_err-base-in-Some.ensures fits (only_based c.args.text.now front behind o c.in-Some.ensures.0 c.in-Some.ensures.1 fits spelled))

pub returns-in_err-offset-in-Some-clause-exact : goal.returns-in_err-offset-in-Some-clause-exact
returns-in_err-offset-in-Some-clause-exact c = λ o fits spelled.
    let front = c.in-Some.front.now in
    let behind = c.in-Some.behind.now in
    absurd (no_offset front behind o (sym c.in_err-offset-in-Some.ensures) (only_based c.args.text.now front behind o c.in-Some.ensures.0 c.in-Some.ensures.1 fits spelled))

pub returns-in_ok-offset-in-Some-clause-exact : goal.returns-in_ok-offset-in-Some-clause-exact
returns-in_ok-offset-in-Some-clause-exact c = λ o fits spelled.
    let front = c.in-Some.front.now in
    let behind = c.in-Some.behind.now in
    let f : FitsSigned w64 c.in_ok-offset-in-Some.offset = search rules in
    rw to_z-of_z (is_based front behind c.in_ok-strip_end-in-Some.field-0.now o c.in_ok-offset-in-Some.offset c.in_ok-base-in-Some.base c.in_ok-strip_end-in-Some.ensures c.in_ok-base-in-Some.ensures.0 c.in_ok-base-in-Some.ensures.1 (sym c.in_ok-offset-in-Some.ensures) fits (only_based c.args.text.now front behind o c.in-Some.ensures.0 c.in-Some.ensures.1 fits spelled))

pub returns-in-Some-read_register-clause-exact : goal.returns-in-Some-read_register-clause-exact
returns-in-Some-read_register-clause-exact c = λ o fits spelled.
    is_register c.args.text.now o c.in-Some-read_register.number c.in-None.ensures c.in-Some-read_register.ensures.0 c.in-Some-read_register.ensures.1 fits spelled

pub returns-in-Some-read_value-clause-exact : goal.returns-in-Some-read_value-clause-exact
returns-in-Some-read_value-clause-exact c = λ o fits spelled.
    let f : FitsSigned w64 c.in-Some-read_value.value = search rules in
    rw to_z-of_z (is_number c.args.text.now o c.in-Some-read_value.value c.in-None.ensures c.in-None-read_register.ensures (sym c.in-Some-read_value.ensures) fits spelled)

pub returns-in-None-read_value-clause-exact : goal.returns-in-None-read_value-clause-exact
returns-in-None-read_value-clause-exact c = λ o fits spelled.
    absurd (is_none c.args.text.now o c.in-None.ensures c.in-None-read_register.ensures (sym c.in-None-read_value.ensures) fits spelled)
