use Rattle.std.proofs.Common.{sym, ap, ◌∙◌, Some, None}
use Rattle.std.specs.Prelude.{Ok}
use Rattle.hv_asm.specs.Line.{words}
use Rattle.hv_asm.proofs.Lines.{spell_word, none_given, nothing_given, word_given}
use Rattle.hv_asm.proofs.line.read_words.Goals as goal

pub returns-in_default-clause-exact : goal.returns-in_default-clause-exact
returns-in_default-clause-exact c = λ answer given. ap Ok (none_given (words c.args.text.now) c.in_default.ensures answer given)

pub returns-in_default-read_operands-clause-exact : goal.returns-in_default-read_operands-clause-exact
returns-in_default-read_operands-clause-exact c = λ answer given.
    absurd (nothing_given (words c.args.text.now) (words c.in-Some.behind.now) c.in-Some.name.now c.in-Some.ensures c.in_default-read_operands.ensures.exact answer given)

pub returns-in-Some-word_of-clause-given : goal.returns-in-Some-word_of-clause-given
returns-in-Some-word_of-clause-given c =
    spell_word (words c.args.text.now) (words c.in-Some.behind.now) c.in-Some.name.now c.in-Some-read_operands.operands c.in-Some-word_of.word c.in-Some.ensures c.in-Some-read_operands.ensures.spelled.1 c.in-Some-word_of.ensures.word

pub returns-in-Some-word_of-clause-exact : goal.returns-in-Some-word_of-clause-exact
returns-in-Some-word_of-clause-exact c = λ answer given.
    let w = word_given (words c.args.text.now) (words c.in-Some.behind.now) c.in-Some.name.now c.in-Some-read_operands.operands (Some c.in-Some-word_of.word) c.in-Some.ensures c.in-Some-read_operands.ensures.exact c.in-Some-word_of.ensures.exact answer given in
    ap Ok (w.2 ∙ sym w.1)

pub returns-in-None-clause-exact : goal.returns-in-None-clause-exact
returns-in-None-clause-exact c = λ answer given.
    let w = word_given (words c.args.text.now) (words c.in-Some.behind.now) c.in-Some.name.now c.in-Some-read_operands.operands None c.in-Some.ensures c.in-Some-read_operands.ensures.exact c.in-None.ensures.exact answer given in
    let e = w.2 in absurd (cc)
