use Rattle.std.proofs.Common.{inl, inr, ap, subst}
use Rattle.std.specs.Io.KnownBytes.{Appends}
use Rattle.hv_base.specs.Writing.{AppendsFront}
use Rattle.xvsim.specs.Words.{NameCommand}
use Rattle.xvsim.specs.Gen.{gen_text}
use Rattle.xvsim.proofs.Named.{run_not_gen, check_not_gen, one_number}
use Rattle.xvsim.proofs.Told.{due_of, gen_due}
use Rattle.xvsim.proofs.Exact.{exact_of}
use Rattle.xvsim.proofs.top.xvsim.Goals as goal

pub returns-in-Some-Run-clause-exact : goal.returns-in-Some-Run-clause-exact
returns-in-Some-Run-clause-exact g c =
    let words_are = subst (NameCommand _) c.in-Some-Run.field-0-is c.in-Some-Run.ensures in
    exact_of _ _ c.run_bundle.result (due_of _ _ c.run_bundle.result (inl words_are) (λ stamp stopped. words_are) c.run_bundle.ensures.due)

pub returns-in-Some-Run-clause-due : goal.returns-in-Some-Run-clause-due
returns-in-Some-Run-clause-due g c =
    let words_are = subst (NameCommand _) c.in-Some-Run.field-0-is c.in-Some-Run.ensures in
    due_of _ _ c.run_bundle.result (inl words_are) (λ stamp stopped. words_are) c.run_bundle.ensures.due

pub returns-in-Some-Run-clause-generated : goal.returns-in-Some-Run-clause-generated
returns-in-Some-Run-clause-generated g c = λ number gen. absurd (run_not_gen _ (subst (NameCommand _) c.in-Some-Run.field-0-is c.in-Some-Run.ensures) (number, gen))

pub returns-in-Some-Run-clause-generated_cut : goal.returns-in-Some-Run-clause-generated_cut
returns-in-Some-Run-clause-generated_cut g c = λ number gen. absurd (run_not_gen _ (subst (NameCommand _) c.in-Some-Run.field-0-is c.in-Some-Run.ensures) (number, gen))

pub returns-in-Some-Run-clause-generated_unread : goal.returns-in-Some-Run-clause-generated_unread
returns-in-Some-Run-clause-generated_unread g c = λ gen. absurd (run_not_gen _ (subst (NameCommand _) c.in-Some-Run.field-0-is c.in-Some-Run.ensures) gen)

pub returns-in-Some-Run-clause-generated_answers : goal.returns-in-Some-Run-clause-generated_answers
returns-in-Some-Run-clause-generated_answers g c = λ gen. absurd (run_not_gen _ (subst (NameCommand _) c.in-Some-Run.field-0-is c.in-Some-Run.ensures) gen)

pub returns-in-Some-Check-clause-exact : goal.returns-in-Some-Check-clause-exact
returns-in-Some-Check-clause-exact g c =
    let words_are = subst (NameCommand _) c.in-Some-Check.field-0-is c.in-Some-Check.ensures in
    exact_of _ _ c.check_bundle.result (due_of _ _ c.check_bundle.result (inr words_are) (λ stamp stopped. absurd (c.check_bundle.ensures.never_stopped stamp stopped)) c.check_bundle.ensures.due)

pub returns-in-Some-Check-clause-due : goal.returns-in-Some-Check-clause-due
returns-in-Some-Check-clause-due g c =
    let words_are = subst (NameCommand _) c.in-Some-Check.field-0-is c.in-Some-Check.ensures in
    due_of _ _ c.check_bundle.result (inr words_are) (λ stamp stopped. absurd (c.check_bundle.ensures.never_stopped stamp stopped)) c.check_bundle.ensures.due

pub returns-in-Some-Check-clause-generated : goal.returns-in-Some-Check-clause-generated
returns-in-Some-Check-clause-generated g c = λ number gen. absurd (check_not_gen _ (subst (NameCommand _) c.in-Some-Check.field-0-is c.in-Some-Check.ensures) (number, gen))

pub returns-in-Some-Check-clause-generated_cut : goal.returns-in-Some-Check-clause-generated_cut
returns-in-Some-Check-clause-generated_cut g c = λ number gen. absurd (check_not_gen _ (subst (NameCommand _) c.in-Some-Check.field-0-is c.in-Some-Check.ensures) (number, gen))

pub returns-in-Some-Check-clause-generated_unread : goal.returns-in-Some-Check-clause-generated_unread
returns-in-Some-Check-clause-generated_unread g c = λ gen. absurd (check_not_gen _ (subst (NameCommand _) c.in-Some-Check.field-0-is c.in-Some-Check.ensures) gen)

pub returns-in-Some-Check-clause-generated_answers : goal.returns-in-Some-Check-clause-generated_answers
returns-in-Some-Check-clause-generated_answers g c = λ gen. absurd (check_not_gen _ (subst (NameCommand _) c.in-Some-Check.field-0-is c.in-Some-Check.ensures) gen)

pub returns-in-Some-Gen-clause-generated : goal.returns-in-Some-Gen-clause-generated
returns-in-Some-Gen-clause-generated g c = λ number gen done.
    let words_are = subst (NameCommand _) c.in-Some-Gen.field-0-is c.in-Some-Gen.ensures in
    subst (Appends _ _) (ap gen_text (one_number _ c.in-Some-Gen.number number words_are gen)) (c.gen_bundle.ensures.made done)

pub returns-in-Some-Gen-clause-generated_cut : goal.returns-in-Some-Gen-clause-generated_cut
returns-in-Some-Gen-clause-generated_cut g c = λ number gen cut.
    let words_are = subst (NameCommand _) c.in-Some-Gen.field-0-is c.in-Some-Gen.ensures in
    subst (AppendsFront _ _) (ap gen_text (one_number _ c.in-Some-Gen.number number words_are gen)) (c.gen_bundle.ensures.cut_short cut)

pub returns-in-Some-Gen-clause-due : goal.returns-in-Some-Gen-clause-due
returns-in-Some-Gen-clause-due g c =
    let words_are = subst (NameCommand _) c.in-Some-Gen.field-0-is c.in-Some-Gen.ensures in
    gen_due _ _ c.gen_bundle.result (c.in-Some-Gen.number, words_are) c.gen_bundle.ensures.answers

pub returns-in-Some-Gen-clause-exact : goal.returns-in-Some-Gen-clause-exact
returns-in-Some-Gen-clause-exact g c =
    let words_are = subst (NameCommand _) c.in-Some-Gen.field-0-is c.in-Some-Gen.ensures in
    exact_of _ _ c.gen_bundle.result (gen_due _ _ c.gen_bundle.result (c.in-Some-Gen.number, words_are) c.gen_bundle.ensures.answers)
