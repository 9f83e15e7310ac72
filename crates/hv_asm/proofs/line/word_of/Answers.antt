use Rattle.std.proofs.Common.{rules, ◌≡◌, ◌<◌, ◌^◌, false, sym, inl}
use Rattle.std.specs.Prelude.{codes, nat_eq}
use Rattle.std.specs.Cmp.Lexicographic.{pointwise}
use Rattle.hv_asm.proofs.Found.{sound}
use Rattle.hv_asm.proofs.Lines.{only_word, no_word}
use Rattle.hv_asm.proofs.line.word_of.Goals as goal

pub encode-requires : goal.encode-requires
encode-requires c = (sound c.args.name.now c.args.operands c.in-Some.inst c.requires (sym c.in-Some.ensures)).well_formed

pub returns-in-Some-clause-word : goal.returns-in-Some-clause-word
returns-in-Some-clause-word c =
    let small : c.encode.result < 2 ^ 32 = search rules in
    record {
      fits = small;
      spelled = inl (record {
        inst = c.in-Some.inst;
        decodes = c.encode.ensures.decodes;
        syntax = sound c.args.name.now c.args.operands c.in-Some.inst c.requires (sym c.in-Some.ensures);
      });
    }

pub returns-in-Some-clause-exact : goal.returns-in-Some-clause-exact
returns-in-Some-clause-exact c = λ word is.
    let unnamed : pointwise nat_eq c.args.name.now (codes ".word") ≡ false = search rules in
    only_word c.args.name.now c.args.operands c.in-Some.inst c.encode.result word unnamed (sym c.in-Some.ensures) c.encode.ensures.only is

pub returns-in-None-clause-exact : goal.returns-in-None-clause-exact
returns-in-None-clause-exact c = λ word is.
    let unnamed : pointwise nat_eq c.args.name.now (codes ".word") ≡ false = search rules in
    absurd (no_word c.args.name.now c.args.operands word unnamed (sym c.in-None.ensures) is)
