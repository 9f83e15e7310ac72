use Rattle.hv_asm.proofs.Assemblies.{one_assembly, one_bad_line, not_both}
use Rattle.hv_asm.proofs.Images.{image_is}
use Rattle.hv_asm.proofs.Unique.{gives_once}
use Rattle.hv_asm.proofs.laws.texts_assemble_one_way.Goals as goal

pub returns : goal.returns
returns c = record {
  one_answer = λ line answer other x y. gives_once line answer other x y;
  one_assembly = λ text bytes other x y. one_assembly text bytes other x y;
  one_bad_line = λ text number other x y. one_bad_line text number other x y;
  not_both = λ text bytes number x y. not_both text bytes number x y;
  image = λ text bytes x. image_is text bytes x;
}
