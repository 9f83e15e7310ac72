-- Names and their words.
use Rattle.std.proofs.Common.{◌≡◌, refl, sym, ap, ◌∙◌}
use Rattle.std.specs.Prelude.{Some}
use Rattle.hv_name.specs.declared.name.StepName.{StepName}
use Rattle.hv_name.specs.declared.name.StepName.TheVariants as name
use Rattle.hv_name.specs.StepName.{name_word, name_spelled}

-- a name is found by its word
pub spelled_back : (n : StepName) → name_spelled (name_word n) ≡ Some n
spelled_back name.Bad = refl
spelled_back _ = refl

pub same_name : (m n : StepName) → name_word m ≡ name_word n → m ≡ n
same_name m n e =
    let both : Some m ≡ Some n = sym (spelled_back m) ∙ ap name_spelled e ∙ spelled_back n in
    cc both
