use Rattle.std.proofs.Common.{◌≡◌, List, ℕ, ◌∷◌, [], ap, ◌∙◌}
use Rattle.hv_asm.specs.Line.{words}
use Rattle.hv_asm.proofs.Spelling.{two_are, three_are, no_second}
use Rattle.hv_asm.proofs.operands.read_operands.Goals as goal

pub returns-in_default-next_word-2-clause-exact : goal.returns-in_default-next_word-2-clause-exact
returns-in_default-next_word-2-clause-exact c = λ os fits spelled.
    let first = c.in-Some.first.now in
    let second = c.in-Some-next_word.second.now in
    let parted : words c.args.text.now ≡ first ∷ second ∷ [] = c.in-Some.ensures ∙ ap (λ (ws : List (List ℕ)). first ∷ ws) (c.in-Some-next_word.ensures ∙ ap (λ (ws : List (List ℕ)). second ∷ ws) c.in_default-next_word-2.ensures) in
    two_are (words c.args.text.now) first second c.in_ok-one.one c.in_ok-read_operand-2.field-0 parted c.in_ok-one.ensures.exact c.in_ok-read_operand-2.ensures.exact os fits spelled

pub returns-in_err-two-clause-exact : goal.returns-in_err-two-clause-exact
returns-in_err-two-clause-exact c = λ os fits spelled.
    let first = c.in-Some.first.now in
    let second = c.in-Some-next_word.second.now in
    let third = c.in-Some-next_word-2.third.now in
    let rest = words c.in-Some-next_word-2.behind.now in
    let parted : words c.args.text.now ≡ first ∷ second ∷ third ∷ rest = c.in-Some.ensures ∙ ap (λ (ws : List (List ℕ)). first ∷ ws) (c.in-Some-next_word.ensures ∙ ap (λ (ws : List (List ℕ)). second ∷ ws) c.in-Some-next_word-2.ensures) in
    absurd (no_second (words c.args.text.now) rest first second third parted c.in_err-two.ensures.exact os fits spelled)

pub returns-in_ok-read_operand-in-None-clause-exact : goal.returns-in_ok-read_operand-in-None-clause-exact
returns-in_ok-read_operand-in-None-clause-exact c = λ os fits spelled.
    let first = c.in-Some.first.now in
    let second = c.in-Some-next_word.second.now in
    let third = c.in-Some-next_word-2.third.now in
    let parted : words c.args.text.now ≡ first ∷ second ∷ third ∷ [] =
    c.in-Some.ensures ∙ ap (λ (ws : List (List ℕ)). first ∷ ws) (c.in-Some-next_word.ensures ∙ ap (λ (ws : List (List ℕ)). second ∷ ws) (c.in-Some-next_word-2.ensures ∙ ap (λ (ws : List (List ℕ)). third ∷ ws) c.in-None.ensures)) in
    three_are (words c.args.text.now) first second third c.in_ok-one.one c.in_ok-two.two c.in_ok-read_operand-in-None.field-0 parted c.in_ok-one.ensures.exact c.in_ok-two.ensures.exact c.in_ok-read_operand-in-None.ensures.exact os fits spelled
