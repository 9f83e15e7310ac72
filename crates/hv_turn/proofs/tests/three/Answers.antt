use Rattle.std.proofs.Common.{◌≡◌, ℕ, List, [], ◌∷◌, ◌++◌, length, length-append, Some, slice_get, refl, ap, ◌∙◌, subst, arith}
use Rattle.std.specs.Option.{option_to_list}
use Rattle.atomic_table.specs.Seated.{TableId}
use Rattle.hv_turn.specs.Passes.{PassView, IsOutside}
use Rattle.hv_turn.proofs.tests.three.Goals as goal

only_three : {E : Type 0} (id : TableId) (rest : List (PassView E)) (a b c : PassView E) (all : List (PassView E)) → all ≡ ((rest ++ a ∷ []) ++ b ∷ []) ++ c ∷ [] → length all ≡ 3
    → ((k : ℕ) (p : PassView E) → slice_get all k ≡ Some p → IsOutside id k p) → IsOutside id 0 a × IsOutside id 1 b × IsOutside id 2 c
only_three id [] a b c all is long each =
    let each' = subst (λ l. (k : ℕ) (p : PassView _) → slice_get l k ≡ Some p → IsOutside id k p) is each in (each' 0 a refl, each' 1 b refl, each' 2 c refl)
only_three id (x ∷ xs) a b c all is long each =
    let one = ap length is in let two = length-append (((x ∷ xs) ++ a ∷ []) ++ b ∷ []) (c ∷ []) in let three = length-append ((x ∷ xs) ++ a ∷ []) (b ∷ []) in let four = length-append (x ∷ xs) (a ∷ []) in absurd (omega arith)

pub returns : goal.returns
returns c =
    let third : c.args.passes.items ≡ c.pop.new.self.items ++ c.unwrap-third.result ∷ [] = c.pop.ensures.items ∙ ap (λ o. c.pop.new.self.items ++ option_to_list o) c.unwrap-third.ensures in
    let second : c.pop.new.self.items ≡ c.pop-2.new.self.items ++ c.unwrap-second.result ∷ [] = c.pop-2.ensures.items ∙ ap (λ o. c.pop-2.new.self.items ++ option_to_list o) c.unwrap-second.ensures in
    let first : c.pop-2.new.self.items ≡ c.pop-3.new.self.items ++ c.unwrap-first.result ∷ [] = c.pop-3.ensures.items ∙ ap (λ o. c.pop-3.new.self.items ++ option_to_list o) c.unwrap-first.ensures in
    let all = only_three c.args.turn.now.id c.pop-3.new.self.items c.unwrap-first.result c.unwrap-second.result c.unwrap-third.result c.args.passes.items
    (third ∙ (ap (λ l. l ++ c.unwrap-third.result ∷ []) second ∙ ap (λ l. (l ++ c.unwrap-second.result ∷ []) ++ c.unwrap-third.result ∷ []) first)) (c.requires.all.count ∙ c.requires.three) c.requires.all.each in record { first = all.0; second = all.1; third = all.2 }
