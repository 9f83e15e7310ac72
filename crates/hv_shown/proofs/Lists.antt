-- What is appended an item at a time.
use Rattle.std.proofs.Common.{◌≡◌, ℕ, suc, ◌+◌, ◌<◌, List, [], ◌∷◌, ◌++◌, codes, length, take, get_or, ap, ◌∙◌, sym, arith, append_assoc}
use Rattle.std.specs.Fmt.{decimal}
use Rattle.std.specs.List.{flat_map, range_with_len}
use Rattle.std.proofs.Math.Seq.{take-suc}
use Rattle.std.proofs.lemmas.List.{flat_map_more, length-take-le}
use Rattle.hv_programs.proofs.Pins.{range-more}
use Rattle.hv_model.specs.Transcript.{registers_shown, unless_zero}

-- the lines of one number more stand behind those of the others
pub lines_more : (text : ℕ → List ℕ) (to : List ℕ) (n : ℕ)
    → (to ++ flat_map text (range_with_len 0 n)) ++ text n ≡ to ++ flat_map text (range_with_len 0 (n + 1))
lines_more text to n =
    let on : n + 1 ≡ suc n = omega arith in
    flat_map_more text to (range_with_len 0 n) n
    ∙ ap (λ (ks : List ℕ). to ++ flat_map text ks) (sym (ap (range_with_len 0) on ∙ (range-more 0 n ∙ ap (λ k. range_with_len 0 n ++ k ∷ []) (omega arith))))

-- one register more stands behind the others
pub registers_more : (number : ℕ) (values : List ℕ) (value at : ℕ) → number + length values ≡ at
    → registers_shown number (values ++ value ∷ []) ≡ registers_shown number values ++ registers_shown at (value ∷ [])
registers_more number [] value at is = ap (λ (n : ℕ). registers_shown n (value ∷ [])) (omega arith)
registers_more number (v ∷ values) value at is =
    let here = unless_zero (codes "x" ++ decimal number) v in
    ap (λ later. here ++ later) (registers_more (number + 1) values value at (omega arith))
    ∙ sym (append_assoc here (registers_shown (number + 1) values) (registers_shown at (value ∷ [])))

-- the registers of one place more stand behind those before it
pub generals_more : (to values : List ℕ) (place d : ℕ) → place < length values
    → (to ++ registers_shown 1 (take place values)) ++ registers_shown (place + 1) (get_or values place d ∷ [])
    ≡ to ++ registers_shown 1 (take (place + 1) values)
generals_more to values place d low =
    let next : place + 1 ≡ suc place = omega arith in
    let more : take (place + 1) values ≡ take place values ++ get_or values place d ∷ [] = ap (λ n. take n values) next ∙ take-suc values place d low in
    let long : 1 + length (take place values) ≡ place + 1 = let is = length-take-le place values (omega arith) in omega (arith, is) in
    append_assoc to (registers_shown 1 (take place values)) (registers_shown (place + 1) (get_or values place d ∷ []))
    ∙ ap (λ later. to ++ later) (sym (ap (registers_shown 1) more ∙ registers_more 1 (take place values) (get_or values place d) (place + 1) long))

-- one text more behind others
behind : (to x r m : List ℕ) → x ≡ to ++ r → x ++ m ≡ to ++ (r ++ m)
behind to x r m is = ap (λ t. t ++ m) is ∙ append_assoc to r m

-- texts one after the other are appended as one
pub seven_texts : (to a b c d e f g : List ℕ) → to ++ a ++ b ++ c ++ d ++ e ++ f ++ g ≡ to ++ (a ++ b ++ c ++ d ++ e ++ f ++ g)
seven_texts to a b c d e f g =
    let two = append_assoc to a b in
    let three = behind to (to ++ a ++ b) (a ++ b) c two in
    let four = behind to (to ++ a ++ b ++ c) (a ++ b ++ c) d three in
    let five = behind to (to ++ a ++ b ++ c ++ d) (a ++ b ++ c ++ d) e four in
    let six = behind to (to ++ a ++ b ++ c ++ d ++ e) (a ++ b ++ c ++ d ++ e) f five in
    behind to (to ++ a ++ b ++ c ++ d ++ e ++ f) (a ++ b ++ c ++ d ++ e ++ f) g six

pub eight_texts : (to a b c d e f g h : List ℕ) → to ++ a ++ b ++ c ++ d ++ e ++ f ++ g ++ h ≡ to ++ (a ++ b ++ c ++ d ++ e ++ f ++ g ++ h)
eight_texts to a b c d e f g h =
    behind to (to ++ a ++ b ++ c ++ d ++ e ++ f ++ g) (a ++ b ++ c ++ d ++ e ++ f ++ g) h (seven_texts to a b c d e f g)
