-- Words name one command.
use Rattle.std.proofs.Common.{◌≡◌, ℕ, List, inl, inr, ap, sym, ◌∙◌}
use Rattle.std.specs.Prelude.{codes, [], ◌∷◌}
use Rattle.std.specs.Str.Parse.{digits_value}
use Rattle.xvsim.specs.Words.{AreRunWords, AreCheckWords, AreInputWords, AreGenWords, AreAnyGenWords}

-- the words of a run are not those of `gen`
pub run_not_gen : (words : List (List ℕ)) → AreRunWords words → AreAnyGenWords words → ⊥
run_not_gen words run gen = let is = gen.1.words_are in cc (run, is)

-- nor is that of a check
pub check_not_gen : (words : List (List ℕ)) → AreCheckWords words → AreAnyGenWords words → ⊥
check_not_gen words check gen = let is = gen.1.words_are in cc (check, is)

-- nor are those of any command that reads a bundle
pub input_not_gen : (words : List (List ℕ)) → AreInputWords words → AreAnyGenWords words → ⊥
input_not_gen words (inl run) gen = run_not_gen words run gen
input_not_gen words (inr check) gen = check_not_gen words check gen

-- words ask for the files of one number
pub one_number : (words : List (List ℕ)) (one other : ℕ) → AreGenWords one words → AreGenWords other words
    → one ≡ other
one_number words one other is it =
    let here = is.words_are in
    let there = it.words_are in
    let same : is.digits ≡ it.digits = cc (here, there) in
    sym is.writes.value ∙ ap (digits_value 10) same ∙ it.writes.value
