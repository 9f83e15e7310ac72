-- Greatest numbers, and how many lines a text has at most.
use Rattle.std.proofs.Common.{◌≡◌, ℕ, zero, suc, ◌+◌, ◌-◌, ◌<◌, ◌≤◌, max, Bool, eqb, cond, true, false, List, [], ◌∷◌, length, drop, get_or, refl, sym, ap, subst, ◌∙◌, arith, drop-cons}
use Rattle.std.specs.List.{slice_split, onto_first}
use Rattle.std.specs.Str.Lines.{lines_of_parts}
use Rattle.std.proofs.lemmas.List.{drop_all}
use Rattle.std.proofs.lemmas.List.Splits.{slice_split-cons_yes, slice_split-cons_no}
use Rattle.hv_text.specs.declared.limits.TheConstants.{MOST_LINES}
use Rattle.hv_text.specs.Lines.{script_lines}
use Rattle.hv_bundle.specs.declared.file.File.{File}
use Rattle.hv_model.specs.declared.opening.Opening.{Opening}
use Rattle.hv_model.specs.Files.{load_files}
use Rattle.hv_rounds.specs.Outcome.{LinesFit}
use Rattle.hv_model.specs.Legal.{lines_among}
use Rattle.xvsim.specs.Opening.{scripts_of}
use Rattle.xvsim.specs.Limits.{greatest, depth_of, lines_of, greatest_lines}

suc_one : (i : ℕ) → suc i ≡ i + 1
suc_one i = omega arith

-- the depth of a file and of those behind it
pub depth_next : (files : List File) (i : ℕ) (f d : File) → i < length files → f ≡ get_or files i d → depth_of (drop i files) ≡ max (length f.path) (depth_of (drop (i + 1) files))
depth_next files i f d lt is =
    ap depth_of (drop-cons files i d lt)
    ∙ ap (λ (g : File). max (length g.path) (depth_of (drop (suc i) files))) (sym is)
    ∙ ap (λ k. max (length f.path) (depth_of (drop k files))) (suc_one i)

-- no file has no depth
pub depth_end : (files : List File) (i : ℕ) → length files ≤ i → depth_of (drop i files) ≡ 0
depth_end files i le = ap depth_of (drop_all i files le)

abbrev is_line_feed : ℕ → Bool
is_line_feed b = eqb b 10

no_more_at_end : (b : Bool) (p : List ℕ) (n : ℕ) → length (cond b [] (p ∷ [])) ≤ suc n
no_more_at_end true p n = omega arith
no_more_at_end false p n = omega arith

lines_onto : (b : ℕ) (ps : List (List ℕ)) → length (lines_of_parts (onto_first b ps)) ≤ suc (length (lines_of_parts ps))
lines_onto b [] = no_more_at_end (eqb (length (b ∷ [])) 0) (b ∷ []) 0
lines_onto b (p ∷ []) = no_more_at_end (eqb (length (b ∷ p)) 0) (b ∷ p) _
lines_onto b (p ∷ q ∷ more) = omega arith

lines_behind : (ps : List (List ℕ)) → length (lines_of_parts ([] ∷ ps)) ≤ suc (length (lines_of_parts ps))
lines_behind [] = omega arith
lines_behind (p ∷ more) = omega arith

-- a text has no more lines than bytes
pub few_lines : (text : List ℕ) → length (script_lines text) ≤ length text
few_lines [] = omega arith
few_lines (b ∷ bs) =
    let rest = few_lines bs in
    elim (eqb b 10) as (λ t. eqb b 10 ≡ t → length (script_lines (b ∷ bs)) ≤ length (b ∷ bs)) [
      | true ↦ λ e. subst (λ (ps : List (List ℕ)). length (lines_of_parts ps) ≤ length (b ∷ bs)) (sym (slice_split-cons_yes is_line_feed b bs e)) (omega (arith, lines_behind (slice_split is_line_feed bs), rest))
      | false ↦ λ e. subst (λ (ps : List (List ℕ)). length (lines_of_parts ps) ≤ length (b ∷ bs)) (sym (slice_split-cons_no is_line_feed b bs e)) (omega (arith, lines_onto b (slice_split is_line_feed bs), rest))
    ] refl

-- the lines of the terminals, by the scripts
pub lines_of_first : (files : List File) (scripts : List (List ℕ)) → scripts ≡ scripts_of (load_files files) → lines_of files 0 ≡ length (script_lines (get_or scripts 0 [])) + length (script_lines (get_or scripts 1 []))
unfolding lines_of
lines_of_first files scripts is = ap (λ s. length (script_lines (get_or s 0 [])) + length (script_lines (get_or s 1 []))) (sym is)

pub lines_of_second : (files : List File) (scripts : List (List ℕ)) → scripts ≡ scripts_of (load_files files) → lines_of files 1 ≡ 0 + length (script_lines (get_or scripts 2 []))
unfolding lines_of
lines_of_second files scripts is = ap (λ s. 0 + length (script_lines (get_or s 2 []))) (sym is)

pub lines_of_third : (files : List File) (scripts : List (List ℕ)) → scripts ≡ scripts_of (load_files files) → lines_of files 2 ≡ 0 + length (script_lines (get_or scripts 3 []))
unfolding lines_of
lines_of_third files scripts is = ap (λ s. 0 + length (script_lines (get_or s 3 []))) (sym is)

pub lines_of_fourth : (files : List File) (scripts : List (List ℕ)) → scripts ≡ scripts_of (load_files files) → lines_of files 3 ≡ 0 + length (script_lines (get_or scripts 4 []))
unfolding lines_of
lines_of_fourth files scripts is = ap (λ s. 0 + length (script_lines (get_or s 4 []))) (sym is)

-- no terminal has more lines than the greatest
each_below : (files : List File) (most t : ℕ) → greatest_lines files ≤ most → t < 4 → lines_of files t ≤ most
each_below files most zero le lt = omega arith
each_below files most (suc zero) le lt = omega arith
each_below files most (suc (suc zero)) le lt = omega arith
each_below files most (suc (suc (suc zero))) le lt = omega arith
each_below files most (suc (suc (suc (suc t)))) le lt = absurd (omega arith)

pub lines_fit : (files : List File) (o : Opening) → o.scripts ≡ scripts_of (load_files files) → greatest_lines files ≤ MOST_LINES → LinesFit o
unfolding lines_of
lines_fit files o is le = subst (λ (scripts : List (List ℕ)). (t : ℕ) → t < 4 → lines_among scripts t ≤ MOST_LINES) (sym is) (λ t lt. each_below files MOST_LINES t le lt)

greatest_of_four : (a b c d : ℕ) → greatest (a ∷ b ∷ c ∷ d ∷ []) ≡ max a (max b (max c d))
greatest_of_four a b c d = let last : max d 0 ≡ d = omega arith in ap (λ n. max a (max b (max c n))) last

-- the greatest of the lines of four terminals
pub greatest_lines_are : (files : List File) (scripts : List (List ℕ)) (a b c d : ℕ) → scripts ≡ scripts_of (load_files files)
    → a ≡ length (script_lines (get_or scripts 0 [])) + length (script_lines (get_or scripts 1 [])) → b ≡ length (script_lines (get_or scripts 2 []))
    → c ≡ length (script_lines (get_or scripts 3 [])) → d ≡ length (script_lines (get_or scripts 4 [])) → max a (max b (max c d)) ≡ greatest_lines files
greatest_lines_are files scripts a b c d is first second third fourth =
    let l0 : lines_of files 0 ≡ a = lines_of_first files scripts is ∙ sym first in
    let l1 : lines_of files 1 ≡ b = omega (arith, lines_of_second files scripts is, second) in
    let l2 : lines_of files 2 ≡ c = omega (arith, lines_of_third files scripts is, third) in
    let l3 : lines_of files 3 ≡ d = omega (arith, lines_of_fourth files scripts is, fourth) in
    sym (ap (λ n. max n (max (lines_of files 1) (max (lines_of files 2) (max (lines_of files 3) 0)))) l0
    ∙ ap (λ n. max a (max n (max (lines_of files 2) (max (lines_of files 3) 0)))) l1
    ∙ ap (λ n. max a (max b (max n (max (lines_of files 3) 0)))) l2
    ∙ ap (λ n. max a (max b (max c (max n 0)))) l3
    ∙ greatest_of_four a b c d)
