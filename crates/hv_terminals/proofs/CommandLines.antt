-- How a script is parted into its command lines.
use Rattle.std.proofs.Common.{◌≡◌, ℕ, suc, ◌<◌, ◌≤◌, Bool, eqb, cond, true, false, not, List, [], ◌∷◌, length, drop, get_or, refl, sym, ap, subst, ◌∙◌, arith, inl, inr, filter, drop-cons, ne_eqb}
use Rattle.std.specs.List.{slice_split, onto_first}
use Rattle.std.specs.Str.Lines.{lines_of_parts, strip_carriage_return}
use Rattle.std.proofs.lemmas.List.{drop_all}
use Rattle.std.proofs.lemmas.Bool.{cases_lt}
use Rattle.std.proofs.lemmas.List.Splits.{slice_split-cons_yes, slice_split-cons_no, length-slice_split}
use Rattle.hv_text.specs.Lines.{script_lines}
use Rattle.hv_words.specs.Words.{is_skipped, commands_of}
use Rattle.hv_words.specs.Places.{IsCommandOffset}

abbrev is_line_feed : ℕ → Bool
is_line_feed b = eqb b 10

-- a text has a first line
abbrev HasLine : List (List ℕ) → Type 0
HasLine lines = (line : List ℕ) × (more : List (List ℕ)) × (lines ≡ line ∷ more)

line_from_parts : (b : ℕ) (ps : List (List ℕ)) → 0 < length ps → HasLine (lines_of_parts (onto_first b ps))
line_from_parts b [] some = absurd (omega arith)
line_from_parts b (p ∷ []) some = (b ∷ p, [], ap (λ (t : Bool). cond t [] ((b ∷ p) ∷ [])) (ne_eqb (length (b ∷ p)) 0 (λ none. omega arith)))
line_from_parts b (p ∷ q ∷ more) some = (strip_carriage_return (b ∷ p), lines_of_parts (q ∷ more), refl)

line_from_feed : (ps : List (List ℕ)) → 0 < length ps → HasLine (lines_of_parts ([] ∷ ps))
line_from_feed [] some = absurd (omega arith)
line_from_feed (p ∷ more) some = (strip_carriage_return [], lines_of_parts (p ∷ more), refl)

-- a text that isn't empty has a first line
pub some_line : (b : ℕ) (bs : List ℕ) → HasLine (script_lines (b ∷ bs))
some_line b bs =
    let some : 0 < length (slice_split is_line_feed bs) = omega (arith, length-slice_split is_line_feed bs) in
    elim (eqb b 10) as (λ t. eqb b 10 ≡ t → HasLine (script_lines (b ∷ bs))) [
      | true ↦ λ e. subst (λ (ps : List (List ℕ)). HasLine (lines_of_parts ps)) (sym (slice_split-cons_yes is_line_feed b bs e)) (line_from_feed (slice_split is_line_feed bs) some)
      | false ↦ λ e. subst (λ (ps : List (List ℕ)). HasLine (lines_of_parts ps)) (sym (slice_split-cons_no is_line_feed b bs e)) (line_from_parts b (slice_split is_line_feed bs) some)
    ] refl

-- a skipped line in front is no command
pub commands-skipped : (text line : List ℕ) (more : List ℕ) → script_lines text ≡ line ∷ script_lines more → is_skipped line ≡ true → commands_of text ≡ commands_of more
commands-skipped text line more e skipped =
    ap (λ (ls : List (List ℕ)). filter (λ l. not (is_skipped l)) ls) e ∙ ap (λ (b : Bool). cond (not b) (line ∷ commands_of more) (commands_of more)) skipped

-- a line in front that isn't skipped is the first command
pub commands-first : (text line : List ℕ) (more : List (List ℕ)) → script_lines text ≡ line ∷ more → is_skipped line ≡ false → commands_of text ≡ line ∷ filter (λ l. not (is_skipped l)) more
commands-first text line more e kept =
    ap (λ (ls : List (List ℕ)). filter (λ l. not (is_skipped l)) ls) e ∙ ap (λ (b : Bool). cond (not b) (line ∷ filter (λ l. not (is_skipped l)) more) (filter (λ l. not (is_skipped l)) more)) kept

pub over_at_end : (text : List ℕ) (offset : ℕ) → offset ≡ length text → commands_of (drop offset text) ≡ []
over_at_end text offset is = ap commands_of (drop_all offset text (omega arith))

-- where no command follows, the script ends
pub end_where_over : (text : List ℕ) (offset : ℕ) → IsCommandOffset text offset → commands_of (drop offset text) ≡ [] → offset ≡ length text
end_where_over text offset place over = elim (cases_lt offset (length text)) [
  | inl lt ↦
      let cut : drop offset text ≡ get_or text offset 0 ∷ drop (suc offset) text = drop-cons text offset 0 lt in
      let l = some_line (get_or text offset 0) (drop (suc offset) text) in
      let lines : script_lines (drop offset text) ≡ l.0 ∷ l.1 = ap script_lines cut ∙ l.2 in
      let some = commands-first (drop offset text) l.0 l.1 lines (place.first l.0 l.1 lines) in
      absurd (cc (some, over))
  | inr le ↦ omega (arith, place.within)
]

-- the end of a script is an offset of its commands
pub place_at_end : (text : List ℕ) (offset : ℕ) → offset ≡ length text → IsCommandOffset text offset
place_at_end text offset is = record {
  within = omega arith;
  first = λ line more e. absurd (cc (ap script_lines (drop_all offset text (omega arith)), e));
}

pub place_at_line : (text line : List ℕ) (more : List (List ℕ)) (offset : ℕ) → offset ≤ length text → script_lines (drop offset text) ≡ line ∷ more → is_skipped line ≡ false → IsCommandOffset text offset
place_at_line text line more offset within lines kept = record {
  within = within;
  first = λ other rest e. let same : line ≡ other = cc (lines, e) in subst (λ (l : List ℕ). is_skipped l ≡ false) same kept;
}
