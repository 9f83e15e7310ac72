-- A text assembles to one list of bytes, or has one first bad line.
use Rattle.std.proofs.Common.{◌≡◌, ℕ, false, ◌+◌, ◌≤◌, List, [], ◌∷◌, ◌++◌, length, drop, Option, refl, sym, ap, subst, ◌∙◌, arith, append_assoc, length-append}
use Rattle.std.specs.Prelude.{Result, Ok, Err, is_err, IfOk, slice_range}
use Rattle.std.specs.List.{flat_map}
use Rattle.std.proofs.lemmas.List.{append-nil}
use Rattle.hv_text.specs.Lines.{script_lines, IsLineAt}
use Rattle.hv_asm.specs.declared.refusal.AsmRefusal.{AsmRefusal}
use Rattle.hv_asm.specs.declared.refusal.AsmRefusal.TheVariants.{BadAsm, Memory}
use Rattle.hv_asm.specs.Assembly.{AllGive, answer_bytes, IsAssembled, HasBadLine, Says, IsUnlessMemory}
use Rattle.hv_asm.specs.Adding.{AddsLine}
use Rattle.hv_asm.specs.Line.{Gives, IsBadLine}
use Rattle.hv_asm.proofs.Unique.{gives_once}

-- the lines before an offset, and what they gave
pub record AssembledTo (text : List ℕ) (from number : ℕ) (bytes : List ℕ) : Type 0 where
  pub within : from ≤ length text
  pub short : number ≤ from
  pub lines : List (List ℕ)
  pub lines_are : script_lines text ≡ lines ++ script_lines (drop from text)
  pub count : length lines ≡ number
  pub answers : List (Option ℕ)
  pub each : AllGive lines answers
  pub bytes_are : bytes ≡ flat_map answer_bytes answers

-- before the first line
pub at_start : (text : List ℕ) → AssembledTo text 0 0 []
at_start text = record { within = omega arith; short = omega arith; lines = []; lines_are = refl; count = refl; answers = []; each = tt; bytes_are = refl }

-- one more line and its answer
give_more : (lines : List (List ℕ)) (answers : List (Option ℕ)) (line : List ℕ) (answer : Option ℕ) → AllGive lines answers → Gives line answer → AllGive (lines ++ line ∷ []) (answers ++ answer ∷ [])
give_more [] [] line answer each gives = (gives, tt)
give_more [] (a ∷ answers) line answer each gives = absurd each
give_more (l ∷ lines) [] line answer each gives = absurd each
give_more (l ∷ lines) (a ∷ answers) line answer each gives = (each.0, give_more lines answers line answer each.1 gives)

-- one more line adds its bytes
bytes_more : (answers : List (Option ℕ)) (answer : Option ℕ) → flat_map answer_bytes (answers ++ answer ∷ []) ≡ flat_map answer_bytes answers ++ answer_bytes answer
bytes_more [] answer = append-nil (answer_bytes answer)
bytes_more (a ∷ answers) answer =
    ap (λ (bs : List ℕ). answer_bytes a ++ bs) (bytes_more answers answer) ∙ sym (append_assoc (answer_bytes a) (flat_map answer_bytes answers) (answer_bytes answer))

-- the lines up to the next offset, where a line gives its bytes
pub one_more : (text : List ℕ) (from number start end next : ℕ) (old new : List ℕ) → AssembledTo text from number old → IsLineAt text from start end next → AddsLine (slice_range text start end) old new → AssembledTo text next (number + 1) new
one_more text from number start end next old new so_far at adds =
    let line = slice_range text start end in
    record {
      within = at.within;
      short = omega (arith, so_far.short, at.starts, at.advances);
      lines = so_far.lines ++ line ∷ [];
      lines_are = so_far.lines_are ∙ ap (λ (ls : List (List ℕ)). so_far.lines ++ ls) at.lines ∙ sym (append_assoc so_far.lines (line ∷ []) (script_lines (drop next text)));
      count = length-append so_far.lines (line ∷ []) ∙ ap (λ (n : ℕ). n + 1) so_far.count;
      answers = so_far.answers ++ adds.answer ∷ [];
      each = give_more so_far.lines so_far.answers line adds.answer so_far.each adds.gives;
      bytes_are = adds.bytes_are ∙ ap (λ (bs : List ℕ). bs ++ answer_bytes adds.answer) so_far.bytes_are ∙ sym (bytes_more so_far.answers adds.answer);
    }

-- the text was read to its end
pub at_end : (text : List ℕ) (from number : ℕ) (bytes : List ℕ) → AssembledTo text from number bytes → script_lines (drop from text) ≡ [] → IsAssembled text bytes
at_end text from number bytes so_far none = record {
  answers = so_far.answers;
  each =
      let whole : script_lines text ≡ so_far.lines = so_far.lines_are ∙ ap (λ (ls : List (List ℕ)). so_far.lines ++ ls) none ∙ append-nil so_far.lines in
      subst (λ (ls : List (List ℕ)). AllGive ls so_far.answers) (sym whole) so_far.each;
  bytes_are = so_far.bytes_are;
}

-- a line was bad
pub at_bad_line : (text : List ℕ) (from number start end next : ℕ) (bytes : List ℕ) → AssembledTo text from number bytes → IsLineAt text from start end next → IsBadLine (slice_range text start end) → HasBadLine text (number + 1)
at_bad_line text from number start end next bytes so_far at bad = record {
  front = so_far.lines;
  line = slice_range text start end;
  behind = script_lines (drop next text);
  lines_are = so_far.lines_are ∙ ap (λ (ls : List (List ℕ)). so_far.lines ++ ls) at.lines;
  answers = so_far.answers;
  good = so_far.each;
  bad = bad;
  number_is = ap (λ (n : ℕ). n + 1) (sym so_far.count);
}

-- lines give one list of answers
same_answers : (lines : List (List ℕ)) (a b : List (Option ℕ)) → AllGive lines a → AllGive lines b → a ≡ b
same_answers [] [] [] x y = refl
same_answers [] [] (d ∷ b) x y = absurd y
same_answers [] (c ∷ a) b x y = absurd x
same_answers (l ∷ lines) [] b x y = absurd x
same_answers (l ∷ lines) (c ∷ a) [] x y = absurd y
same_answers (l ∷ lines) (c ∷ a) (d ∷ b) x y =
    let heads : c ≡ d = gives_once l c d x.0 y.0 in
    let tails : a ≡ b = same_answers lines a b x.1 y.1 in
    cc

-- so it has one list of bytes
pub one_assembly : (text a b : List ℕ) → IsAssembled text a → IsAssembled text b → a ≡ b
one_assembly text a b x y =
    x.bytes_are ∙ ap (λ (answers : List (Option ℕ)). flat_map answer_bytes answers) (same_answers (script_lines text) x.answers y.answers x.each y.each) ∙ sym y.bytes_are

-- a bad line stands among no good ones
not_among : (lines front : List (List ℕ)) (line : List ℕ) (behind : List (List ℕ)) (answers : List (Option ℕ)) → lines ≡ front ++ line ∷ behind → AllGive lines answers → IsBadLine line → ⊥
not_among [] [] line behind answers is each bad = absurd (cc)
not_among [] (f ∷ front) line behind answers is each bad = absurd (cc)
not_among (l ∷ lines) front line behind [] is each bad = absurd each
not_among (l ∷ lines) [] line behind (a ∷ answers) is each bad =
    let same : l ≡ line = cc in
    bad a (subst (λ (t : List ℕ). Gives t a) same each.0)
not_among (l ∷ lines) (f ∷ front) line behind (a ∷ answers) is each bad =
    let tails : lines ≡ front ++ line ∷ behind = cc in
    not_among lines front line behind answers tails each.1 bad

-- so a text with a bad line assembles to nothing
pub not_both : (text bytes : List ℕ) (number : ℕ) → IsAssembled text bytes → HasBadLine text number → ⊥
not_both text bytes number x y = not_among (script_lines text) y.front y.line y.behind x.answers y.lines_are x.each y.bad

-- the first bad line is one
same_front : (front other : List (List ℕ)) (line last : List ℕ) (behind more : List (List ℕ)) (answers others : List (Option ℕ)) → front ++ line ∷ behind ≡ other ++ last ∷ more
    → AllGive front answers → AllGive other others → IsBadLine line → IsBadLine last → length front ≡ length other
same_front [] [] line last behind more answers others is x y bad worse = refl
same_front [] (o ∷ other) line last behind more answers [] is x y bad worse = absurd y
same_front [] (o ∷ other) line last behind more answers (b ∷ others) is x y bad worse =
    let same : o ≡ line = cc in
    absurd (bad b (subst (λ (t : List ℕ). Gives t b) same y.0))
same_front (f ∷ front) [] line last behind more [] others is x y bad worse = absurd x
same_front (f ∷ front) [] line last behind more (a ∷ answers) others is x y bad worse =
    let same : f ≡ last = cc in
    absurd (worse a (subst (λ (t : List ℕ). Gives t a) same x.0))
same_front (f ∷ front) (o ∷ other) line last behind more [] others is x y bad worse = absurd x
same_front (f ∷ front) (o ∷ other) line last behind more (a ∷ answers) [] is x y bad worse = absurd y
same_front (f ∷ front) (o ∷ other) line last behind more (a ∷ answers) (b ∷ others) is x y bad worse =
    let tails : front ++ line ∷ behind ≡ other ++ last ∷ more = cc in
    let fewer = same_front front other line last behind more answers others tails x.1 y.1 bad worse in
    omega (arith, fewer)

-- and has one such number
pub one_bad_line : (text : List ℕ) (m n : ℕ) → HasBadLine text m → HasBadLine text n → m ≡ n
one_bad_line text m n x y =
    omega (arith, x.number_is, y.number_is, same_front x.front y.front x.line y.line x.behind y.behind x.answers y.answers (sym x.lines_are ∙ y.lines_are) x.good y.good x.bad y.bad)

-- what a text was found to be is what it is
pub bytes_only : (text : List ℕ) (r : Result (List ℕ) AsmRefusal) (bytes : List ℕ) → Says text r → IsAssembled text bytes → IsUnlessMemory r (Ok bytes)
bytes_only text (Ok found) bytes says is = ap Ok (one_assembly text found bytes says is)
bytes_only text (Err (BadAsm n)) bytes says is = absurd (not_both text bytes n is says)
bytes_only text (Err (Memory e)) bytes says is = tt

-- a text with a bad line was found to have it
pub bad_only : (text : List ℕ) (r : Result (List ℕ) AsmRefusal) (number : ℕ) → Says text r → HasBadLine text number → IsUnlessMemory r (Err (BadAsm number))
bad_only text (Ok found) number says is = absurd (not_both text found number says is)
bad_only text (Err (BadAsm n)) number says is = ap (λ (k : ℕ). Err (BadAsm k)) (one_bad_line text n number says is)
bad_only text (Err (Memory e)) number says is = tt

-- the lines before an offset give their answers
pub record GoodTo (text : List ℕ) (from : ℕ) : Type 0 where
  pub number : ℕ
  pub bytes : List ℕ
  pub so_far : AssembledTo text from number bytes

-- no lines stand before the text
pub good_start : (text : List ℕ) → GoodTo text 0
good_start text = record { number = 0; bytes = []; so_far = at_start text }

-- one more line gives its answer
pub good_more : (text : List ℕ) (from start end next : ℕ) (answer : Option ℕ) → GoodTo text from → IsLineAt text from start end next → Gives (slice_range text start end) answer → GoodTo text next
good_more text from start end next answer good at gives = record {
  number = good.number + 1;
  bytes = good.bytes ++ answer_bytes answer;
  so_far = one_more text from good.number start end next good.bytes (good.bytes ++ answer_bytes answer) good.so_far at (record { answer = answer; gives = gives; bytes_are = refl });
}

-- what a read line gave
pub answer_of : {E : Type 0} (r : Result (Option ℕ) E) (P : Option ℕ → Type 0) → is_err r ≡ false → IfOk r P → (answer : Option ℕ) × P answer
answer_of (Ok a) P is given = (a, given)
answer_of (Err e) P is given = absurd (cc)

-- a text whose lines all give answers assembles
pub good_end : (text : List ℕ) (from : ℕ) → GoodTo text from → script_lines (drop from text) ≡ [] → (bytes : List ℕ) × IsAssembled text bytes
good_end text from good none = (good.bytes, at_end text from good.number good.bytes good.so_far none)

-- a text has its first bad line behind good ones
pub good_until : (text : List ℕ) (from start end next : ℕ) → GoodTo text from → IsLineAt text from start end next → IsBadLine (slice_range text start end) → (number : ℕ) × HasBadLine text number
good_until text from start end next good at bad = (good.number + 1, at_bad_line text from good.number start end next good.bytes good.so_far at bad)
