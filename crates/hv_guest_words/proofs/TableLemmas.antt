-- What holds of lines that are read by any table of rows.
use Rattle.std.proofs.Common.{◌≡◌, ◌↔◌, ℕ, true, false, cond, List, [], ◌∷◌, refl, sym, ap, subst, ◌∙◌, inl, inr, map}
use Rattle.std.specs.Prelude.{Option, Some, None, Result, Ok, Err, MatchResult}
use Rattle.std.specs.declared.alloc.AllocError.{AllocError}
use Rattle.std.proofs.lemmas.Bool.{true≢false}
use Rattle.hv_words.specs.declared.refusal.WordsRefusal.{WordsRefusal}
use Rattle.hv_words.specs.declared.refusal.WordsRefusal.TheVariants as refusal
use Rattle.hv_words.specs.Words.{words}
use Rattle.hv_words.specs.Commands.{Argument, FitAll, IsMisfit, IsPrintable}
use Rattle.hv_words.specs.Print.{argument_text}
use Rattle.hv_words.specs.Said.{arguments_in, is_printable}
use Rattle.hv_words.proofs.Unambiguous.{same_arguments, no_misfit, same_misfit, first_is}
use Rattle.hv_words.proofs.FoundLemmas.{arguments_told, printable_decided}
use Rattle.hv_words.proofs.PrintLemmas.{printed}
use Rattle.hv_guest_words.specs.Table.{Table, BeginsBy, GivesBy, IsNoCommandBy, HasBadWordBy, SaysBy, IsReadUnlessMemory, AreReadAlike, text_by, or_none, arguments_said_by, row_said_by, words_said_by, said_by}

-- arguments that fit a row make a command of it
pub record IsMadeBy {N C : Type 0} (table : Table N C) (name : N) (given : List Argument) : Type 0 where
  pub command : C
  pub is : table.command_with name given ≡ Some command
  pub row_is : table.name_of command ≡ name
  pub arguments_are : table.arguments_of command ≡ given

-- in a sound table two words name one row at most, and a row with arguments is one command
pub record IsSound {N C : Type 0} (table : Table N C) : Type 0 where
  pub finds : (name : N) → table.row_with (table.row_named name).family (table.row_named name).name ≡ Some name
  pub found : (family name : List ℕ) (row : N) → table.row_with family name ≡ Some row → (family ≡ (table.row_named row).family) × (name ≡ (table.row_named row).name)
  pub makes : (c : C) → table.command_with (table.name_of c) (table.arguments_of c) ≡ Some c
  pub made : (name : N) (ws : List (List ℕ)) (given : List Argument) → FitAll (table.row_named name).kinds ws given → IsMadeBy table name given

-- a line begins with one row at most, and with its words behind it
one_row : {N C : Type 0} (table : Table N C) → IsSound table → (line : List ℕ) (one other : N) (h : BeginsBy table line one) (k : BeginsBy table line other) → (other ≡ one) × (k.rest ≡ h.rest)
one_row table sound line one other h k =
    let e = first_is (words line) (table.row_named one).family (table.row_named other).family (table.row_named one).name (table.row_named other).name h.rest k.rest h.words_are k.words_are in
    let both : Some one ≡ Some other =
    sym (sound.finds one) ∙ ap (λ (f : List ℕ). table.row_with f (table.row_named one).name) e.0 ∙ ap (λ (n : List ℕ). table.row_with (table.row_named other).family n) e.1 ∙ sound.finds other in
    let same : one ≡ other = cc both in
    (sym same, sym e.2)

one_command : {N C : Type 0} (table : Table N C) → IsSound table → (line : List ℕ) (c d : C) → GivesBy table line c → GivesBy table line d → c ≡ d
one_command table sound line c d h k =
    let e = one_row table sound line (table.name_of c) (table.name_of d) h.begins k.begins in
    let there : FitAll (table.row_named (table.name_of c)).kinds h.begins.rest (table.arguments_of d) =
    subst (λ (ws : List (List ℕ)). FitAll (table.row_named (table.name_of c)).kinds ws (table.arguments_of d)) e.1 (subst (λ n. FitAll (table.row_named n).kinds k.begins.rest (table.arguments_of d)) e.0 k.fit) in
    let given : table.arguments_of c ≡ table.arguments_of d = same_arguments (table.row_named (table.name_of c)).kinds h.begins.rest (table.arguments_of c) (table.arguments_of d) h.fit there in
    let both : Some c ≡ Some d =
    sym (sound.makes c) ∙ ap (λ (as' : List Argument). table.command_with (table.name_of c) as') given ∙ ap (λ n. table.command_with n (table.arguments_of d)) (sym e.0) ∙ sound.makes d in
    cc both

no_row : {N C : Type 0} (table : Table N C) (line : List ℕ) (name : N) → IsPrintable line → BeginsBy table line name → IsNoCommandBy table line → ⊥
no_row table line name printable begins (inl none) = none printable
no_row table line name printable begins (inr none) = none name begins

no_bad_word : {N C : Type 0} (table : Table N C) → IsSound table → (line : List ℕ) (c : C) (n : ℕ) → GivesBy table line c → HasBadWordBy table line n → ⊥
no_bad_word table sound line c n h bad =
    let e = one_row table sound line (table.name_of c) bad.name h.begins bad.begins in
    let misfit : IsMisfit (table.row_named (table.name_of c)).kinds h.begins.rest 3 n =
    subst (λ (ws : List (List ℕ)). IsMisfit (table.row_named (table.name_of c)).kinds ws 3 n) e.1 (subst (λ r. IsMisfit (table.row_named r).kinds bad.begins.rest 3 n) e.0 bad.misfit) in
    no_misfit (table.row_named (table.name_of c)).kinds h.begins.rest (table.arguments_of c) 3 n h.fit misfit

one_bad_word : {N C : Type 0} (table : Table N C) → IsSound table → (line : List ℕ) (m n : ℕ) → HasBadWordBy table line m → HasBadWordBy table line n → m ≡ n
one_bad_word table sound line m n h k =
    let e = one_row table sound line h.name k.name h.begins k.begins in
    let misfit : IsMisfit (table.row_named h.name).kinds h.begins.rest 3 n =
    subst (λ (ws : List (List ℕ)). IsMisfit (table.row_named h.name).kinds ws 3 n) e.1 (subst (λ r. IsMisfit (table.row_named r).kinds k.begins.rest 3 n) e.0 k.misfit) in
    same_misfit (table.row_named h.name).kinds h.begins.rest 3 m n h.misfit misfit

-- a line says one thing at most, unless memory ran out
pub agreed_by : {N C : Type 0} (table : Table N C) → IsSound table → (line : List ℕ) (one other : Result C WordsRefusal) → SaysBy table line one → SaysBy table line other → AreReadAlike one other
agreed_by table sound line (Ok c) (Ok d) h k = ap Ok (one_command table sound line c d h k)
agreed_by table sound line (Ok c) (Err refusal.NoCommand) h k = absurd (no_row table line (table.name_of c) h.printable h.begins k)
agreed_by table sound line (Ok c) (Err (refusal.BadWords n)) h k = absurd (no_bad_word table sound line c n h k)
agreed_by table sound line (Ok c) (Err (refusal.Memory e)) h k = tt
agreed_by table sound line (Err refusal.NoCommand) (Ok d) h k = absurd (no_row table line (table.name_of d) k.printable k.begins h)
agreed_by table sound line (Err refusal.NoCommand) (Err refusal.NoCommand) h k = refl
agreed_by table sound line (Err refusal.NoCommand) (Err (refusal.BadWords n)) h k = absurd (no_row table line k.name k.printable k.begins h)
agreed_by table sound line (Err refusal.NoCommand) (Err (refusal.Memory e)) h k = tt
agreed_by table sound line (Err (refusal.BadWords m)) (Ok d) h k = absurd (no_bad_word table sound line d m k h)
agreed_by table sound line (Err (refusal.BadWords m)) (Err refusal.NoCommand) h k = absurd (no_row table line h.name h.printable h.begins k)
agreed_by table sound line (Err (refusal.BadWords m)) (Err (refusal.BadWords n)) h k = ap (λ (i : ℕ). Err (refusal.BadWords i)) (one_bad_word table sound line m n h k)
agreed_by table sound line (Err (refusal.BadWords m)) (Err (refusal.Memory e)) h k = tt
agreed_by table sound line (Err (refusal.Memory e)) (Ok d) h k = tt
agreed_by table sound line (Err (refusal.Memory e)) (Err refusal.NoCommand) h k = tt
agreed_by table sound line (Err (refusal.Memory e)) (Err (refusal.BadWords n)) h k = tt
agreed_by table sound line (Err (refusal.Memory e)) (Err (refusal.Memory f)) h k = tt

-- the two words of a line are those of a row
pub begun_by : {N C : Type 0} (table : Table N C) → IsSound table → (line family name : List ℕ) (rest : List (List ℕ)) (row : N) → words line ≡ family ∷ name ∷ rest → table.row_with family name ≡ Some row
    → words line ≡ (table.row_named row).family ∷ (table.row_named row).name ∷ rest
begun_by table sound line family name rest row first found =
    let both = sound.found family name row found in
    cc (first, both.0, both.1)

-- a line whose first two words name no row gives no command
pub no_row_by : {N C : Type 0} (table : Table N C) → IsSound table → (line family name : List ℕ) (rest : List (List ℕ)) → words line ≡ family ∷ name ∷ rest → table.row_with family name ≡ None → IsNoCommandBy table line
no_row_by table sound line family name rest is none =
    inr (λ row begins.
    let e = first_is (words line) family (table.row_named row).family name (table.row_named row).name rest begins.rest is begins.words_are in
    let here : None ≡ Some row = sym none ∙ ap (λ (f : List ℕ). table.row_with f name) e.0 ∙ ap (λ (n : List ℕ). table.row_with (table.row_named row).family n) e.1 ∙ sound.finds row in
    absurd (cc here))

-- a line of less than two words gives no command
pub few_words : {N C : Type 0} (table : Table N C) (line : List ℕ) → words line ≡ [] → IsNoCommandBy table line
few_words table line is = inr (λ row begins. absurd (cc (is, begins.words_are)))

pub one_word : {N C : Type 0} (table : Table N C) (line family : List ℕ) → words line ≡ family ∷ [] → IsNoCommandBy table line
one_word table line family is = inr (λ row begins. absurd (cc (is, begins.words_are)))

arguments_say : {N C : Type 0} (table : Table N C) → IsSound table → (line family name : List ℕ) (rest : List (List ℕ)) (row : N) → IsPrintable line → words line ≡ family ∷ name ∷ rest → table.row_with family name ≡ Some row
    → (read : Result (List Argument) ℕ) → MatchResult read (λ given. FitAll (table.row_named row).kinds rest given) (λ n. IsMisfit (table.row_named row).kinds rest 3 n) → SaysBy table line (arguments_said_by table row read)
arguments_say table sound line family name rest row printable is found (Ok given) h =
    let m = sound.made row rest given h in
    let begun = begun_by table sound line family name rest row is found in
    let begins : BeginsBy table line (table.name_of m.command) = record { rest = rest; words_are = subst (λ r. words line ≡ (table.row_named r).family ∷ (table.row_named r).name ∷ rest) (sym m.row_is) begun } in
    let fits : FitAll (table.row_named (table.name_of m.command)).kinds rest (table.arguments_of m.command) =
    subst (λ r. FitAll (table.row_named r).kinds rest (table.arguments_of m.command)) (sym m.row_is) (subst (λ (as' : List Argument). FitAll (table.row_named row).kinds rest as') (sym m.arguments_are) h) in
    subst (λ o. SaysBy table line (or_none o)) (sym m.is) (record { printable = printable; begins = begins; fit = fits })
arguments_say table sound line family name rest row printable is found (Err n) h =
    record { printable = printable; name = row; begins = record { rest = rest; words_are = begun_by table sound line family name rest row is found }; misfit = h }

row_says : {N C : Type 0} (table : Table N C) → IsSound table → (line family name : List ℕ) (rest : List (List ℕ)) → IsPrintable line → words line ≡ family ∷ name ∷ rest → (o : Option N) → table.row_with family name ≡ o → SaysBy table line (row_said_by table o rest)
row_says table sound line family name rest printable is None none = no_row_by table sound line family name rest is none
row_says table sound line family name rest printable is (Some row) found =
    arguments_say table sound line family name rest row printable is found (arguments_in (table.row_named row).kinds rest 3) (arguments_told (table.row_named row).kinds rest 3)

words_say : {N C : Type 0} (table : Table N C) → IsSound table → (line : List ℕ) → IsPrintable line → (ws : List (List ℕ)) → words line ≡ ws → SaysBy table line (words_said_by table ws)
words_say table sound line printable [] is = few_words table line is
words_say table sound line printable (family ∷ []) is = one_word table line family is
words_say table sound line printable (family ∷ name ∷ rest) is = row_says table sound line family name rest printable is (table.row_with family name) refl

told_by : {N C : Type 0} (table : Table N C) → IsSound table → (line : List ℕ) → SaysBy table line (said_by table line)
told_by table sound line =
    elim (is_printable line) as (λ t. is_printable line ≡ t → SaysBy table line (cond t (words_said_by table (words line)) (Err refusal.NoCommand))) [
      | true ↦ λ is. words_say table sound line ((printable_decided line).0 is) (words line) refl
      | false ↦ λ is. inl (λ printable. true≢false (sym ((printable_decided line).1 printable) ∙ is))
    ] refl

-- what is told is never a want of memory
abbrev IsDefinite : {C : Type 0} → Result C WordsRefusal → Type 0
IsDefinite (Ok c) = Unit {0}
IsDefinite (Err refusal.NoCommand) = Unit {0}
IsDefinite (Err (refusal.BadWords n)) = Unit {0}
IsDefinite (Err (refusal.Memory e)) = ⊥

command_definite : {C : Type 0} (o : Option C) → IsDefinite (or_none o)
command_definite None = tt
command_definite (Some c) = tt

arguments_definite : {N C : Type 0} (table : Table N C) (row : N) (read : Result (List Argument) ℕ) → IsDefinite (arguments_said_by table row read)
arguments_definite table row (Ok given) = command_definite (table.command_with row given)
arguments_definite table row (Err n) = tt

row_definite : {N C : Type 0} (table : Table N C) (o : Option N) (rest : List (List ℕ)) → IsDefinite (row_said_by table o rest)
row_definite table None rest = tt
row_definite table (Some row) rest = arguments_definite table row (arguments_in (table.row_named row).kinds rest 3)

words_definite : {N C : Type 0} (table : Table N C) (ws : List (List ℕ)) → IsDefinite (words_said_by table ws)
words_definite table [] = tt
words_definite table (family ∷ []) = tt
words_definite table (family ∷ name ∷ rest) = row_definite table (table.row_with family name) rest

definite : {N C : Type 0} (table : Table N C) (line : List ℕ) → IsDefinite (said_by table line)
definite table line = elim (is_printable line) as (λ t. IsDefinite (cond t (words_said_by table (words line)) (Err refusal.NoCommand))) [
  | true ↦ words_definite table (words line)
  | false ↦ tt
]

pub never_memory : {N C : Type 0} (table : Table N C) (line : List ℕ) (e : AllocError) → said_by table line ≡ Err (refusal.Memory e) → ⊥
never_memory table line e is = subst IsDefinite is (definite table line)

alike_definite : {C : Type 0} (one other : Result C WordsRefusal) → IsDefinite other → AreReadAlike one other → IsReadUnlessMemory one other
alike_definite one (Ok c) known h = h
alike_definite one (Err refusal.NoCommand) known h = h
alike_definite one (Err (refusal.BadWords n)) known h = h
alike_definite one (Err (refusal.Memory e)) known h = absurd known

says_where_told : {N C : Type 0} (table : Table N C) → IsSound table → (line : List ℕ) (read : Result C WordsRefusal) → IsReadUnlessMemory read (said_by table line) → SaysBy table line read
says_where_told table sound line (Ok c) h = subst (SaysBy table line) (sym h) (told_by table sound line)
says_where_told table sound line (Err refusal.NoCommand) h = subst (SaysBy table line) (sym h) (told_by table sound line)
says_where_told table sound line (Err (refusal.BadWords n)) h = subst (SaysBy table line) (sym h) (told_by table sound line)
says_where_told table sound line (Err (refusal.Memory e)) h = tt

-- a line says what is told of it, and nothing else unless memory ran out
pub says_what_is_told_by : {N C : Type 0} (table : Table N C) → IsSound table → (line : List ℕ) (read : Result C WordsRefusal) → SaysBy table line read ↔ IsReadUnlessMemory read (said_by table line)
says_what_is_told_by table sound line read =
    (λ h. alike_definite read (said_by table line) (definite table line) (agreed_by table sound line read (said_by table line) h (told_by table sound line)), says_where_told table sound line read)

-- what some line gives is given by its printed line
pub gives_back_by : {N C : Type 0} (table : Table N C) (line : List ℕ) (c : C) → GivesBy table line c → GivesBy table (text_by table c) c
gives_back_by table line c h =
    let row = table.row_named (table.name_of c) in
    let back = printed line row.family row.name h.begins.rest row.kinds (table.arguments_of c) h.printable h.begins.words_are h.fit in
    record { printable = back.printable; begins = record { rest = map argument_text (table.arguments_of c); words_are = back.words_are }; fit = back.fit }
