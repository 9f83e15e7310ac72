-- A line says one thing at most.
use Rattle.std.proofs.Common.{◌≡◌, ℕ, ◌+◌, List, [], ◌∷◌, length, refl, sym, ap, subst, ◌∙◌, inl, inr, arith, length-append}
use Rattle.std.specs.Prelude.{Some, Result, Ok, Err, MatchResult}
use Rattle.hv_text.specs.Number.{number_of}
use Rattle.hv_text.specs.Path.{ArePathNames, slashed, path_text}
use Rattle.hv_text.proofs.Names.{path_text_same}
use Rattle.hv_words.specs.declared.command.Command.{Command}
use Rattle.hv_words.specs.declared.command.Command.TheVariants as command
use Rattle.hv_words.specs.declared.refusal.WordsRefusal.{WordsRefusal}
use Rattle.hv_words.specs.declared.refusal.WordsRefusal.TheVariants as refusal
use Rattle.hv_words.specs.declared.row.RowName.{RowName}
use Rattle.hv_words.specs.declared.row.RowName.TheVariants as row
use Rattle.hv_words.specs.Words.{words}
use Rattle.hv_words.specs.Text.{SpellsAll}
use Rattle.hv_words.specs.Commands.{Row, Kind, AnyPath, NamedPath, SomeText, RestCount, SomeWord, VcpuNumber, AnyAddress, ByteCount, Argument, PathGiven, TextGiven, NumberGiven, WordGiven, Fits, FitAll, IsMisfit, row_of, arguments_of, IsPrintable, Gives, BeginsRow, IsNoCommand, HasBadWord, Says}
use Rattle.hv_words.specs.Rows.{row_named, row_with, HasWords}
use Rattle.hv_words.specs.Arguments.{HasArguments, AreRefusedFrom, Agree}
use Rattle.hv_words.specs.Said.{command_with}
use Rattle.hv_words.proofs.TextLemmas.{same_byte, byte_is_some}

-- the name of a command's row
abbrev pub name_of : Command → RowName
name_of (command.VfsLs path) = row.VfsLs
name_of (command.VfsCat path) = row.VfsCat
name_of (command.VfsDts path) = row.VfsDts
name_of (command.VfsMkdir path) = row.VfsMkdir
name_of (command.VfsRm path) = row.VfsRm
name_of (command.VfsWrite path text) = row.VfsWrite
name_of (command.VfsAsm source target) = row.VfsAsm
name_of (command.VfsRun path) = row.VfsRun
name_of (command.TermRest count) = row.TermRest

row_by_name : (c : Command) → row_of c ≡ row_named (name_of c)
row_by_name (command.VfsLs path) = refl
row_by_name (command.VfsCat path) = refl
row_by_name (command.VfsDts path) = refl
row_by_name (command.VfsMkdir path) = refl
row_by_name (command.VfsRm path) = refl
row_by_name (command.VfsWrite path text) = refl
row_by_name (command.VfsAsm source target) = refl
row_by_name (command.VfsRun path) = refl
row_by_name (command.TermRest count) = refl

-- each row is that of some command
some_command : (name : RowName) → (c : Command) × (row_of c ≡ row_named name)
some_command row.VfsLs = (command.VfsLs [], refl)
some_command row.VfsCat = (command.VfsCat [], refl)
some_command row.VfsDts = (command.VfsDts [], refl)
some_command row.VfsMkdir = (command.VfsMkdir [], refl)
some_command row.VfsRm = (command.VfsRm [], refl)
some_command row.VfsWrite = (command.VfsWrite [] [], refl)
some_command row.VfsAsm = (command.VfsAsm [] [], refl)
some_command row.VfsRun = (command.VfsRun [], refl)
some_command row.TermRest = (command.TermRest 0, refl)

-- a row is found by its two words
pub row_found : (c : Command) → row_with (row_of c).family (row_of c).name ≡ Some (name_of c)
row_found (command.VfsLs path) = refl
row_found (command.VfsCat path) = refl
row_found (command.VfsDts path) = refl
row_found (command.VfsMkdir path) = refl
row_found (command.VfsRm path) = refl
row_found (command.VfsWrite path text) = refl
row_found (command.VfsAsm source target) = refl
row_found (command.VfsRun path) = refl
row_found (command.TermRest count) = refl

-- two rows with the same two words are one
same_name : (c d : Command) → (row_of c).family ≡ (row_of d).family → (row_of c).name ≡ (row_of d).name → name_of c ≡ name_of d
same_name c d families names =
    let both : Some (name_of c) ≡ Some (name_of d) = sym (row_found c) ∙ ap (λ (f : List ℕ). row_with f (row_of c).name) families ∙ ap (λ (n : List ℕ). row_with (row_of d).family n) names ∙ row_found d in
    cc both

same_row : (c d : Command) → (row_of c).family ≡ (row_of d).family → (row_of c).name ≡ (row_of d).name → row_of c ≡ row_of d
same_row c d families names = row_by_name c ∙ ap row_named (same_name c d families names) ∙ sym (row_by_name d)

command_found : (c : Command) → command_with (name_of c) (arguments_of c) ≡ Some c
command_found (command.VfsLs path) = refl
command_found (command.VfsCat path) = refl
command_found (command.VfsDts path) = refl
command_found (command.VfsMkdir path) = refl
command_found (command.VfsRm path) = refl
command_found (command.VfsWrite path text) = refl
command_found (command.VfsAsm source target) = refl
command_found (command.VfsRun path) = refl
command_found (command.TermRest count) = refl

same_command : (c d : Command) → name_of c ≡ name_of d → arguments_of c ≡ arguments_of d → c ≡ d
same_command c d names arguments =
    let both : Some c ≡ Some d = sym (command_found c) ∙ ap (λ (n : RowName). command_with n (arguments_of c)) names ∙ ap (λ (as' : List Argument). command_with (name_of d) as') arguments ∙ command_found d in
    cc both

-- two paths with one text are one
same_path : (p q : List (List ℕ)) → ArePathNames p → ArePathNames q → path_text p ≡ path_text q → p ≡ q
same_path [] [] h k e = refl
same_path [] (n ∷ ns) h k e = absurd (omega (arith, ap length e, length-append n (slashed ns), k.0.some))
same_path (n ∷ ns) [] h k e = absurd (omega (arith, ap length e, length-append n (slashed ns), h.0.some))
same_path (m ∷ ms) (n ∷ ns) h k e = path_text_same (m ∷ ms) (n ∷ ns) (omega arith) (omega arith) h k e

-- a word spells one text at most
same_text : (word bs cs : List ℕ) → SpellsAll word bs → SpellsAll word cs → bs ≡ cs
same_text word [] [] h k = refl
same_text word [] (c ∷ cs) h k = absurd (omega (arith, ap length h, byte_is_some word c k.1 (record { piece = k.0; text_is = k.2; spelled = k.3 })))
same_text word (b ∷ bs) [] h k = absurd (omega (arith, ap length k, byte_is_some word b h.1 (record { piece = h.0; text_is = h.2; spelled = h.3 })))
same_text word (b ∷ bs) (c ∷ cs) h k =
    let same = same_byte word b c h.1 k.1 (record { piece = h.0; text_is = h.2; spelled = h.3 }) (record { piece = k.0; text_is = k.2; spelled = k.3 }) in
    let rest : SpellsAll h.1 cs = subst (λ (t : List ℕ). SpellsAll t cs) (sym same.1) k.4 in
    cc (same.0, same_text h.1 bs cs h.4 rest)

same_number : (word : List ℕ) (m n : ℕ) → number_of word ≡ Ok m → number_of word ≡ Ok n → NumberGiven m ≡ NumberGiven n
same_number word m n h k =
    let both : Ok m ≡ Ok n = sym h ∙ k in
    ap NumberGiven (cc both)

-- what a kind gives is made of its content
abbrev pub Content : Kind → Type 0
Content AnyPath = List (List ℕ)
Content NamedPath = List (List ℕ)
Content SomeText = List ℕ
Content RestCount = ℕ
Content SomeWord = List ℕ
Content VcpuNumber = ℕ
Content AnyAddress = ℕ
Content ByteCount = ℕ

abbrev pub argument_with : (k : Kind) → Content k → Argument
argument_with AnyPath path = PathGiven path
argument_with NamedPath path = PathGiven path
argument_with SomeText bytes = TextGiven bytes
argument_with RestCount n = NumberGiven n
argument_with SomeWord word = WordGiven word
argument_with VcpuNumber n = NumberGiven n
argument_with AnyAddress n = NumberGiven n
argument_with ByteCount n = NumberGiven n

-- what fits a kind is made of its content
pub content_of : (k : Kind) (word : List ℕ) (a : Argument) → Fits k word a → (x : Content k) × (a ≡ argument_with k x)
content_of AnyPath word (PathGiven x) h = (x, refl)
content_of AnyPath word (TextGiven x) h = absurd h
content_of AnyPath word (NumberGiven x) h = absurd h
content_of AnyPath word (WordGiven x) h = absurd h
content_of NamedPath word (PathGiven x) h = (x, refl)
content_of NamedPath word (TextGiven x) h = absurd h
content_of NamedPath word (NumberGiven x) h = absurd h
content_of NamedPath word (WordGiven x) h = absurd h
content_of SomeText word (TextGiven x) h = (x, refl)
content_of SomeText word (PathGiven x) h = absurd h
content_of SomeText word (NumberGiven x) h = absurd h
content_of SomeText word (WordGiven x) h = absurd h
content_of RestCount word (NumberGiven x) h = (x, refl)
content_of RestCount word (PathGiven x) h = absurd h
content_of RestCount word (TextGiven x) h = absurd h
content_of RestCount word (WordGiven x) h = absurd h
content_of SomeWord word (WordGiven x) h = (x, refl)
content_of SomeWord word (PathGiven x) h = absurd h
content_of SomeWord word (TextGiven x) h = absurd h
content_of SomeWord word (NumberGiven x) h = absurd h
content_of VcpuNumber word (NumberGiven x) h = (x, refl)
content_of VcpuNumber word (PathGiven x) h = absurd h
content_of VcpuNumber word (TextGiven x) h = absurd h
content_of VcpuNumber word (WordGiven x) h = absurd h
content_of AnyAddress word (NumberGiven x) h = (x, refl)
content_of AnyAddress word (PathGiven x) h = absurd h
content_of AnyAddress word (TextGiven x) h = absurd h
content_of AnyAddress word (WordGiven x) h = absurd h
content_of ByteCount word (NumberGiven x) h = (x, refl)
content_of ByteCount word (PathGiven x) h = absurd h
content_of ByteCount word (TextGiven x) h = absurd h
content_of ByteCount word (WordGiven x) h = absurd h

-- a word gives one content of a kind at most
same_content : (k : Kind) (word : List ℕ) (x y : Content k) → Fits k word (argument_with k x) → Fits k word (argument_with k y) → argument_with k x ≡ argument_with k y
same_content AnyPath word p q h k = ap PathGiven (same_path p q h.0.names k.0.names (sym h.1 ∙ k.1))
same_content NamedPath word p q h k = ap PathGiven (same_path p q h.0.names k.0.names (sym h.2 ∙ k.2))
same_content SomeText word s t h k = ap TextGiven (same_text word s t h.spelled k.spelled)
same_content RestCount word m n h k = same_number word m n h.0 k.0
same_content SomeWord word v w h k = ap WordGiven (h ∙ sym k)
same_content VcpuNumber word m n h k = same_number word m n h.0 k.0
same_content AnyAddress word m n h k = same_number word m n h k
same_content ByteCount word m n h k = same_number word m n h.0 k.0

-- a word gives one argument of a kind at most
same_argument : (k : Kind) (word : List ℕ) (a b : Argument) → Fits k word a → Fits k word b → a ≡ b
same_argument k word a b h i =
    let x = content_of k word a h in
    let y = content_of k word b i in
    x.1 ∙ same_content k word x.0 y.0 (subst (Fits k word) x.1 h) (subst (Fits k word) y.1 i) ∙ sym y.1

pub same_arguments : (ks : List Kind) (ws : List (List ℕ)) (one other : List Argument) → FitAll ks ws one → FitAll ks ws other → one ≡ other
same_arguments [] [] [] [] h k = refl
same_arguments [] [] [] (b ∷ bs) h k = absurd k
same_arguments [] [] (a ∷ one) other h k = absurd h
same_arguments [] (w ∷ ws) one other h k = absurd h
same_arguments (x ∷ ks) [] one other h k = absurd h
same_arguments (x ∷ ks) (w ∷ ws) [] other h k = absurd h
same_arguments (x ∷ ks) (w ∷ ws) (a ∷ one) [] h k = absurd k
same_arguments (x ∷ ks) (w ∷ ws) (a ∷ one) (b ∷ other) h k = cc (same_argument x w a b h.0 k.0, same_arguments ks ws one other h.1 k.1)

-- words that fit have no misfit
pub no_misfit : (ks : List Kind) (ws : List (List ℕ)) (given : List Argument) (at n : ℕ) → FitAll ks ws given → IsMisfit ks ws at n → ⊥
no_misfit [] [] given at n h m = m
no_misfit [] (w ∷ ws) given at n h m = h
no_misfit (k ∷ ks) [] given at n h m = h
no_misfit (k ∷ ks) (w ∷ ws) [] at n h m = h
no_misfit (k ∷ ks) (w ∷ ws) (a ∷ given) at n h (inl m) = m.0 a h.0
no_misfit (k ∷ ks) (w ∷ ws) (a ∷ given) at n h (inr m) = no_misfit ks ws given (at + 1) n h.1 m.2

-- words have one first misfit at most
pub same_misfit : (ks : List Kind) (ws : List (List ℕ)) (at m n : ℕ) → IsMisfit ks ws at m → IsMisfit ks ws at n → m ≡ n
same_misfit [] [] at m n h k = absurd h
same_misfit [] (w ∷ ws) at m n h k = h ∙ sym k
same_misfit (x ∷ ks) [] at m n h k = h ∙ sym k
same_misfit (x ∷ ks) (w ∷ ws) at m n (inl h) (inl k) = h.1 ∙ sym k.1
same_misfit (x ∷ ks) (w ∷ ws) at m n (inl h) (inr k) = absurd (h.0 k.0 k.1)
same_misfit (x ∷ ks) (w ∷ ws) at m n (inr h) (inl k) = absurd (k.0 h.0 h.1)
same_misfit (x ∷ ks) (w ∷ ws) at m n (inr h) (inr k) = same_misfit ks ws (at + 1) m n h.2 k.2

-- two lists with the same first two words
pub first_is : (ws : List (List ℕ)) (f g m n : List ℕ) (xs ys : List (List ℕ)) → ws ≡ f ∷ m ∷ xs → ws ≡ g ∷ n ∷ ys → (f ≡ g) × (m ≡ n) × (xs ≡ ys)
first_is ws f g m n xs ys h k = (cc, cc, cc)

one_command : (line : List ℕ) (c d : Command) → Gives line c → Gives line d → c ≡ d
one_command line c d h k =
    let e = first_is (words line) (row_of c).family (row_of d).family (row_of c).name (row_of d).name h.arguments k.arguments h.words_are k.words_are in
    let rows : row_of d ≡ row_of c = sym (same_row c d e.0 e.1) in
    let there : FitAll (row_of c).kinds h.arguments (arguments_of d) =
    subst (λ (ws : List (List ℕ)). FitAll (row_of c).kinds ws (arguments_of d)) (sym e.2) (subst (λ (r : Row). FitAll r.kinds k.arguments (arguments_of d)) rows k.fit) in
    same_command c d (same_name c d e.0 e.1) (same_arguments (row_of c).kinds h.arguments (arguments_of c) (arguments_of d) h.fit there)

no_row : (line : List ℕ) (row : Row) → IsPrintable line → BeginsRow line row → IsNoCommand line → ⊥
no_row line row printable begins (inl none) = none printable
no_row line row printable begins (inr none) = none row begins

abbrev gives_row : (line : List ℕ) (c : Command) → Gives line c → BeginsRow line (row_of c)
gives_row line c h = record { row_is = (c, refl); rest = h.arguments; words_are = h.words_are }

-- a line begins with one row at most, and with its words behind it
one_row : (line : List ℕ) (one other : Row) (h : BeginsRow line one) (k : BeginsRow line other) → (other ≡ one) × (k.rest ≡ h.rest)
one_row line one other h k =
    let c = h.row_is.0 in
    let d = k.row_is.0 in
    let e = first_is (words line) one.family other.family one.name other.name h.rest k.rest h.words_are k.words_are in
    let families : (row_of c).family ≡ (row_of d).family = ap (λ (r : Row). r.family) h.row_is.1 ∙ e.0 ∙ sym (ap (λ (r : Row). r.family) k.row_is.1) in
    let names : (row_of c).name ≡ (row_of d).name = ap (λ (r : Row). r.name) h.row_is.1 ∙ e.1 ∙ sym (ap (λ (r : Row). r.name) k.row_is.1) in
    (sym k.row_is.1 ∙ sym (same_row c d families names) ∙ h.row_is.1, sym e.2)

no_bad_word : (line : List ℕ) (c : Command) (n : ℕ) → Gives line c → HasBadWord line n → ⊥
no_bad_word line c n h bad =
    let e = one_row line (row_of c) bad.row (gives_row line c h) bad.begins in
    let misfit : IsMisfit (row_of c).kinds h.arguments 3 n =
    subst (λ (ws : List (List ℕ)). IsMisfit (row_of c).kinds ws 3 n) e.1 (subst (λ (r : Row). IsMisfit r.kinds bad.begins.rest 3 n) e.0 bad.misfit) in
    no_misfit (row_of c).kinds h.arguments (arguments_of c) 3 n h.fit misfit

one_bad_word : (line : List ℕ) (m n : ℕ) → HasBadWord line m → HasBadWord line n → m ≡ n
one_bad_word line m n h k =
    let e = one_row line h.row k.row h.begins k.begins in
    let misfit : IsMisfit h.row.kinds h.begins.rest 3 n =
    subst (λ (ws : List (List ℕ)). IsMisfit h.row.kinds ws 3 n) e.1 (subst (λ (r : Row). IsMisfit r.kinds k.begins.rest 3 n) e.0 k.misfit) in
    same_misfit h.row.kinds h.begins.rest 3 m n h.misfit misfit

-- a line says one thing at most, unless memory ran out
pub agreed : (line : List ℕ) (one other : Result Command WordsRefusal) → Says line one → Says line other → Agree one other
agreed line (Ok c) (Ok d) h k = ap Ok (one_command line c d h k)
agreed line (Ok c) (Err refusal.NoCommand) h k = absurd (no_row line (row_of c) h.printable (gives_row line c h) k)
agreed line (Ok c) (Err (refusal.BadWords n)) h k = absurd (no_bad_word line c n h k)
agreed line (Ok c) (Err (refusal.Memory e)) h k = tt
agreed line (Err refusal.NoCommand) (Ok d) h k = absurd (no_row line (row_of d) k.printable (gives_row line d k) h)
agreed line (Err refusal.NoCommand) (Err refusal.NoCommand) h k = refl
agreed line (Err refusal.NoCommand) (Err (refusal.BadWords n)) h k = absurd (no_row line k.row k.printable k.begins h)
agreed line (Err refusal.NoCommand) (Err (refusal.Memory e)) h k = tt
agreed line (Err (refusal.BadWords m)) (Ok d) h k = absurd (no_bad_word line d m k h)
agreed line (Err (refusal.BadWords m)) (Err refusal.NoCommand) h k = absurd (no_row line h.row h.printable h.begins k)
agreed line (Err (refusal.BadWords m)) (Err (refusal.BadWords n)) h k = ap (λ (i : ℕ). Err (refusal.BadWords i)) (one_bad_word line m n h k)
agreed line (Err (refusal.BadWords m)) (Err (refusal.Memory e)) h k = tt
agreed line (Err (refusal.Memory e)) (Ok d) h k = tt
agreed line (Err (refusal.Memory e)) (Err refusal.NoCommand) h k = tt
agreed line (Err (refusal.Memory e)) (Err (refusal.BadWords n)) h k = tt
agreed line (Err (refusal.Memory e)) (Err (refusal.Memory f)) h k = tt

row_begun : (line family name : List ℕ) (rest : List (List ℕ)) (row : RowName) → words line ≡ family ∷ name ∷ rest → HasWords row family name → words line ≡ (row_named row).family ∷ (row_named row).name ∷ rest
row_begun line family name rest row first has = cc (first, has.family_is, has.name_is)

-- what the words behind those of a row are read as is what the line says
pub said_by_words : (line family name : List ℕ) (rest : List (List ℕ)) (row : RowName) → IsPrintable line → words line ≡ family ∷ name ∷ rest → HasWords row family name
    → (r : Result Command WordsRefusal) → MatchResult r (λ c. HasArguments (row_named row) rest c) (λ e. AreRefusedFrom (row_named row).kinds rest 3 e) → Says line r
said_by_words line family name rest row printable first has (Ok c) h =
    let begun = row_begun line family name rest row first has in
    record {
      printable = printable;
      arguments = rest;
      words_are = subst (λ (r : Row). words line ≡ r.family ∷ r.name ∷ rest) (sym h.row_is) begun;
      fit = subst (λ (r : Row). FitAll r.kinds rest (arguments_of c)) (sym h.row_is) h.fit;
    }
said_by_words line family name rest row printable first has (Err refusal.NoCommand) h = absurd h
said_by_words line family name rest row printable first has (Err (refusal.BadWords n)) h =
    record {
      printable = printable;
      row = row_named row;
      begins = record { row_is = some_command row; rest = rest; words_are = row_begun line family name rest row first has };
      misfit = h;
    }
said_by_words line family name rest row printable first has (Err (refusal.Memory e)) h = tt

-- what the arguments of a row are read as is what the line says
pub said_by_row : (line family behind name rest : List ℕ) (row : RowName) → IsPrintable line → words line ≡ family ∷ words behind → words behind ≡ name ∷ words rest → HasWords row family name
    → (r : Result Command WordsRefusal) → MatchResult r (λ c. HasArguments (row_named row) (words rest) c) (λ e. AreRefusedFrom (row_named row).kinds (words rest) 3 e) → Says line r
said_by_row line family behind name rest row printable first second has r h =
    said_by_words line family name (words rest) row printable (first ∙ ap (λ (ws : List (List ℕ)). family ∷ ws) second) has r h
