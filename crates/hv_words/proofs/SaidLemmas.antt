-- What the function tells of a line is what the line says.
use Rattle.std.proofs.Common.{◌≡◌, ◌↔◌, ℕ, Bool, true, false, cond, List, [], ◌∷◌, refl, sym, ap, subst, ◌∙◌, inl, inr}
use Rattle.std.specs.Prelude.{Option, Some, None, Result, Ok, Err, MatchResult, codes}
use Rattle.std.specs.Cmp.Lexicographic.{bytes_decides}
use Rattle.std.proofs.lemmas.Bool.{true≢false}
use Rattle.std.specs.declared.alloc.AllocError.{AllocError}
use Rattle.hv_words.specs.declared.command.Command.{Command}
use Rattle.hv_words.specs.declared.command.Command.TheVariants as command
use Rattle.hv_words.specs.declared.refusal.WordsRefusal.{WordsRefusal}
use Rattle.hv_words.specs.declared.refusal.WordsRefusal.TheVariants as refusal
use Rattle.hv_words.specs.declared.row.RowName.{RowName}
use Rattle.hv_words.specs.declared.row.RowName.TheVariants as row
use Rattle.hv_words.specs.Words.{words}
use Rattle.hv_words.specs.Commands.{Row, Kind, AnyPath, NamedPath, SomeText, RestCount, Argument, FitAll, IsMisfit, row_of, arguments_of, IsPrintable, Says}
use Rattle.hv_words.specs.Rows.{row_named, row_with, file_row, rest_row, is_word, HasWords}
use Rattle.hv_words.specs.Arguments.{IsUnlessMemory, Agree}
use Rattle.hv_words.specs.Said.{arguments_in, command_with, or_no_command, said_by_arguments, said_by_row, said_by_words, is_printable, said}
use Rattle.hv_words.proofs.FoundLemmas.{arguments_told, printable_decided}
use Rattle.hv_words.proofs.Unambiguous.{agreed, row_found, Content, argument_with, content_of}
use Rattle.hv_words.proofs.Unambiguous as once

-- arguments that fit one kind, and one more
pub one_content : (k : Kind) (ws : List (List ℕ)) (given : List Argument) → FitAll (k ∷ []) ws given → (x : Content k) × (given ≡ argument_with k x ∷ [])
one_content k [] given h = absurd h
one_content k (w ∷ ws) [] h = absurd h
one_content k (w ∷ []) (a ∷ []) h = let x = content_of k w a h.0 in (x.0, ap (λ (b : Argument). b ∷ []) x.1)
one_content k (w ∷ []) (a ∷ b ∷ given) h = absurd (h.1)
one_content k (w ∷ v ∷ ws) (a ∷ given) h = absurd (h.1)

pub more_content : (k l : Kind) (ks : List Kind) (ws : List (List ℕ)) (given : List Argument) → FitAll (k ∷ l ∷ ks) ws given
    → (x : Content k) × (vs : List (List ℕ)) × (later : List Argument) × (given ≡ argument_with k x ∷ later) × FitAll (l ∷ ks) vs later
more_content k l ks [] given h = absurd h
more_content k l ks (w ∷ ws) [] h = absurd h
more_content k l ks (w ∷ ws) (a ∷ given) h = let x = content_of k w a h.0 in (x.0, ws, given, ap (λ (b : Argument). b ∷ given) x.1, h.1)

-- the arguments of a row make a command of it
record IsMade (name : RowName) (given : List Argument) : Type 0 where
  command : Command
  is : command_with name given ≡ Some command
  row_is : row_of command ≡ row_named name
  arguments_are : arguments_of command ≡ given

made_of_one : (name : RowName) (k : Kind) (make : Content k → Command) → ((x : Content k) → command_with name (argument_with k x ∷ []) ≡ Some (make x)) → ((x : Content k) → row_of (make x) ≡ row_named name)
    → ((x : Content k) → arguments_of (make x) ≡ argument_with k x ∷ []) → (ws : List (List ℕ)) (given : List Argument) → FitAll (k ∷ []) ws given → IsMade name given
made_of_one name k make found of_row with_arguments ws given h =
    let x = one_content k ws given h in
    record { command = make x.0; is = ap (command_with name) x.1 ∙ found x.0; row_is = of_row x.0; arguments_are = with_arguments x.0 ∙ sym x.1 }

made_of_two : (name : RowName) (k l : Kind) (make : Content k → Content l → Command)
    → ((x : Content k) (y : Content l) → command_with name (argument_with k x ∷ argument_with l y ∷ []) ≡ Some (make x y)) → ((x : Content k) (y : Content l) → row_of (make x y) ≡ row_named name)
    → ((x : Content k) (y : Content l) → arguments_of (make x y) ≡ argument_with k x ∷ argument_with l y ∷ []) → (ws : List (List ℕ)) (given : List Argument) → FitAll (k ∷ l ∷ []) ws given → IsMade name given
made_of_two name k l make found of_row with_arguments ws given h =
    let x = more_content k l [] ws given h in
    let y = one_content l x.1 x.2 x.4 in
    let both : given ≡ argument_with k x.0 ∷ argument_with l y.0 ∷ [] = x.3 ∙ ap (λ (later : List Argument). argument_with k x.0 ∷ later) y.1 in
    record { command = make x.0 y.0; is = ap (command_with name) both ∙ found x.0 y.0; row_is = of_row x.0 y.0; arguments_are = with_arguments x.0 y.0 ∙ sym both }

made : (name : RowName) (ws : List (List ℕ)) (given : List Argument) → FitAll (row_named name).kinds ws given → IsMade name given
made row.VfsLs ws given h = made_of_one row.VfsLs AnyPath command.VfsLs (λ x. refl) (λ x. refl) (λ x. refl) ws given h
made row.VfsCat ws given h = made_of_one row.VfsCat AnyPath command.VfsCat (λ x. refl) (λ x. refl) (λ x. refl) ws given h
made row.VfsDts ws given h = made_of_one row.VfsDts AnyPath command.VfsDts (λ x. refl) (λ x. refl) (λ x. refl) ws given h
made row.VfsMkdir ws given h = made_of_one row.VfsMkdir NamedPath command.VfsMkdir (λ x. refl) (λ x. refl) (λ x. refl) ws given h
made row.VfsRm ws given h = made_of_one row.VfsRm NamedPath command.VfsRm (λ x. refl) (λ x. refl) (λ x. refl) ws given h
made row.VfsWrite ws given h = made_of_two row.VfsWrite NamedPath SomeText command.VfsWrite (λ x y. refl) (λ x y. refl) (λ x y. refl) ws given h
made row.VfsAsm ws given h = made_of_two row.VfsAsm AnyPath NamedPath command.VfsAsm (λ x y. refl) (λ x y. refl) (λ x y. refl) ws given h
made row.VfsRun ws given h = made_of_one row.VfsRun AnyPath command.VfsRun (λ x. refl) (λ x. refl) (λ x. refl) ws given h
made row.TermRest ws given h = made_of_one row.TermRest RestCount command.TermRest (λ x. refl) (λ x. refl) (λ x. refl) ws given h

-- a row that is found has the words by which it is found
chosen : (P : RowName → Type 0) (this : RowName) (other : Option RowName) (t : Bool) → (t ≡ true → P this) → ((r : RowName) → other ≡ Some r → P r) → (r : RowName) → cond t (Some this) other ≡ Some r → P r
chosen P this other true here there r e = let same : this ≡ r = cc e in subst P same (here refl)
chosen P this other false here there r e = there r e

named : (family name known : List ℕ) (this : RowName) (other : Option RowName) → family ≡ (row_named this).family → known ≡ (row_named this).name → ((r : RowName) → other ≡ Some r → HasWords r family name)
    → (r : RowName) → cond (is_word name known) (Some this) other ≡ Some r → HasWords r family name
named family name known this other families names there r e =
    chosen (λ n. HasWords n family name) this other (is_word name known) (λ is. record { family_is = families; name_is = (bytes_decides name known).0 is ∙ names }) there r e

file_named : (name : List ℕ) (r : RowName) → file_row name ≡ Some r → HasWords r (codes "vfs") name
file_named name r e =
    let vfs = codes "vfs" in
    let run : Option RowName = cond (is_word name (codes "run")) (Some row.VfsRun) None in
    let asm : Option RowName = cond (is_word name (codes "asm")) (Some row.VfsAsm) run in
    let write : Option RowName = cond (is_word name (codes "write")) (Some row.VfsWrite) asm in
    let rm : Option RowName = cond (is_word name (codes "rm")) (Some row.VfsRm) write in
    let mkdir : Option RowName = cond (is_word name (codes "mkdir")) (Some row.VfsMkdir) rm in
    let dts : Option RowName = cond (is_word name (codes "dts")) (Some row.VfsDts) mkdir in
    let cat : Option RowName = cond (is_word name (codes "cat")) (Some row.VfsCat) dts in
    named vfs name (codes "ls") row.VfsLs cat refl refl
    (named vfs name (codes "cat") row.VfsCat dts refl refl
    (named vfs name (codes "dts") row.VfsDts mkdir refl refl
    (named vfs name (codes "mkdir") row.VfsMkdir rm refl refl
    (named vfs name (codes "rm") row.VfsRm write refl refl
    (named vfs name (codes "write") row.VfsWrite asm refl refl
    (named vfs name (codes "asm") row.VfsAsm run refl refl
    (named vfs name (codes "run") row.VfsRun None refl refl (λ n none. absurd (cc none))))))))) r e

rest_named : (name : List ℕ) (r : RowName) → rest_row name ≡ Some r → HasWords r (codes "term") name
rest_named name r e = named (codes "term") name (codes "rest") row.TermRest None refl refl (λ n none. absurd (cc none)) r e

of_family : (family name known : List ℕ) (rows other : Option RowName) → (t : Bool) → is_word family known ≡ t → ((r : RowName) → rows ≡ Some r → HasWords r known name) → ((r : RowName) → other ≡ Some r → HasWords r family name)
    → (r : RowName) → cond t rows other ≡ Some r → HasWords r family name
of_family family name known rows other true is here there r e =
    subst (λ (f : List ℕ). HasWords r f name) (sym ((bytes_decides family known).0 is)) (here r e)
of_family family name known rows other false is here there r e = there r e

row_has_words : (family name : List ℕ) (r : RowName) → row_with family name ≡ Some r → HasWords r family name
row_has_words family name r e =
    let term : Option RowName = cond (is_word family (codes "term")) (rest_row name) None in
    of_family family name (codes "vfs") (file_row name) term (is_word family (codes "vfs")) refl (file_named name)
    (λ n other. of_family family name (codes "term") (rest_row name) None (is_word family (codes "term")) refl (rest_named name) (λ m none. absurd (cc none)) n other) r e

-- the arguments of a row
by_arguments : (line family name : List ℕ) (rest : List (List ℕ)) (r : RowName) → IsPrintable line → words line ≡ family ∷ name ∷ rest → HasWords r family name
    → (read : Result (List Argument) ℕ) → MatchResult read (λ given. FitAll (row_named r).kinds rest given) (λ n. IsMisfit (row_named r).kinds rest 3 n) → Says line (said_by_arguments r read)
by_arguments line family name rest r printable is has (Ok given) h =
    let m = made r rest given h in
    subst (λ (o : Option Command). Says line (or_no_command o)) (sym m.is)
    (once.said_by_words line family name rest r printable is has (Ok m.command) (record { row_is = m.row_is; fit = subst (λ (as' : List Argument). FitAll (row_named r).kinds rest as') (sym m.arguments_are) h }))
by_arguments line family name rest r printable is has (Err n) h =
    once.said_by_words line family name rest r printable is has (Err (refusal.BadWords n)) h

by_row : (line family name : List ℕ) (rest : List (List ℕ)) → IsPrintable line → words line ≡ family ∷ name ∷ rest → (o : Option RowName) → row_with family name ≡ o → Says line (said_by_row o rest)
by_row line family name rest printable is None none =
    inr (λ row begins.
    let c = begins.row_is.0 in
    let families : family ≡ row.family = cc (is, begins.words_are) in
    let names : name ≡ row.name = cc (is, begins.words_are) in
    let found : row_with row.family row.name ≡ Some (once.name_of c) = subst (λ (r : Row). row_with r.family r.name ≡ Some (once.name_of c)) begins.row_is.1 (row_found c) in
    let here : None ≡ Some (once.name_of c) = sym none ∙ ap (λ (f : List ℕ). row_with f name) families ∙ ap (λ (n : List ℕ). row_with row.family n) names ∙ found in
    absurd (cc here))
by_row line family name rest printable is (Some r) found =
    by_arguments line family name rest r printable is (row_has_words family name r found) (arguments_in (row_named r).kinds rest 3) (arguments_told (row_named r).kinds rest 3)

by_words : (line : List ℕ) → IsPrintable line → (ws : List (List ℕ)) → words line ≡ ws → Says line (said_by_words ws)
by_words line printable [] is = inr (λ row begins. absurd (cc (is, begins.words_are)))
by_words line printable (family ∷ []) is = inr (λ row begins. absurd (cc (is, begins.words_are)))
by_words line printable (family ∷ name ∷ rest) is = by_row line family name rest printable is (row_with family name) refl

told : (line : List ℕ) → Says line (said line)
told line =
    elim (is_printable line) as (λ t. is_printable line ≡ t → Says line (cond t (said_by_words (words line)) (Err refusal.NoCommand))) [
      | true ↦ λ is. by_words line ((printable_decided line).0 is) (words line) refl
      | false ↦ λ is. inl (λ printable. true≢false (sym ((printable_decided line).1 printable) ∙ is))
    ] refl

-- what is told is never a want of memory
abbrev IsDefinite : Result Command WordsRefusal → Type 0
IsDefinite (Ok c) = Unit {0}
IsDefinite (Err refusal.NoCommand) = Unit {0}
IsDefinite (Err (refusal.BadWords n)) = Unit {0}
IsDefinite (Err (refusal.Memory e)) = ⊥

command_definite : (o : Option Command) → IsDefinite (or_no_command o)
command_definite None = tt
command_definite (Some c) = tt

arguments_definite : (r : RowName) (read : Result (List Argument) ℕ) → IsDefinite (said_by_arguments r read)
arguments_definite r (Ok given) = command_definite (command_with r given)
arguments_definite r (Err n) = tt

row_definite : (o : Option RowName) (rest : List (List ℕ)) → IsDefinite (said_by_row o rest)
row_definite None rest = tt
row_definite (Some r) rest = arguments_definite r (arguments_in (row_named r).kinds rest 3)

words_definite : (ws : List (List ℕ)) → IsDefinite (said_by_words ws)
words_definite [] = tt
words_definite (family ∷ []) = tt
words_definite (family ∷ name ∷ rest) = row_definite (row_with family name) rest

definite : (line : List ℕ) → IsDefinite (said line)
definite line = elim (is_printable line) as (λ t. IsDefinite (cond t (said_by_words (words line)) (Err refusal.NoCommand))) [
  | true ↦ words_definite (words line)
  | false ↦ tt
]

pub never_memory : (line : List ℕ) (e : AllocError) → said line ≡ Err (refusal.Memory e) → ⊥
never_memory line e is = subst IsDefinite is (definite line)

agreed_with_definite : (one other : Result Command WordsRefusal) → IsDefinite other → Agree one other → IsUnlessMemory one other
agreed_with_definite one (Ok c) known h = h
agreed_with_definite one (Err refusal.NoCommand) known h = h
agreed_with_definite one (Err (refusal.BadWords n)) known h = h
agreed_with_definite one (Err (refusal.Memory e)) known h = absurd known

said_where_told : (line : List ℕ) (read : Result Command WordsRefusal) → IsUnlessMemory read (said line) → Says line read
said_where_told line (Ok c) h = subst (Says line) (sym h) (told line)
said_where_told line (Err refusal.NoCommand) h = subst (Says line) (sym h) (told line)
said_where_told line (Err (refusal.BadWords n)) h = subst (Says line) (sym h) (told line)
said_where_told line (Err (refusal.Memory e)) h = tt

-- a line says what is told of it, and nothing else unless memory ran out
pub says_what_is_told : (line : List ℕ) (read : Result Command WordsRefusal) → Says line read ↔ IsUnlessMemory read (said line)
says_what_is_told line read = (λ h. agreed_with_definite read (said line) (definite line) (agreed line read (said line) h (told line)), said_where_told line read)
