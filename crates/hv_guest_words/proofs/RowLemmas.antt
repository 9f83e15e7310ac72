-- The table of the commands on guests is sound.
use Rattle.std.proofs.Common.{◌≡◌, ℕ, Bool, true, false, cond, ◌&&◌, List, [], ◌∷◌, refl, sym, ap, subst, ◌∙◌}
use Rattle.std.specs.Prelude.{Some, Result, Ok, Err, MatchResult}
use Rattle.std.specs.Cmp.Lexicographic.{bytes_decides}
use Rattle.std.proofs.lemmas.Bool.{and_parts}
use Rattle.hv_words.specs.declared.refusal.WordsRefusal.{WordsRefusal}
use Rattle.hv_words.specs.declared.refusal.WordsRefusal.TheVariants as refusal
use Rattle.hv_words.specs.Words.{words}
use Rattle.hv_words.specs.Commands.{Kind, AnyPath, SomeText, SomeWord, VcpuNumber, AnyAddress, ByteCount, Argument, FitAll, IsPrintable}
use Rattle.hv_words.specs.Rows.{is_word}
use Rattle.hv_words.specs.Arguments.{AreRefusedFrom}
use Rattle.hv_words.proofs.Unambiguous.{Content, argument_with}
use Rattle.hv_words.proofs.SaidLemmas.{one_content, more_content}
use Rattle.hv_guest_words.specs.declared.command.Change.{Change}
use Rattle.hv_guest_words.specs.declared.command.Change.TheVariants as change
use Rattle.hv_guest_words.specs.declared.command.GuestCommand.TheVariants as guest
use Rattle.hv_guest_words.specs.declared.command.VcpuCommand.TheVariants as vcpu
use Rattle.hv_guest_words.specs.declared.command.SerialCommand.TheVariants as serial
use Rattle.hv_guest_words.specs.declared.command.GuestLineCommand.{GuestLineCommand}
use Rattle.hv_guest_words.specs.declared.command.GuestLineCommand.TheVariants as line
use Rattle.hv_guest_words.specs.declared.row.RowName.{RowName}
use Rattle.hv_guest_words.specs.declared.row.RowName.TheVariants as row
use Rattle.hv_guest_words.specs.Table.{BeginsBy}
use Rattle.hv_guest_words.specs.GuestRows.{row_named, row_in, row_with, all_rows}
use Rattle.hv_guest_words.specs.GuestCommands.{name_of, arguments_of, command_with, guest_table, HasArguments, Says}
use Rattle.hv_guest_words.proofs.TableLemmas.{IsMadeBy, IsSound, begun_by}

guest_change_found : (c : Change) → row_with (row_named (row.GuestChange c)).family (row_named (row.GuestChange c)).name ≡ Some (row.GuestChange c)
guest_change_found change.Kick = refl
guest_change_found change.Resume = refl
guest_change_found change.Pause = refl
guest_change_found change.Halt = refl
guest_change_found change.Reset = refl

vcpu_change_found : (c : Change) → row_with (row_named (row.VcpuChange c)).family (row_named (row.VcpuChange c)).name ≡ Some (row.VcpuChange c)
vcpu_change_found change.Kick = refl
vcpu_change_found change.Resume = refl
vcpu_change_found change.Pause = refl
vcpu_change_found change.Halt = refl
vcpu_change_found change.Reset = refl

-- a row is found by its two words
row_found : (name : RowName) → row_with (row_named name).family (row_named name).name ≡ Some name
row_found row.Load = refl
row_found row.GuestList = refl
row_found row.GuestCreate = refl
row_found row.GuestDestroy = refl
row_found (row.GuestChange c) = guest_change_found c
row_found row.GuestRegionAdd = refl
row_found row.GuestRegionDel = refl
row_found row.GuestRegions = refl
row_found row.GuestMem = refl
row_found row.VcpuList = refl
row_found (row.VcpuChange c) = vcpu_change_found c
row_found row.VcpuDump = refl
row_found row.SerialSend = refl
row_found row.SerialDump = refl

-- a row that is found has the words by which it is found
found_here : (r : RowName) (rs : List RowName) (family name : List ℕ) (n : RowName) → ((m : RowName) → row_in rs family name ≡ Some m → (family ≡ (row_named m).family) × (name ≡ (row_named m).name))
    → (t : Bool) → (is_word family (row_named r).family && is_word name (row_named r).name) ≡ t → cond t (Some r) (row_in rs family name) ≡ Some n → (family ≡ (row_named n).family) × (name ≡ (row_named n).name)
found_here r rs family name n later true is e =
    let same : r ≡ n = cc e in
    let both = and_parts (is_word family (row_named r).family) (is_word name (row_named r).name) is in
    subst (λ (m : RowName). (family ≡ (row_named m).family) × (name ≡ (row_named m).name)) same
    ((bytes_decides family (row_named r).family).0 both.0, (bytes_decides name (row_named r).name).0 both.1)
found_here r rs family name n later false is e = later n e

found_in : (rs : List RowName) (family name : List ℕ) (n : RowName) → row_in rs family name ≡ Some n → (family ≡ (row_named n).family) × (name ≡ (row_named n).name)
found_in [] family name n e = absurd (cc e)
found_in (r ∷ rs) family name n e =
    found_here r rs family name n (λ m later. found_in rs family name m later) (is_word family (row_named r).family && is_word name (row_named r).name) refl e

-- each command is that of its row with its arguments
command_found : (c : GuestLineCommand) → command_with (name_of c) (arguments_of c) ≡ Some c
command_found (line.Load name path address) = refl
command_found (line.Guest guest.List) = refl
command_found (line.Guest (guest.Create name)) = refl
command_found (line.Guest (guest.Destroy name)) = refl
command_found (line.Guest (guest.Change change name)) = refl
command_found (line.Guest (guest.RegionAdd name region)) = refl
command_found (line.Guest (guest.RegionDel name region)) = refl
command_found (line.Guest (guest.Regions name)) = refl
command_found (line.Guest (guest.Mem name address count)) = refl
command_found (line.Vcpu vcpu.List) = refl
command_found (line.Vcpu (vcpu.Change change number)) = refl
command_found (line.Vcpu (vcpu.Dump number)) = refl
command_found (line.Serial (serial.Send name region text)) = refl
command_found (line.Serial (serial.Dump name region)) = refl

-- the command of a row whose arguments fit no kind, one, two or three
no_content : (ws : List (List ℕ)) (given : List Argument) → FitAll [] ws given → given ≡ []
no_content [] [] h = refl
no_content [] (a ∷ given) h = absurd h
no_content (w ∷ ws) given h = absurd h

made_of_none : (name : RowName) (c : GuestLineCommand) → command_with name [] ≡ Some c → name_of c ≡ name → arguments_of c ≡ [] → (ws : List (List ℕ)) (given : List Argument) → FitAll [] ws given → IsMadeBy guest_table name given
made_of_none name c found of_row with_arguments ws given h =
    let none = no_content ws given h in
    record { command = c; is = ap (command_with name) none ∙ found; row_is = of_row; arguments_are = with_arguments ∙ sym none }

made_of_one : (name : RowName) (k : Kind) (make : Content k → GuestLineCommand) → ((x : Content k) → command_with name (argument_with k x ∷ []) ≡ Some (make x)) → ((x : Content k) → name_of (make x) ≡ name)
    → ((x : Content k) → arguments_of (make x) ≡ argument_with k x ∷ []) → (ws : List (List ℕ)) (given : List Argument) → FitAll (k ∷ []) ws given → IsMadeBy guest_table name given
made_of_one name k make found of_row with_arguments ws given h =
    let x = one_content k ws given h in
    record { command = make x.0; is = ap (command_with name) x.1 ∙ found x.0; row_is = of_row x.0; arguments_are = with_arguments x.0 ∙ sym x.1 }

made_of_two : (name : RowName) (k l : Kind) (make : Content k → Content l → GuestLineCommand)
    → ((x : Content k) (y : Content l) → command_with name (argument_with k x ∷ argument_with l y ∷ []) ≡ Some (make x y)) → ((x : Content k) (y : Content l) → name_of (make x y) ≡ name)
    → ((x : Content k) (y : Content l) → arguments_of (make x y) ≡ argument_with k x ∷ argument_with l y ∷ []) → (ws : List (List ℕ)) (given : List Argument) → FitAll (k ∷ l ∷ []) ws given → IsMadeBy guest_table name given
made_of_two name k l make found of_row with_arguments ws given h =
    let x = more_content k l [] ws given h in
    let y = one_content l x.1 x.2 x.4 in
    let both : given ≡ argument_with k x.0 ∷ argument_with l y.0 ∷ [] = x.3 ∙ ap (λ (later : List Argument). argument_with k x.0 ∷ later) y.1 in
    record { command = make x.0 y.0; is = ap (command_with name) both ∙ found x.0 y.0; row_is = of_row x.0 y.0; arguments_are = with_arguments x.0 y.0 ∙ sym both }

made_of_three : (name : RowName) (k l m : Kind) (make : Content k → Content l → Content m → GuestLineCommand)
    → ((x : Content k) (y : Content l) (z : Content m) → command_with name (argument_with k x ∷ argument_with l y ∷ argument_with m z ∷ []) ≡ Some (make x y z)) → ((x : Content k) (y : Content l) (z : Content m) → name_of (make x y z) ≡ name)
    → ((x : Content k) (y : Content l) (z : Content m) → arguments_of (make x y z) ≡ argument_with k x ∷ argument_with l y ∷ argument_with m z ∷ []) → (ws : List (List ℕ)) (given : List Argument) → FitAll (k ∷ l ∷ m ∷ []) ws given → IsMadeBy guest_table name given
made_of_three name k l m make found of_row with_arguments ws given h =
    let x = more_content k l (m ∷ []) ws given h in
    let y = more_content l m [] x.1 x.2 x.4 in
    let z = one_content m y.1 y.2 y.4 in
    let all : given ≡ argument_with k x.0 ∷ argument_with l y.0 ∷ argument_with m z.0 ∷ [] =
    x.3 ∙ ap (λ (later : List Argument). argument_with k x.0 ∷ later) (y.3 ∙ ap (λ (later : List Argument). argument_with l y.0 ∷ later) z.1) in
    record { command = make x.0 y.0 z.0; is = ap (command_with name) all ∙ found x.0 y.0 z.0; row_is = of_row x.0 y.0 z.0; arguments_are = with_arguments x.0 y.0 z.0 ∙ sym all }

made : (name : RowName) (ws : List (List ℕ)) (given : List Argument) → FitAll (row_named name).kinds ws given → IsMadeBy guest_table name given
made row.Load ws given h = made_of_three row.Load SomeWord AnyPath AnyAddress line.Load (λ x y z. refl) (λ x y z. refl) (λ x y z. refl) ws given h
made row.GuestList ws given h = made_of_none row.GuestList (line.Guest guest.List) refl refl refl ws given h
made row.GuestCreate ws given h = made_of_one row.GuestCreate SomeWord (λ x. line.Guest (guest.Create x)) (λ x. refl) (λ x. refl) (λ x. refl) ws given h
made row.GuestDestroy ws given h = made_of_one row.GuestDestroy SomeWord (λ x. line.Guest (guest.Destroy x)) (λ x. refl) (λ x. refl) (λ x. refl) ws given h
made (row.GuestChange c) ws given h = made_of_one (row.GuestChange c) SomeWord (λ x. line.Guest (guest.Change c x)) (λ x. refl) (λ x. refl) (λ x. refl) ws given h
made row.GuestRegionAdd ws given h = made_of_two row.GuestRegionAdd SomeWord SomeWord (λ x y. line.Guest (guest.RegionAdd x y)) (λ x y. refl) (λ x y. refl) (λ x y. refl) ws given h
made row.GuestRegionDel ws given h = made_of_two row.GuestRegionDel SomeWord SomeWord (λ x y. line.Guest (guest.RegionDel x y)) (λ x y. refl) (λ x y. refl) (λ x y. refl) ws given h
made row.GuestRegions ws given h = made_of_one row.GuestRegions SomeWord (λ x. line.Guest (guest.Regions x)) (λ x. refl) (λ x. refl) (λ x. refl) ws given h
made row.GuestMem ws given h = made_of_three row.GuestMem SomeWord AnyAddress ByteCount (λ x y z. line.Guest (guest.Mem x y z)) (λ x y z. refl) (λ x y z. refl) (λ x y z. refl) ws given h
made row.VcpuList ws given h = made_of_none row.VcpuList (line.Vcpu vcpu.List) refl refl refl ws given h
made (row.VcpuChange c) ws given h = made_of_one (row.VcpuChange c) VcpuNumber (λ x. line.Vcpu (vcpu.Change c x)) (λ x. refl) (λ x. refl) (λ x. refl) ws given h
made row.VcpuDump ws given h = made_of_one row.VcpuDump VcpuNumber (λ x. line.Vcpu (vcpu.Dump x)) (λ x. refl) (λ x. refl) (λ x. refl) ws given h
made row.SerialSend ws given h = made_of_three row.SerialSend SomeWord SomeWord SomeText (λ x y z. line.Serial (serial.Send x y z)) (λ x y z. refl) (λ x y z. refl) (λ x y z. refl) ws given h
made row.SerialDump ws given h = made_of_two row.SerialDump SomeWord SomeWord (λ x y. line.Serial (serial.Dump x y)) (λ x y. refl) (λ x y. refl) (λ x y. refl) ws given h

pub guests_sound : IsSound guest_table
guests_sound = record { finds = row_found; found = found_in all_rows; makes = command_found; made = made }

-- what the arguments of a row are read as is what the line says
pub said_by_row : (line family behind name rest : List ℕ) (row : RowName) → IsPrintable line → words line ≡ family ∷ words behind → words behind ≡ name ∷ words rest → row_with family name ≡ Some row
    → (r : Result GuestLineCommand WordsRefusal) → MatchResult r (λ c. HasArguments row (words rest) c) (λ e. AreRefusedFrom (row_named row).kinds (words rest) 3 e) → Says line r
said_by_row line family behind name rest row printable first second found (Ok c) h =
    let both = first ∙ ap (λ (ws : List (List ℕ)). family ∷ ws) second in
    let begun = begun_by guest_table guests_sound line family name (words rest) row both found in
    let begins : BeginsBy guest_table line (name_of c) = record { rest = words rest; words_are = subst (λ (r : RowName). words line ≡ (row_named r).family ∷ (row_named r).name ∷ words rest) (sym h.row_is) begun } in
    let fits : FitAll (row_named (name_of c)).kinds (words rest) (arguments_of c) = subst (λ (r : RowName). FitAll (row_named r).kinds (words rest) (arguments_of c)) (sym h.row_is) h.fit in
    record { printable = printable; begins = begins; fit = fits }
said_by_row line family behind name rest row printable first second found (Err refusal.NoCommand) h = absurd h
said_by_row line family behind name rest row printable first second found (Err (refusal.BadWords n)) h =
    let both = first ∙ ap (λ (ws : List (List ℕ)). family ∷ ws) second in
    record {
      printable = printable;
      name = row;
      begins = record { rest = words rest; words_are = begun_by guest_table guests_sound line family name (words rest) row both found };
      misfit = h;
    }
said_by_row line family behind name rest row printable first second found (Err (refusal.Memory e)) h = tt
