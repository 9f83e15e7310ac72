-- The commands on guests.
use Rattle.std.specs.Prelude.{◌≡◌, ℕ, List, [], ◌∷◌, Option, Some, None, Result}
use Rattle.hv_words.specs.declared.refusal.WordsRefusal.{WordsRefusal}
use Rattle.hv_words.specs.Commands.{Argument, PathGiven, TextGiven, NumberGiven, WordGiven, FitAll}
use Rattle.hv_guest_words.specs.declared.command.GuestCommand.TheVariants as guest
use Rattle.hv_guest_words.specs.declared.command.VcpuCommand.TheVariants as vcpu
use Rattle.hv_guest_words.specs.declared.command.SerialCommand.TheVariants as serial
use Rattle.hv_guest_words.specs.declared.command.GuestLineCommand.{GuestLineCommand}
use Rattle.hv_guest_words.specs.declared.command.GuestLineCommand.TheVariants as line
use Rattle.hv_guest_words.specs.declared.row.RowName.{RowName}
use Rattle.hv_guest_words.specs.declared.row.RowName.TheVariants as row
use Rattle.hv_guest_words.specs.Table.{Table, SaysBy, GivesBy, text_by, said_by}
use Rattle.hv_guest_words.specs.GuestRows.{row_named, row_with}

-- the name of a command's row
abbrev pub name_of : GuestLineCommand → RowName
name_of (line.Load name path address) = row.Load
name_of (line.Guest guest.List) = row.GuestList
name_of (line.Guest (guest.Create name)) = row.GuestCreate
name_of (line.Guest (guest.Destroy name)) = row.GuestDestroy
name_of (line.Guest (guest.Change change name)) = row.GuestChange change
name_of (line.Guest (guest.RegionAdd name region)) = row.GuestRegionAdd
name_of (line.Guest (guest.RegionDel name region)) = row.GuestRegionDel
name_of (line.Guest (guest.Regions name)) = row.GuestRegions
name_of (line.Guest (guest.Mem name address count)) = row.GuestMem
name_of (line.Vcpu vcpu.List) = row.VcpuList
name_of (line.Vcpu (vcpu.Change change number)) = row.VcpuChange change
name_of (line.Vcpu (vcpu.Dump number)) = row.VcpuDump
name_of (line.Serial (serial.Send name region text)) = row.SerialSend
name_of (line.Serial (serial.Dump name region)) = row.SerialDump

-- what the arguments of a command give
abbrev pub arguments_of : GuestLineCommand → List Argument
arguments_of (line.Load name path address) = WordGiven name ∷ PathGiven path ∷ NumberGiven address ∷ []
arguments_of (line.Guest guest.List) = []
arguments_of (line.Guest (guest.Create name)) = WordGiven name ∷ []
arguments_of (line.Guest (guest.Destroy name)) = WordGiven name ∷ []
arguments_of (line.Guest (guest.Change change name)) = WordGiven name ∷ []
arguments_of (line.Guest (guest.RegionAdd name region)) = WordGiven name ∷ WordGiven region ∷ []
arguments_of (line.Guest (guest.RegionDel name region)) = WordGiven name ∷ WordGiven region ∷ []
arguments_of (line.Guest (guest.Regions name)) = WordGiven name ∷ []
arguments_of (line.Guest (guest.Mem name address count)) = WordGiven name ∷ NumberGiven address ∷ NumberGiven count ∷ []
arguments_of (line.Vcpu vcpu.List) = []
arguments_of (line.Vcpu (vcpu.Change change number)) = NumberGiven number ∷ []
arguments_of (line.Vcpu (vcpu.Dump number)) = NumberGiven number ∷ []
arguments_of (line.Serial (serial.Send name region text)) = WordGiven name ∷ WordGiven region ∷ TextGiven text ∷ []
arguments_of (line.Serial (serial.Dump name region)) = WordGiven name ∷ WordGiven region ∷ []

-- the command of a row with these arguments
abbrev pub command_with : RowName → List Argument → Option GuestLineCommand
command_with row.Load (WordGiven name ∷ PathGiven path ∷ NumberGiven address ∷ []) = Some (line.Load name path address)
command_with row.GuestList [] = Some (line.Guest guest.List)
command_with row.GuestCreate (WordGiven name ∷ []) = Some (line.Guest (guest.Create name))
command_with row.GuestDestroy (WordGiven name ∷ []) = Some (line.Guest (guest.Destroy name))
command_with (row.GuestChange change) (WordGiven name ∷ []) = Some (line.Guest (guest.Change change name))
command_with row.GuestRegionAdd (WordGiven name ∷ WordGiven region ∷ []) = Some (line.Guest (guest.RegionAdd name region))
command_with row.GuestRegionDel (WordGiven name ∷ WordGiven region ∷ []) = Some (line.Guest (guest.RegionDel name region))
command_with row.GuestRegions (WordGiven name ∷ []) = Some (line.Guest (guest.Regions name))
command_with row.GuestMem (WordGiven name ∷ NumberGiven address ∷ NumberGiven count ∷ []) = Some (line.Guest (guest.Mem name address count))
command_with row.VcpuList [] = Some (line.Vcpu vcpu.List)
command_with (row.VcpuChange change) (NumberGiven number ∷ []) = Some (line.Vcpu (vcpu.Change change number))
command_with row.VcpuDump (NumberGiven number ∷ []) = Some (line.Vcpu (vcpu.Dump number))
command_with row.SerialSend (WordGiven name ∷ WordGiven region ∷ TextGiven text ∷ []) = Some (line.Serial (serial.Send name region text))
command_with row.SerialDump (WordGiven name ∷ WordGiven region ∷ []) = Some (line.Serial (serial.Dump name region))
command_with _ _ = None

-- the table of the commands on guests
abbrev pub guest_table : Table RowName GuestLineCommand
guest_table = record {
  row_named = row_named;
  row_with = row_with;
  name_of = name_of;
  arguments_of = arguments_of;
  command_with = command_with;
}

-- a command of a row with these words as its arguments
pub record HasArguments (name : RowName) (ws : List (List ℕ)) (c : GuestLineCommand) : Type 0 where
  pub row_is : name_of c ≡ name
  pub fit : FitAll (row_named name).kinds ws (arguments_of c)

-- a line gives a command on guests
abbrev pub Gives : List ℕ → GuestLineCommand → Type 0
Gives line c = GivesBy guest_table line c

-- what a line is read as
abbrev pub Says : List ℕ → Result GuestLineCommand WordsRefusal → Type 0
Says line read = SaysBy guest_table line read

-- what a line is read as, told by a function
abbrev pub said : List ℕ → Result GuestLineCommand WordsRefusal
said line = said_by guest_table line

-- the line that a command is printed as
abbrev pub command_text : GuestLineCommand → List ℕ
command_text c = text_by guest_table c
