-- The rows of commands on guests.
use Rattle.std.specs.Prelude.{ℕ, ◌&&◌, if◌then◌else◌, List, [], ◌∷◌, codes, Option, Some, None}
use Rattle.hv_words.specs.Commands.{Row, AnyPath, SomeText, SomeWord, VcpuNumber, AnyAddress, ByteCount}
use Rattle.hv_words.specs.Rows.{is_word}
use Rattle.hv_guest_words.specs.declared.command.Change.{Change}
use Rattle.hv_guest_words.specs.declared.command.Change.TheVariants as change
use Rattle.hv_guest_words.specs.declared.row.RowName.{RowName}
use Rattle.hv_guest_words.specs.declared.row.RowName.TheVariants as row

-- the word of a change
abbrev pub change_word : Change → List ℕ
change_word change.Kick = codes "kick"
change_word change.Resume = codes "resume"
change_word change.Pause = codes "pause"
change_word change.Halt = codes "halt"
change_word change.Reset = codes "reset"

-- the row of a name
abbrev pub row_named : RowName → Row
row_named row.Load = record { family = codes "vfs"; name = codes "guest_load"; kinds = SomeWord ∷ AnyPath ∷ AnyAddress ∷ [] }
row_named row.GuestList = record { family = codes "guest"; name = codes "list"; kinds = [] }
row_named row.GuestCreate = record { family = codes "guest"; name = codes "create"; kinds = SomeWord ∷ [] }
row_named row.GuestDestroy = record { family = codes "guest"; name = codes "destroy"; kinds = SomeWord ∷ [] }
row_named (row.GuestChange change) = record { family = codes "guest"; name = change_word change; kinds = SomeWord ∷ [] }
row_named row.GuestRegionAdd = record { family = codes "guest"; name = codes "region_add"; kinds = SomeWord ∷ SomeWord ∷ [] }
row_named row.GuestRegionDel = record { family = codes "guest"; name = codes "region_del"; kinds = SomeWord ∷ SomeWord ∷ [] }
row_named row.GuestRegions = record { family = codes "guest"; name = codes "regions"; kinds = SomeWord ∷ [] }
row_named row.GuestMem = record { family = codes "guest"; name = codes "mem"; kinds = SomeWord ∷ AnyAddress ∷ ByteCount ∷ [] }
row_named row.VcpuList = record { family = codes "vcpu"; name = codes "list"; kinds = [] }
row_named (row.VcpuChange change) = record { family = codes "vcpu"; name = change_word change; kinds = VcpuNumber ∷ [] }
row_named row.VcpuDump = record { family = codes "vcpu"; name = codes "dump"; kinds = VcpuNumber ∷ [] }
row_named row.SerialSend = record { family = codes "vserial"; name = codes "send"; kinds = SomeWord ∷ SomeWord ∷ SomeText ∷ [] }
row_named row.SerialDump = record { family = codes "vserial"; name = codes "dump"; kinds = SomeWord ∷ SomeWord ∷ [] }

-- every row
abbrev pub all_rows : List RowName
all_rows =
    row.Load ∷ row.GuestList ∷ row.GuestCreate ∷ row.GuestDestroy
    ∷ row.GuestChange change.Kick ∷ row.GuestChange change.Resume ∷ row.GuestChange change.Pause ∷ row.GuestChange change.Halt
    ∷ row.GuestChange change.Reset ∷ row.GuestRegionAdd ∷ row.GuestRegionDel ∷ row.GuestRegions ∷ row.GuestMem ∷ row.VcpuList
    ∷ row.VcpuChange change.Kick ∷ row.VcpuChange change.Resume ∷ row.VcpuChange change.Pause ∷ row.VcpuChange change.Halt
    ∷ row.VcpuChange change.Reset ∷ row.VcpuDump ∷ row.SerialSend ∷ row.SerialDump ∷ []

-- the first of some rows that has these first two words
abbrev pub row_in : List RowName → List ℕ → List ℕ → Option RowName
row_in [] family name = None
row_in (r ∷ rs) family name =
    if is_word family (row_named r).family && is_word name (row_named r).name then Some r else row_in rs family name

-- the row with these first two words
abbrev pub row_with : List ℕ → List ℕ → Option RowName
row_with family name = row_in all_rows family name
