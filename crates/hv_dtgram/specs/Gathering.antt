-- How entries are gathered piece by piece.
use Rattle.std.specs.Prelude.{[], ◌∷◌, ◌++◌, true, false, if◌then◌else◌, Option, Some, None, List}
use Rattle.hv_dtgram.specs.Contents.{Piece, mark, label, word, number, text, pair, reference}
use Rattle.hv_dtgram.specs.declared.symbol.Symbol.TheVariants as on
use Rattle.hv_dtgram.specs.declared.contents.Named.{Named}
use Rattle.hv_dtgram.specs.declared.contents.Cell.TheVariants as cell
use Rattle.hv_dtgram.specs.declared.contents.Value.TheVariants as value
use Rattle.hv_dtgram.specs.declared.contents.Entry.TheVariants as entry
use Rattle.hv_dtgram.specs.declared.gathered.Gathered.{Gathered}

-- nothing was read
abbrev pub nothing_gathered : Gathered
nothing_gathered = record { labels = []; name = None; values = []; cells = []; in_cells = false; bytes = []; entries = [] }

-- a node begins, where a name was read
abbrev pub opened : Gathered → Option Named → Gathered
opened it None = it
opened it (Some name) = record it { labels = []; name = None; entries = it.entries ++ entry.Open it.labels name ∷ [] }

-- a property ends, where a name was read
abbrev pub ended : Gathered → Option Named → Gathered
ended it None = it
ended it (Some name) = record it { labels = []; name = None; values = []; entries = it.entries ++ entry.Property it.labels name it.values ∷ [] }

-- a piece is taken in
abbrev pub gather : Gathered → Piece → Gathered
gather it (label name) = record it { labels = it.labels ++ name ∷ [] }
gather it (word name) = record it { name = Some name }
gather it (number n) = record it { cells = it.cells ++ cell.Number n ∷ [] }
gather it (text bytes) = record it { values = it.values ++ value.Text bytes ∷ [] }
gather it (pair byte) = record it { bytes = it.bytes ++ byte ∷ [] }
gather it (reference name) =
    if it.in_cells then record it { cells = it.cells ++ cell.Phandle name ∷ [] } else record it { values = it.values ++ value.Path name ∷ [] }
gather it (mark on.CellsOpen) = record it { in_cells = true }
gather it (mark on.CellsClose) = record it { values = it.values ++ value.Cells it.cells ∷ []; cells = []; in_cells = false }
gather it (mark on.BytesClose) = record it { values = it.values ++ value.Bytes it.bytes ∷ []; bytes = [] }
gather it (mark on.NodeOpen) = opened it it.name
gather it (mark on.NodeClose) = record it { entries = it.entries ++ entry.Close ∷ [] }
gather it (mark on.Semicolon) = ended it it.name
gather it (mark other) = it

-- all but the last
abbrev pub without_last : {X : Type 0} → List X → List X
without_last [] = []
without_last (x ∷ []) = []
without_last (x ∷ y ∷ xs) = x ∷ without_last (y ∷ xs)
