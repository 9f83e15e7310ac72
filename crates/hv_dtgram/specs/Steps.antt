-- How a reader goes from symbol to symbol.
use Rattle.std.specs.Prelude.{ℕ, zero, suc, Option, Some, None}
use Rattle.hv_dtgram.specs.declared.symbol.Symbol.{Symbol}
use Rattle.hv_dtgram.specs.declared.symbol.Symbol.TheVariants as on
use Rattle.hv_dtgram.specs.declared.symbol.State.{State}
use Rattle.hv_dtgram.specs.declared.symbol.State.TheVariants as at

-- what was read last, and in how many nodes below the root
abbrev pub Place : Type 0
Place = State × ℕ

abbrev pub step : State → ℕ → Symbol → Option Place
step at.Nothing d on.Version = Some (at.Version, d)
step at.Version d on.Semicolon = Some (at.VersionEnd, d)
step at.VersionEnd d on.Root = Some (at.Root, d)
step at.Root d on.NodeOpen = Some (at.Body, d)
step at.Body d on.Label = Some (at.BodyLabel, d)
step at.Body d on.PropName = Some (at.PropName, d)
step at.Body d on.NodeName = Some (at.NodeName, d)
step at.Body d on.EitherName = Some (at.EitherName, d)
step at.Body d on.NodeClose = Some (at.NodeClose, d)
step at.BodyLabel d on.Label = Some (at.BodyLabel, d)
step at.BodyLabel d on.PropName = Some (at.PropName, d)
step at.BodyLabel d on.NodeName = Some (at.NodeName, d)
step at.BodyLabel d on.EitherName = Some (at.EitherName, d)
step at.Nodes d on.Label = Some (at.NodeLabel, d)
step at.Nodes d on.NodeName = Some (at.NodeName, d)
step at.Nodes d on.EitherName = Some (at.NodeName, d)
step at.Nodes d on.NodeClose = Some (at.NodeClose, d)
step at.NodeLabel d on.Label = Some (at.NodeLabel, d)
step at.NodeLabel d on.NodeName = Some (at.NodeName, d)
step at.NodeLabel d on.EitherName = Some (at.NodeName, d)
step at.PropName d on.Equals = Some (at.ValueMark, d)
step at.PropName d on.Semicolon = Some (at.Body, d)
step at.NodeName d on.NodeOpen = Some (at.Body, suc d)
step at.EitherName d on.Equals = Some (at.ValueMark, d)
step at.EitherName d on.Semicolon = Some (at.Body, d)
step at.EitherName d on.NodeOpen = Some (at.Body, suc d)
step at.ValueMark d on.CellsOpen = Some (at.Cells, d)
step at.ValueMark d on.Text = Some (at.ValueEnd, d)
step at.ValueMark d on.BytesOpen = Some (at.Bytes, d)
step at.ValueMark d on.Reference = Some (at.ValueEnd, d)
step at.Cells d on.Number = Some (at.Cells, d)
step at.Cells d on.Reference = Some (at.Cells, d)
step at.Cells d on.CellsClose = Some (at.ValueEnd, d)
step at.Bytes d on.Pair = Some (at.Bytes, d)
step at.Bytes d on.BytesClose = Some (at.ValueEnd, d)
step at.ValueEnd d on.Comma = Some (at.ValueMark, d)
step at.ValueEnd d on.Semicolon = Some (at.Body, d)
step at.NodeClose zero on.Semicolon = Some (at.All, zero)
step at.NodeClose (suc d) on.Semicolon = Some (at.Nodes, d)
step state d symbol = None

-- the steps at marks that one symbol alone may follow
abbrev pub heading_step : State → ℕ → Symbol → Option Place
heading_step at.Nothing d symbol = step at.Nothing d symbol
heading_step at.Version d symbol = step at.Version d symbol
heading_step at.VersionEnd d symbol = step at.VersionEnd d symbol
heading_step at.Root d symbol = step at.Root d symbol
heading_step at.NodeName d symbol = step at.NodeName d symbol
heading_step state d symbol = None
