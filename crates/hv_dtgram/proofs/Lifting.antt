-- A text whose symbols are those of a source is written with the pieces of one.
use Rattle.std.proofs.Common.{◌≡◌, ℕ, zero, suc, Bool, true, false, List, [], ◌∷◌, refl, sym, ap, subst, ◌∙◌}
use Rattle.std.specs.Prelude.{map}
use Rattle.std.specs.List.{AllByRecursion}
use Rattle.hv_dtlex.specs.declared.token.Token.{Token}
use Rattle.hv_dtlex.specs.declared.token.TokenKind.{TokenKind}
use Rattle.hv_dtlex.specs.declared.token.TokenKind.TheVariants as kind
use Rattle.hv_dtgram.specs.declared.symbol.Symbol.{Symbol}
use Rattle.hv_dtgram.specs.declared.symbol.Symbol.TheVariants as on
use Rattle.hv_dtgram.specs.declared.contents.Named.{Named}
use Rattle.hv_dtgram.specs.declared.contents.Cell.TheVariants as cell
use Rattle.hv_dtgram.specs.declared.contents.Value.TheVariants as value
use Rattle.hv_dtgram.specs.declared.contents.Entry.{Entry}
use Rattle.hv_dtgram.specs.declared.contents.Entry.TheVariants as entry
use Rattle.hv_dtgram.specs.Source.{SourceValue, cells, text, bytes, path, SourceProp, SourceNodes, none, more, labels_then, prop_name, node_name, cells_then, bytes_then, value_then, further_then, values_then, prop_then, props_then, nodes_then}
use Rattle.hv_dtgram.specs.Lexed.{token_text, is_prop_name, is_node_name, word_symbol, kind_symbol, symbols_of, IsSourceText}
use Rattle.hv_dtgram.specs.Contents as c
use Rattle.hv_dtgram.specs.Contents.{Piece, PropSyntax, NodesSyntax, SourceSyntax, kind_piece, piece_of, labels_pieces, cells_pieces, bytes_pieces, value_pieces, further_pieces, values_pieces, entry_pieces, entries_pieces, source_pieces, props_entries, nodes_entries, entries_of, IsWellNamed, IsWritten}

-- what a piece is whose token has a symbol
abbrev pub Fits : Symbol → Piece → Type 0
Fits on.Label piece = (name : Named) × (piece ≡ c.label name)
Fits on.PropName piece = (name : Named) × (piece ≡ c.word name) × (is_prop_name name.name ≡ true)
Fits on.NodeName piece = (name : Named) × (piece ≡ c.word name) × (is_node_name name.name ≡ true)
Fits on.EitherName piece = (name : Named) × (piece ≡ c.word name) × (is_prop_name name.name ≡ true) × (is_node_name name.name ≡ true)
Fits on.NoName piece = Unit {0}
Fits on.Number piece = (n : ℕ) × (piece ≡ c.number n)
Fits on.Text piece = (b : List ℕ) × (piece ≡ c.text b)
Fits on.Pair piece = (n : ℕ) × (piece ≡ c.pair n)
Fits on.Reference piece = (name : Named) × (piece ≡ c.reference name)
Fits other piece = piece ≡ c.mark other

word_fits : (name : Named) (prop node : Bool) → is_prop_name name.name ≡ prop → is_node_name name.name ≡ node → Fits (word_symbol name.name) (c.word name)
word_fits name true true p n = rw (p, n) (name, refl, p, n)
word_fits name true false p n = rw (p, n) (name, refl, p)
word_fits name false true p n = rw (p, n) (name, refl, n)
word_fits name false false p n = rw (p, n) tt

kind_fits : (k : TokenKind) (b : List ℕ) (place : ℕ) → Fits (kind_symbol k (word_symbol b)) (kind_piece k b place)
kind_fits kind.Version b place = refl
kind_fits kind.Root b place = refl
kind_fits kind.NodeOpen b place = refl
kind_fits kind.NodeClose b place = refl
kind_fits kind.Semicolon b place = refl
kind_fits kind.Equals b place = refl
kind_fits kind.Label b place = (_, refl)
kind_fits kind.Word b place = word_fits (record { name = b; place = place }) (is_prop_name b) (is_node_name b) refl refl
kind_fits kind.CellsOpen b place = refl
kind_fits kind.CellsClose b place = refl
kind_fits kind.BytesOpen b place = refl
kind_fits kind.BytesClose b place = refl
kind_fits kind.Comma b place = refl
kind_fits kind.Text b place = (_, refl)
kind_fits kind.Number b place = (_, refl)
kind_fits kind.Reference b place = (_, refl)
kind_fits kind.Pair b place = (_, refl)

-- pieces that fit symbols one by one
abbrev pub Fit : List Piece → List Symbol → Type 0
Fit [] [] = Unit {0}
Fit [] (s ∷ symbols) = ⊥
Fit (p ∷ pieces) [] = ⊥
Fit (p ∷ pieces) (s ∷ symbols) = Fits s p × Fit pieces symbols

tokens_fit : (source : List ℕ) (tokens : List Token) → Fit (map (piece_of source) tokens) (symbols_of source tokens)
tokens_fit source [] = tt
tokens_fit source (t ∷ tokens) = (kind_fits t.kind (token_text source t) t.start, tokens_fit source tokens)

-- the pieces begin with those of an item, and what stands behind fits the symbols that are left
pub record Lifts {A : Type 0} (pieces_then : A → List Piece → List Piece) (Good : A → Type 0) (pieces : List Piece) (tail : List Symbol) : Type 0 where
  pub item : A
  pub rest : List Piece
  pub parts : pieces ≡ pieces_then item rest
  pub good : Good item
  pub fit : Fit rest tail

abbrev anything : {A : Type 0} → A → Type 0
anything a = Unit {0}

lift_labels : (labels : ℕ) (tail : List Symbol) (pieces : List Piece) → Fit pieces (labels_then labels tail) → Lifts labels_pieces anything pieces tail
lift_labels zero tail pieces fit = record { item = []; rest = pieces; parts = refl; good = tt; fit = fit }
lift_labels (suc labels) tail [] fit = absurd fit
lift_labels (suc labels) tail (p ∷ pieces) fit =
    let below = lift_labels labels tail pieces fit.1 in
    record { item = fit.0.0 ∷ below.item; rest = below.rest; parts = λ i. fit.0.1 i ∷ below.parts i; good = tt; fit = below.fit }

lift_cells : (references : List Bool) (tail : List Symbol) (pieces : List Piece) → Fit pieces (cells_then references tail) → Lifts cells_pieces anything pieces tail
lift_cells [] tail [] fit = absurd fit
lift_cells [] tail (p ∷ pieces) fit = record { item = []; rest = pieces; parts = λ i. fit.0 i ∷ pieces; good = tt; fit = fit.1 }
lift_cells (true ∷ references) tail [] fit = absurd fit
lift_cells (true ∷ references) tail (p ∷ pieces) fit =
    let below = lift_cells references tail pieces fit.1 in
    record { item = cell.Phandle fit.0.0 ∷ below.item; rest = below.rest; parts = λ i. fit.0.1 i ∷ below.parts i; good = tt; fit = below.fit }
lift_cells (false ∷ references) tail [] fit = absurd fit
lift_cells (false ∷ references) tail (p ∷ pieces) fit =
    let below = lift_cells references tail pieces fit.1 in
    record { item = cell.Number fit.0.0 ∷ below.item; rest = below.rest; parts = λ i. fit.0.1 i ∷ below.parts i; good = tt; fit = below.fit }

lift_bytes : (count : ℕ) (tail : List Symbol) (pieces : List Piece) → Fit pieces (bytes_then count tail) → Lifts bytes_pieces anything pieces tail
lift_bytes zero tail [] fit = absurd fit
lift_bytes zero tail (p ∷ pieces) fit = record { item = []; rest = pieces; parts = λ i. fit.0 i ∷ pieces; good = tt; fit = fit.1 }
lift_bytes (suc count) tail [] fit = absurd fit
lift_bytes (suc count) tail (p ∷ pieces) fit =
    let below = lift_bytes count tail pieces fit.1 in
    record { item = fit.0.0 ∷ below.item; rest = below.rest; parts = λ i. fit.0.1 i ∷ below.parts i; good = tt; fit = below.fit }

lift_value : (one : SourceValue) (tail : List Symbol) (pieces : List Piece) → Fit pieces (value_then one tail) → Lifts value_pieces anything pieces tail
lift_value (cells references) tail [] fit = absurd fit
lift_value (cells references) tail (p ∷ pieces) fit =
    let below = lift_cells references tail pieces fit.1 in
    record { item = value.Cells below.item; rest = below.rest; parts = λ i. fit.0 i ∷ below.parts i; good = tt; fit = below.fit }
lift_value text tail [] fit = absurd fit
lift_value text tail (p ∷ pieces) fit = record { item = value.Text fit.0.0; rest = pieces; parts = λ i. fit.0.1 i ∷ pieces; good = tt; fit = fit.1 }
lift_value (bytes count) tail [] fit = absurd fit
lift_value (bytes count) tail (p ∷ pieces) fit =
    let below = lift_bytes count tail pieces fit.1 in
    record { item = value.Bytes below.item; rest = below.rest; parts = λ i. fit.0 i ∷ below.parts i; good = tt; fit = below.fit }
lift_value path tail [] fit = absurd fit
lift_value path tail (p ∷ pieces) fit = record { item = value.Path fit.0.0; rest = pieces; parts = λ i. fit.0.1 i ∷ pieces; good = tt; fit = fit.1 }

lift_further : (values : List SourceValue) (tail : List Symbol) (pieces : List Piece) → Fit pieces (further_then values tail) → Lifts further_pieces anything pieces tail
lift_further [] tail [] fit = absurd fit
lift_further [] tail (p ∷ pieces) fit = record { item = []; rest = pieces; parts = λ i. fit.0 i ∷ pieces; good = tt; fit = fit.1 }
lift_further (one ∷ values) tail [] fit = absurd fit
lift_further (one ∷ values) tail (p ∷ pieces) fit =
    let first = lift_value one (further_then values tail) pieces fit.1 in
    let below = lift_further values tail first.rest first.fit in
    record { item = first.item ∷ below.item; rest = below.rest; parts = (λ i. fit.0 i ∷ first.parts i) ∙ ap (λ (r : List Piece). c.mark on.Comma ∷ value_pieces first.item r) below.parts; good = tt; fit = below.fit }

lift_values : (values : List SourceValue) (tail : List Symbol) (pieces : List Piece) → Fit pieces (values_then values tail) → Lifts values_pieces anything pieces tail
lift_values [] tail [] fit = absurd fit
lift_values [] tail (p ∷ pieces) fit = record { item = []; rest = pieces; parts = λ i. fit.0 i ∷ pieces; good = tt; fit = fit.1 }
lift_values (one ∷ values) tail [] fit = absurd fit
lift_values (one ∷ values) tail (p ∷ pieces) fit =
    let first = lift_value one (further_then values tail) pieces fit.1 in
    let below = lift_further values tail first.rest first.fit in
    record { item = first.item ∷ below.item; rest = below.rest; parts = (λ i. fit.0 i ∷ first.parts i) ∙ ap (λ (r : List Piece). c.mark on.Equals ∷ value_pieces first.item r) below.parts; good = tt; fit = below.fit }

-- a name of its form, which may be one of the other form too
prop_word : (either : Bool) (p : Piece) → Fits (prop_name either) p → (name : Named) × (p ≡ c.word name) × (is_prop_name name.name ≡ true)
prop_word true p fits = (fits.0, fits.1, fits.2)
prop_word false p fits = (fits.0, fits.1, fits.2)

node_word : (either : Bool) (p : Piece) → Fits (node_name either) p → (name : Named) × (p ≡ c.word name) × (is_node_name name.name ≡ true)
node_word true p fits = (fits.0, fits.1, fits.3)
node_word false p fits = (fits.0, fits.1, fits.2)

abbrev prop_pieces : PropSyntax → List Piece → List Piece
prop_pieces prop tail = labels_pieces prop.labels (c.word prop.name ∷ values_pieces prop.values tail)

abbrev pub props_pieces : List PropSyntax → List Piece → List Piece
props_pieces [] tail = tail
props_pieces (prop ∷ props) tail = prop_pieces prop (props_pieces props tail)

abbrev pub nodes_pieces : NodesSyntax → List Piece → List Piece
nodes_pieces c.none tail = tail
nodes_pieces (c.node labels name props children rest) tail =
    labels_pieces labels (c.word name ∷ c.mark on.NodeOpen ∷ props_pieces props (nodes_pieces children (c.mark on.NodeClose ∷ c.mark on.Semicolon ∷ nodes_pieces rest tail)))

-- names of their forms, before entries whose names are
abbrev GoodProp : PropSyntax → Type 0
GoodProp prop = is_prop_name prop.name.name ≡ true

abbrev GoodProps : List PropSyntax → Type 0
GoodProps props = (tail : List Entry) → AllByRecursion IsWellNamed tail → AllByRecursion IsWellNamed (props_entries props tail)

abbrev GoodNodes : NodesSyntax → Type 0
GoodNodes nodes = (tail : List Entry) → AllByRecursion IsWellNamed tail → AllByRecursion IsWellNamed (nodes_entries nodes tail)

-- a piece first, and then those of an item
pub record Begins (pieces : List Piece) (first : Symbol) (tail : List Symbol) : Type 0 where
  pub piece : Piece
  pub rest : List Piece
  pub parts : pieces ≡ piece ∷ rest
  pub fits : Fits first piece
  pub fit : Fit rest tail

begins : (first : Symbol) (tail : List Symbol) (pieces : List Piece) → Fit pieces (first ∷ tail) → Begins pieces first tail
begins first tail [] fit = absurd fit
begins first tail (p ∷ pieces) fit = record { piece = p; rest = pieces; parts = refl; fits = fit.0; fit = fit.1 }

lift_prop : (prop : SourceProp) (tail : List Symbol) (pieces : List Piece) → Fit pieces (prop_then prop tail) → Lifts prop_pieces GoodProp pieces tail
lift_prop prop tail pieces fit =
    let labels = lift_labels prop.labels (prop_name prop.either ∷ values_then prop.values tail) pieces fit in
    let name = begins (prop_name prop.either) (values_then prop.values tail) labels.rest labels.fit in
    let is = prop_word prop.either name.piece name.fits in
    let values = lift_values prop.values tail name.rest name.fit in
    record {
      item = record { labels = labels.item; name = is.0; values = values.item };
      rest = values.rest;
      parts = labels.parts ∙ ap (labels_pieces labels.item) (name.parts ∙ (λ i. is.1 i ∷ values.parts i));
      good = is.2;
      fit = values.fit;
    }

lift_props : (props : List SourceProp) (tail : List Symbol) (pieces : List Piece) → Fit pieces (props_then props tail) → Lifts props_pieces GoodProps pieces tail
lift_props [] tail pieces fit = record { item = []; rest = pieces; parts = refl; good = λ entries well. well; fit = fit }
lift_props (prop ∷ props) tail pieces fit =
    let first = lift_prop prop (props_then props tail) pieces fit in
    let below = lift_props props tail first.rest first.fit in
    record {
      item = first.item ∷ below.item;
      rest = below.rest;
      parts = first.parts ∙ ap (prop_pieces first.item) below.parts;
      good = λ entries well. (first.good, below.good entries well);
      fit = below.fit;
    }

lift_nodes : (nodes : SourceNodes) (tail : List Symbol) (pieces : List Piece) → Fit pieces (nodes_then nodes tail) → Lifts nodes_pieces GoodNodes pieces tail
lift_nodes none tail pieces fit = record { item = c.none; rest = pieces; parts = refl; good = λ entries well. well; fit = fit }
lift_nodes (more labels either props children rest) tail pieces fit =
    let after = nodes_then rest tail in
    let behind = on.NodeClose ∷ on.Semicolon ∷ after in
    let inner = props_then props (nodes_then children behind) in
    let ls = lift_labels labels (node_name either ∷ on.NodeOpen ∷ inner) pieces fit in
    let name = begins (node_name either) (on.NodeOpen ∷ inner) ls.rest ls.fit in
    let is = node_word either name.piece name.fits in
    let open_mark = begins on.NodeOpen inner name.rest name.fit in
    let ps = lift_props props (nodes_then children behind) open_mark.rest open_mark.fit in
    let below = lift_nodes children behind ps.rest ps.fit in
    let close_mark = begins on.NodeClose (on.Semicolon ∷ after) below.rest below.fit in
    let end_mark = begins on.Semicolon after close_mark.rest close_mark.fit in
    let others = lift_nodes rest tail end_mark.rest end_mark.fit in
    let end : close_mark.rest ≡ c.mark on.Semicolon ∷ nodes_pieces others.item others.rest = end_mark.parts ∙ (λ i. end_mark.fits i ∷ others.parts i) in
    let close : below.rest ≡ c.mark on.NodeClose ∷ c.mark on.Semicolon ∷ nodes_pieces others.item others.rest = close_mark.parts ∙ (λ i. close_mark.fits i ∷ end i) in
    let body = ps.parts ∙ ap (props_pieces ps.item) (below.parts ∙ ap (nodes_pieces below.item) close) in
    let opened = open_mark.parts ∙ (λ i. open_mark.fits i ∷ body i) in
    record {
      item = c.node ls.item is.0 ps.item below.item others.item;
      rest = others.rest;
      parts = ls.parts ∙ ap (labels_pieces ls.item) (name.parts ∙ (λ i. is.1 i ∷ opened i));
      good = λ entries well.
          let after = entry.Close ∷ nodes_entries others.item entries in
          (is.2, ps.good (nodes_entries below.item after) (below.good after (tt, others.good entries well)));
      fit = others.fit;
    }

-- the pieces of entries that are those of properties and nodes
props_are : (props : List PropSyntax) (entries : List Entry) (tail : List Piece) → entries_pieces (props_entries props entries) tail ≡ props_pieces props (entries_pieces entries tail)
props_are [] entries tail = refl
props_are (prop ∷ props) entries tail = ap (prop_pieces prop) (props_are props entries tail)

nodes_are : (nodes : NodesSyntax) (entries : List Entry) (tail : List Piece) → entries_pieces (nodes_entries nodes entries) tail ≡ nodes_pieces nodes (entries_pieces entries tail)
nodes_are c.none entries tail = refl
nodes_are (c.node labels name props children rest) entries tail =
    ap (λ (r : List Piece). labels_pieces labels (c.word name ∷ c.mark on.NodeOpen ∷ r))
    (props_are props (nodes_entries children (entry.Close ∷ nodes_entries rest entries)) tail
    ∙ ap (props_pieces props)
    (nodes_are children (entry.Close ∷ nodes_entries rest entries) tail
    ∙ ap (λ (r : List Piece). nodes_pieces children (c.mark on.NodeClose ∷ c.mark on.Semicolon ∷ r)) (nodes_are rest entries tail)))

fit_end : (pieces : List Piece) → Fit pieces [] → pieces ≡ []
fit_end [] fit = refl
fit_end (p ∷ pieces) fit = absurd fit

-- tokens are those of a syntax
pub record AreOf (source : List ℕ) (tokens : List Token) : Type 0 where
  pub syntax : SourceSyntax
  pub pieces : map (piece_of source) tokens ≡ source_pieces (entries_of syntax)
  pub names : AllByRecursion IsWellNamed (entries_of syntax)

-- what is a source by its symbols is written with something
pub written_of : (source : List ℕ) (tokens : List Token) → IsSourceText source tokens → AreOf source tokens
written_of source tokens is =
    let end = on.NodeClose ∷ on.Semicolon ∷ [] in
    let symbols = is.source in
    let after_props = nodes_then symbols.nodes end in
    let body = props_then symbols.props after_props in
    let pieces = map (piece_of source) tokens in
    let fit : Fit pieces (on.Version ∷ on.Semicolon ∷ on.Root ∷ on.NodeOpen ∷ body) = subst (Fit pieces) symbols.parts (tokens_fit source tokens) in
    let version = begins on.Version (on.Semicolon ∷ on.Root ∷ on.NodeOpen ∷ body) pieces fit in
    let semicolon = begins on.Semicolon (on.Root ∷ on.NodeOpen ∷ body) version.rest version.fit in
    let root = begins on.Root (on.NodeOpen ∷ body) semicolon.rest semicolon.fit in
    let opened = begins on.NodeOpen body root.rest root.fit in
    let props = lift_props symbols.props after_props opened.rest opened.fit in
    let nodes = lift_nodes symbols.nodes end props.rest props.fit in
    let closed = begins on.NodeClose (on.Semicolon ∷ []) nodes.rest nodes.fit in
    let last = begins on.Semicolon [] closed.rest closed.fit in
    let foot : nodes.rest ≡ c.mark on.NodeClose ∷ c.mark on.Semicolon ∷ [] =
    closed.parts ∙ (λ i. closed.fits i ∷ (last.parts ∙ (λ j. last.fits j ∷ fit_end last.rest last.fit j)) i) in
    let inner = opened.parts ∙ (λ i. opened.fits i ∷ (props.parts ∙ ap (props_pieces props.item) (nodes.parts ∙ ap (nodes_pieces nodes.item) foot)) i) in
    let syntax : SourceSyntax = record { props = props.item; nodes = nodes.item } in
    let entries = sym (props_are props.item (nodes_entries nodes.item []) (c.mark on.NodeClose ∷ c.mark on.Semicolon ∷ []) ∙ ap (props_pieces props.item) (nodes_are nodes.item [] (c.mark on.NodeClose ∷ c.mark on.Semicolon ∷ []))) in
    let head = version.parts ∙ (λ i. version.fits i ∷ (semicolon.parts ∙ (λ j. semicolon.fits j ∷ (root.parts ∙ (λ k. root.fits k ∷ inner k)) j)) i) in
    record {
      syntax = syntax;
      pieces = head ∙ ap (λ (r : List Piece). c.mark on.Version ∷ c.mark on.Semicolon ∷ c.mark on.Root ∷ c.mark on.NodeOpen ∷ r) entries;
      names = props.good (nodes_entries nodes.item []) (nodes.good [] tt);
    }
