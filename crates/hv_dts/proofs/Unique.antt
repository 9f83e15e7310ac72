-- A text is one source at most, and stands for one tree.
use Rattle.std.proofs.Common.{◌≡◌, ℕ, ◌+◌, Bool, true, false, List, [], ◌∷◌, length, refl, sym, ap, subst, ◌∙◌, arith, inl, inr, Err}
use Rattle.std.specs.Prelude.{Option, Some, None, map, zip}
use Rattle.std.specs.List.{AllByRecursion}
use Rattle.std.proofs.lemmas.Bool.{cases_lt}
use Rattle.hv_dtlex.specs.declared.token.Token.{Token}
use Rattle.hv_dtlex.specs.declared.token.Mode.TheVariants.{Name}
use Rattle.hv_dtree.specs.declared.node.Node.{Node}
use Rattle.hv_dtlex.specs.declared.token.TokenKind.{TokenKind}
use Rattle.hv_dtlex.specs.declared.token.TokenKind.TheVariants as kind
use Rattle.hv_dtgram.specs.declared.symbol.Symbol.{Symbol}
use Rattle.hv_dtgram.specs.declared.symbol.Symbol.TheVariants as on
use Rattle.hv_dtgram.specs.Source as g
use Rattle.hv_dtgram.specs.Source.{SourceValue, SourceProp, SourceNodes, labels_then, prop_name, node_name, cells_then, bytes_then, value_then, further_then, values_then, props_then, nodes_then, IsSource}
use Rattle.hv_dtgram.specs.Lexed.{token_text, is_prop_name, is_node_name, word_symbol, kind_symbol, symbols_of}
use Rattle.hv_dtgram.specs.Contents as c
use Rattle.hv_dtgram.specs.Contents.{PropSyntax, NodesSyntax, none, node, SourceSyntax, Piece, kind_piece, piece_of, labels_pieces, cells_pieces, bytes_pieces, value_pieces, further_pieces, values_pieces, entries_pieces, source_pieces, props_entries, nodes_entries, entries_of, IsWellNamed, IsWritten}
use Rattle.hv_dts.specs.Rules.{broken_rule}
use Rattle.hv_dts.specs.Resolved.{Site, IsLeastFree, AreGiven, gets_number, gets_none, asked_labels, used_numbers, nodes_sites, links_of, root_tree, IsTreeOf}
use Rattle.hv_dts.specs.Reading.{IsSourceOf, IsRefusedAs, IsOnly}
use Rattle.hv_dtgram.specs.declared.contents.Named.{Named}
use Rattle.hv_dtgram.specs.declared.contents.Cell.{Cell}
use Rattle.hv_dtgram.specs.declared.contents.Cell.TheVariants as cell
use Rattle.hv_dtgram.specs.declared.contents.Value.{Value}
use Rattle.hv_dtgram.specs.declared.contents.Value.TheVariants as value
use Rattle.hv_dtgram.specs.declared.contents.Entry.{Entry}
use Rattle.hv_dtgram.specs.declared.contents.Entry.TheVariants as entry
use Rattle.hv_dts.specs.declared.refusal.DtsRefusal.{DtsRefusal}
use Rattle.hv_dts.specs.declared.refusal.DtsRefusal.TheVariants as refusal
use Rattle.hv_dtgram.specs.declared.gathered.Gathered.{Gathered}
use Rattle.hv_dtgram.specs.Gathering.{nothing_gathered}
use Rattle.hv_dtgram.proofs.Gathering.{all_gathered, source_gathered}
use Rattle.hv_dtgram.proofs.Lexing.{lexes_same, not_unexpected}
use Rattle.hv_dts.proofs.Nesting.{same_ends}

-- no node begins in front
abbrev Closed : List Entry → Type 0
Closed [] = Unit {0}
Closed (entry.Property labels name values ∷ entries) = ⊥
Closed (entry.Open labels name ∷ entries) = ⊥
Closed (entry.Close ∷ entries) = Unit {0}

-- no property stands in front
abbrev NoProp : List Entry → Type 0
NoProp [] = Unit {0}
NoProp (entry.Property labels name values ∷ entries) = ⊥
NoProp (entry.Open labels name ∷ entries) = Unit {0}
NoProp (entry.Close ∷ entries) = Unit {0}

closed_no_prop : (entries : List Entry) → Closed entries → NoProp entries
closed_no_prop [] it = tt
closed_no_prop (entry.Property labels name values ∷ entries) it = it
closed_no_prop (entry.Open labels name ∷ entries) it = tt
closed_no_prop (entry.Close ∷ entries) it = tt

nodes_no_prop : (nodes : NodesSyntax) (tail : List Entry) → Closed tail → NoProp (nodes_entries nodes tail)
nodes_no_prop none tail it = closed_no_prop tail it
nodes_no_prop (node labels name props children rest) tail it = tt

same_props : (props others : List PropSyntax) (tail end : List Entry) → NoProp tail → NoProp end → props_entries props tail ≡ props_entries others end → (props ≡ others) × (tail ≡ end)
same_props [] [] tail end stops stops2 e = (refl, e)
same_props [] (o ∷ others) tail end stops stops2 e = absurd (subst NoProp e stops)
same_props (p ∷ props) [] tail end stops stops2 e = absurd (subst NoProp (sym e) stops2)
same_props (p ∷ props) (o ∷ others) tail end stops stops2 e =
    let rest : props_entries props tail ≡ props_entries others end = cc e in
    let labels : p.labels ≡ o.labels = cc e in
    let name : p.name ≡ o.name = cc e in
    let values : p.values ≡ o.values = cc e in
    let below = same_props props others tail end stops stops2 rest in
    ((λ i. record { labels = labels i; name = name i; values = values i } ∷ below.0 i), below.1)

same_nodes : (nodes others : NodesSyntax) (tail end : List Entry) → Closed tail → Closed end → nodes_entries nodes tail ≡ nodes_entries others end → (nodes ≡ others) × (tail ≡ end)
same_nodes none none tail end ends ends2 e = (refl, e)
same_nodes none (node labels name props children rest) tail end ends ends2 e = absurd (subst Closed e ends)
same_nodes (node labels name props children rest) none tail end ends ends2 e = absurd (subst Closed (sym e) ends2)
same_nodes (node labels name props children rest) (node labels2 name2 props2 children2 rest2) tail end ends ends2 e =
    let after = entry.Close ∷ nodes_entries rest tail in
    let after2 = entry.Close ∷ nodes_entries rest2 end in
    let ls : labels ≡ labels2 = cc e in
    let n : name ≡ name2 = cc e in
    let inner : props_entries props (nodes_entries children after) ≡ props_entries props2 (nodes_entries children2 after2) = cc e in
    let ps = same_props props props2 (nodes_entries children after) (nodes_entries children2 after2) (nodes_no_prop children after tt) (nodes_no_prop children2 after2 tt) inner in
    let cs = same_nodes children children2 after after2 tt tt ps.1 in
    let behind : nodes_entries rest tail ≡ nodes_entries rest2 end = cc cs.1 in
    let rs = same_nodes rest rest2 tail end ends ends2 behind in
    ((λ i. node (ls i) (n i) (ps.0 i) (cs.0 i) (rs.0 i)), rs.1)

same_syntax : (source second : SourceSyntax) → entries_of source ≡ entries_of second → source ≡ second
same_syntax source second e =
    let ps = same_props source.props second.props (nodes_entries source.nodes []) (nodes_entries second.nodes []) (nodes_no_prop source.nodes [] tt) (nodes_no_prop second.nodes [] tt) e in
    let ns = same_nodes source.nodes second.nodes [] [] tt tt ps.1 in
    λ i. record { props = ps.0 i; nodes = ns.0 i }

same_entries : (entries others : List Entry) → source_pieces entries ≡ source_pieces others → entries ≡ others
same_entries entries others e =
    let run = sym (source_gathered entries) ∙ ap (all_gathered nothing_gathered) e ∙ source_gathered others in
    (same_ends entries others entry.Close entry.Close (ap (λ (it : Gathered). it.entries) run)).0

-- a text contains one thing
pub written_same : (text : List ℕ) (source second : SourceSyntax) → IsWritten text source → IsWritten text second → source ≡ second
written_same text source second one two =
    let tokens = (lexes_same text 0 Name one.tokens two.tokens None None one.lexes two.lexes).0 in
    same_syntax source second (same_entries (entries_of source) (entries_of second) (sym one.pieces ∙ ap (map (piece_of text)) tokens ∙ two.pieces))

least_same : (used : List ℕ) (from n m : ℕ) → IsLeastFree used from n → IsLeastFree used from m → n ≡ m
least_same used from n m one two = elim (cases_lt n m) [
  | inl lt ↦ absurd (let there = two.below n one.at_least lt in cc (there, one.free))
  | inr ge ↦ elim (cases_lt m n) [
    | inl lt ↦ absurd (let there = one.below m two.at_least lt in cc (there, two.free))
    | inr le ↦ omega arith
  ]
]

given_same : (asked : List (List ℕ)) (used : List ℕ) (from : ℕ) (sites : List Site) (given more : List (Option ℕ)) → AreGiven asked used from sites given → AreGiven asked used from sites more → given ≡ more
given_same asked used from [] [] [] one two = refl
given_same asked used from [] [] (h ∷ others) one two = elim two [ ]
given_same asked used from [] (g ∷ given) others one two = elim one [ ]
given_same asked used from (site ∷ sites) [] others one two = elim one [ ]
given_same asked used from (site ∷ sites) (g ∷ given) [] one two = elim two [ ]
given_same asked used from (site ∷ sites) (g ∷ given) (h ∷ others) (gets_number s n asks least rest) (gets_number s2 m asks2 least2 rest2) =
    let same = least_same used from n m least least2 in
    let below = given_same asked used (n + 1) sites given others rest (subst (λ (k : ℕ). AreGiven asked used (k + 1) sites others) (sym same) rest2) in
    λ i. Some (same i) ∷ below i
given_same asked used from (site ∷ sites) (g ∷ given) (h ∷ others) (gets_number s n asks least rest) (gets_none s2 fails rest2) = absurd (cc (asks, fails))
given_same asked used from (site ∷ sites) (g ∷ given) (h ∷ others) (gets_none s fails rest) (gets_number s2 m asks least rest2) = absurd (cc (asks, fails))
given_same asked used from (site ∷ sites) (g ∷ given) (h ∷ others) (gets_none s fails rest) (gets_none s2 fails2 rest2) =
    let below = given_same asked used from sites given others rest rest2 in
    λ i. None ∷ below i

-- a text stands for one tree
pub tree_same : (text : List ℕ) (tree second : Node) → IsSourceOf text tree → IsSourceOf text second → tree ≡ second
tree_same text tree second one two =
    let same = written_same text two.syntax one.syntax two.written one.written in
    let source = one.syntax in
    let stands : IsTreeOf source second = subst (λ (s : SourceSyntax). IsTreeOf s second) same two.stands in
    let given = given_same (asked_labels (entries_of source)) (used_numbers (entries_of source)) 1 (nodes_sites [] source.nodes) one.stands.given stands.given one.stands.least_free stands.least_free in
    one.stands.is ∙ ap (λ (gs : List (Option ℕ)). root_tree (links_of (zip (nodes_sites [] source.nodes) gs)) source gs) given ∙ sym stands.is

-- the pieces of a source are its symbols
abbrev piece_symbol : Piece → Symbol
piece_symbol (c.mark symbol) = symbol
piece_symbol (c.label name) = on.Label
piece_symbol (c.word name) = word_symbol name.name
piece_symbol (c.number n) = on.Number
piece_symbol (c.text b) = on.Text
piece_symbol (c.pair n) = on.Pair
piece_symbol (c.reference name) = on.Reference

kind_says : (k : TokenKind) (b : List ℕ) (place : ℕ) → piece_symbol (kind_piece k b place) ≡ kind_symbol k (word_symbol b)
kind_says kind.Version b place = refl
kind_says kind.Root b place = refl
kind_says kind.NodeOpen b place = refl
kind_says kind.NodeClose b place = refl
kind_says kind.Semicolon b place = refl
kind_says kind.Equals b place = refl
kind_says kind.Label b place = refl
kind_says kind.Word b place = refl
kind_says kind.CellsOpen b place = refl
kind_says kind.CellsClose b place = refl
kind_says kind.BytesOpen b place = refl
kind_says kind.BytesClose b place = refl
kind_says kind.Comma b place = refl
kind_says kind.Text b place = refl
kind_says kind.Number b place = refl
kind_says kind.Reference b place = refl
kind_says kind.Pair b place = refl

tokens_say : (text : List ℕ) (tokens : List Token) → map piece_symbol (map (piece_of text) tokens) ≡ symbols_of text tokens
tokens_say text [] = refl
tokens_say text (t ∷ tokens) = λ i. kind_says t.kind (token_text text t) t.start i ∷ tokens_say text tokens i

abbrev say : List Piece → List Symbol
say pieces = map piece_symbol pieces

labels_say : (labels : List Named) (tail : List Piece) → say (labels_pieces labels tail) ≡ labels_then (length labels) (say tail)
labels_say [] tail = refl
labels_say (l ∷ labels) tail = ap (λ (ss : List Symbol). on.Label ∷ ss) (labels_say labels tail)

abbrev cell_shape : Cell → Bool
cell_shape (cell.Number n) = false
cell_shape (cell.Phandle label) = true

cells_say : (these : List Cell) (tail : List Piece) → say (cells_pieces these tail) ≡ cells_then (map cell_shape these) (say tail)
cells_say [] tail = refl
cells_say (cell.Number n ∷ these) tail = ap (λ (ss : List Symbol). on.Number ∷ ss) (cells_say these tail)
cells_say (cell.Phandle label ∷ these) tail = ap (λ (ss : List Symbol). on.Reference ∷ ss) (cells_say these tail)

bytes_say : (these : List ℕ) (tail : List Piece) → say (bytes_pieces these tail) ≡ bytes_then (length these) (say tail)
bytes_say [] tail = refl
bytes_say (b ∷ these) tail = ap (λ (ss : List Symbol). on.Pair ∷ ss) (bytes_say these tail)

abbrev value_shape : Value → SourceValue
value_shape (value.Cells these) = g.cells (map cell_shape these)
value_shape (value.Text b) = g.text
value_shape (value.Bytes these) = g.bytes (length these)
value_shape (value.Path label) = g.path

value_says : (one : Value) (tail : List Piece) → say (value_pieces one tail) ≡ value_then (value_shape one) (say tail)
value_says (value.Cells these) tail = ap (λ (ss : List Symbol). on.CellsOpen ∷ ss) (cells_say these tail)
value_says (value.Text b) tail = refl
value_says (value.Bytes these) tail = ap (λ (ss : List Symbol). on.BytesOpen ∷ ss) (bytes_say these tail)
value_says (value.Path label) tail = refl

further_say : (values : List Value) (tail : List Piece) → say (further_pieces values tail) ≡ further_then (map value_shape values) (say tail)
further_say [] tail = refl
further_say (one ∷ values) tail = ap (λ (ss : List Symbol). on.Comma ∷ ss) (value_says one (further_pieces values tail) ∙ ap (value_then (value_shape one)) (further_say values tail))

values_say : (values : List Value) (tail : List Piece) → say (values_pieces values tail) ≡ values_then (map value_shape values) (say tail)
values_say [] tail = refl
values_say (one ∷ values) tail = ap (λ (ss : List Symbol). on.Equals ∷ ss) (value_says one (further_pieces values tail) ∙ ap (value_then (value_shape one)) (further_say values tail))

prop_says : (name : Named) (b : Bool) → is_prop_name name.name ≡ true → is_node_name name.name ≡ b → word_symbol name.name ≡ prop_name b
prop_says name true p n = rw (p, n) refl
prop_says name false p n = rw (p, n) refl

node_says : (name : Named) (b : Bool) → is_node_name name.name ≡ true → is_prop_name name.name ≡ b → word_symbol name.name ≡ node_name b
node_says name true n p = rw (p, n) refl
node_says name false n p = rw (p, n) refl

abbrev prop_shape : PropSyntax → SourceProp
prop_shape prop = record { labels = length prop.labels; either = is_node_name prop.name.name; values = map value_shape prop.values }

abbrev nodes_shape : NodesSyntax → SourceNodes
nodes_shape none = g.none
nodes_shape (node labels name props children rest) = g.more (length labels) (is_prop_name name.name) (map prop_shape props) (nodes_shape children) (nodes_shape rest)

props_say : (props : List PropSyntax) (entries : List Entry) (tail : List Piece) (ends : List Symbol) → AllByRecursion IsWellNamed (props_entries props entries)
    → (AllByRecursion IsWellNamed entries → say (entries_pieces entries tail) ≡ ends) → say (entries_pieces (props_entries props entries) tail) ≡ props_then (map prop_shape props) ends
props_say [] entries tail ends well behind = behind well
props_say (prop ∷ props) entries tail ends well behind =
    let after = entries_pieces (props_entries props entries) tail in
    labels_say prop.labels (c.word prop.name ∷ values_pieces prop.values after)
    ∙ ap (labels_then (length prop.labels)) (λ i. prop_says prop.name (is_node_name prop.name.name) well.0 refl i ∷ (values_say prop.values after ∙ ap (values_then (map value_shape prop.values)) (props_say props entries tail ends well.1 behind)) i)

nodes_say : (nodes : NodesSyntax) (entries : List Entry) (tail : List Piece) (ends : List Symbol) → AllByRecursion IsWellNamed (nodes_entries nodes entries)
    → (AllByRecursion IsWellNamed entries → say (entries_pieces entries tail) ≡ ends) → say (entries_pieces (nodes_entries nodes entries) tail) ≡ nodes_then (nodes_shape nodes) ends
nodes_say none entries tail ends well behind = behind well
nodes_say (node labels name props children rest) entries tail ends well behind =
    let after = entry.Close ∷ nodes_entries rest entries in
    let inner = entries_pieces (props_entries props (nodes_entries children after)) tail in
    let last = nodes_then (nodes_shape rest) ends in
    labels_say labels (c.word name ∷ c.mark on.NodeOpen ∷ inner)
    ∙ ap (labels_then (length labels)) (λ i. node_says name (is_prop_name name.name) well.0 refl i ∷ on.NodeOpen ∷
    props_say props (nodes_entries children after) tail (nodes_then (nodes_shape children) (on.NodeClose ∷ on.Semicolon ∷ last)) well.1
    (λ within. nodes_say children after tail (on.NodeClose ∷ on.Semicolon ∷ last) within
    (λ closed. ap (λ (ss : List Symbol). on.NodeClose ∷ on.Semicolon ∷ ss) (nodes_say rest entries tail ends closed.1 behind))) i)

-- so what is written is a source by its symbols
pub source_of : (text : List ℕ) (syntax : SourceSyntax) (it : IsWritten text syntax) → IsSource (symbols_of text it.tokens)
source_of text syntax it =
    let foot = on.NodeClose ∷ on.Semicolon ∷ [] in
    record {
      props = map prop_shape syntax.props;
      nodes = nodes_shape syntax.nodes;
      parts = sym (tokens_say text it.tokens) ∙ ap say it.pieces
          ∙ ap (λ (ss : List Symbol). on.Version ∷ on.Semicolon ∷ on.Root ∷ on.NodeOpen ∷ ss)
          (props_say syntax.props (nodes_entries syntax.nodes []) (c.mark on.NodeClose ∷ c.mark on.Semicolon ∷ []) (nodes_then (nodes_shape syntax.nodes) foot) it.names
          (λ within. nodes_say syntax.nodes [] (c.mark on.NodeClose ∷ c.mark on.Semicolon ∷ []) foot within (λ nothing. refl)));
    }

-- a source isn't refused
pub not_refused : (text : List ℕ) (tree : Node) (refused : DtsRefusal) → IsSourceOf text tree → IsRefusedAs text refused → IsOnly (Err refused) tree
not_refused text tree (refusal.BadToken offset) is it =
    let ends = (lexes_same text 0 Name it.tokens is.written.tokens (Some offset) None it.lexes is.written.lexes).1 in cc ends
not_refused text tree (refusal.Unexpected offset) is it =
    not_unexpected text it.tokens is.written.tokens it.ending it.place (record { lexes = is.written.lexes; source = source_of text is.syntax is.written }) it.lexes it.unexpected
not_refused text tree (refusal.TwiceNamed offset) is it =
    let same = ap broken_rule (written_same text it.syntax is.syntax it.written is.written) in cc (same, it.broken, is.keeps)
not_refused text tree (refusal.BadPhandle offset) is it =
    let same = ap broken_rule (written_same text it.syntax is.syntax it.written is.written) in cc (same, it.broken, is.keeps)
not_refused text tree (refusal.NoLabel offset) is it =
    let same = ap broken_rule (written_same text it.syntax is.syntax it.written is.written) in cc (same, it.broken, is.keeps)
not_refused text tree (refusal.Memory e) is it = tt
