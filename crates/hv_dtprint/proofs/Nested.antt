-- A printed tree as it is read.
use Rattle.std.proofs.Common.{◌≡◌, ℕ, zero, suc, ◌+◌, ◌<◌, ◌≤◌, List, [], ◌∷◌, ◌++◌, length, replicate, refl, sym, ap, subst, ◌∙◌, arith, append_assoc}
use Rattle.std.specs.Prelude.{codes, All}
use Rattle.std.specs.List.{AllByRecursion, flat_map}
use Rattle.std.proofs.lemmas.List.{append-nil}
use Rattle.hv_dtree.specs.Names.{IsPropName, IsNodeName}
use Rattle.hv_dtree.specs.Nodes.{name_of, props_of, children_of, nodes_of, HasGoodNames}
use Rattle.hv_dtree.specs.declared.node.Prop.{Prop}
use Rattle.hv_dtree.specs.declared.node.Node.{Node}
use Rattle.hv_dtree.proofs.Counts.{count_all, count_out}
use Rattle.hv_dtree.proofs.Nodes.{nodes_out}
use Rattle.hv_dtlex.specs.Blank.{behind_blanks}
use Rattle.hv_dtlex.specs.Tokens.{token_in, token_at}
use Rattle.hv_dtlex.specs.declared.token.Mode.TheVariants.{Name}
use Rattle.hv_dtgram.specs.Contents.{Piece, mark, PropSyntax, NodesSyntax, none, node, SourceSyntax, IsWellNamed, IsWritten, nodes_entries, props_entries, entries_pieces}
use Rattle.hv_dtgram.specs.declared.symbol.Symbol.TheVariants as on
use Rattle.hv_dtgram.specs.declared.contents.Entry.{Entry}
use Rattle.hv_dtgram.specs.declared.contents.Entry.TheVariants as entry
use Rattle.hv_dtprint.specs.Printed.{prop_text, shown_name, head_text, foot_text, node_text, tree_text}
use Rattle.hv_dtprint.specs.Values.{HasBytes}
use Rattle.hv_dtprint.proofs.Spelled.{ArePrinted, no_props, one_prop, IsPrinted, no_trees, one_tree}
use Rattle.hv_dtprint.proofs.Kept.{each_parts}
use Rattle.hv_dtprint.proofs.Printing.{nodes_text, node_text_is}
use Rattle.hv_dtprint.proofs.Tests.{all_head, all_tail}
use Rattle.hv_dtprint.proofs.Passing.{Stands, Continues, pass_spaces}
use Rattle.hv_dtprint.proofs.Words.{prop_name, node_name, node_word, node_some, space_stops}
use Rattle.hv_dtprint.proofs.Marks.{pass_version, pass_root, pass_open, pass_close, pass_semicolon}
use Rattle.hv_dtprint.proofs.Lines.{pass_name, tabs_are, pass_props}

-- each of a list, member by member
pub each : {X : Type 0} (P : X → Type 0) (xs : List X) → All P xs → AllByRecursion P xs
each P [] all = tt
each P (x ∷ xs) all = (all_head P x xs all, each P xs (all_tail P x xs all))

-- a node that can be printed
pub record IsPrintable (tree : Node) : Type 0 where
  pub names : HasGoodNames tree
  pub bytes : HasBytes tree

-- nodes in a row, before further entries
pub record NodesRead (text : List ℕ) (at : ℕ) (nodes : List Node) (rest : List ℕ) : Type 0 where
  pub syntax : NodesSyntax
  pub printed : IsPrinted syntax nodes
  pub after : ℕ
  pub stands : Stands text after rest
  pub reads : (entries : List Entry) (tail : List Piece) → Continues text after Name (entries_pieces entries tail) → Continues text at Name (entries_pieces (nodes_entries syntax entries) tail)

shown_is : (name : List ℕ) → 0 < length name → shown_name name ≡ name
shown_is [] some = absurd (omega arith)
shown_is (b ∷ name) some = refl

-- what stands in a node, behind its opening brace, up to its last semicolon
body_text : ℕ → Node → List ℕ → List ℕ
body_text depth tree rest =
    10 ∷ (flat_map (prop_text (depth + 1)) (props_of tree) ++ (nodes_text (depth + 1) (children_of tree) ++ (replicate depth 9 ++ 125 ∷ 59 ∷ 10 ∷ rest)))

regroup : (tabs name props nodes rest : List ℕ) → ((((tabs ++ name) ++ 32 ∷ 123 ∷ 10 ∷ []) ++ props) ++ (nodes ++ (tabs ++ 125 ∷ 59 ∷ 10 ∷ []))) ++ rest ≡ tabs ++ (name ++ 32 ∷ 123 ∷ 10 ∷ (props ++ (nodes ++ (tabs ++ 125 ∷ 59 ∷ 10 ∷ rest))))
regroup tabs name props nodes rest = simp append_assoc

node_is : (depth : ℕ) (tree : Node) (rest : List ℕ) → node_text tree depth ++ rest ≡ replicate depth 9 ++ (shown_name (name_of tree) ++ 32 ∷ 123 ∷ body_text depth tree rest)
unfolding head_text foot_text body_text
node_is depth tree rest =
    ap (λ (t : List ℕ). t ++ rest) (node_text_is tree depth)
    ∙ regroup (replicate depth 9) (shown_name (name_of tree)) (flat_map (prop_text (depth + 1)) (props_of tree)) (nodes_text (depth + 1) (children_of tree)) rest

-- what stands in a node, read up to its closing brace
record BodyRead (text : List ℕ) (at : ℕ) (tree : Node) (rest : List ℕ) : Type 0 where
  props : List PropSyntax
  children : NodesSyntax
  props_printed : ArePrinted props (props_of tree)
  printed : IsPrinted children (children_of tree)
  after : ℕ
  stands : Stands text after rest
  reads : (entries : List Entry) (tail : List Piece) → Continues text after Name (entries_pieces entries tail)
      → Continues text at Name (entries_pieces (props_entries props (nodes_entries children (entry.Close ∷ entries))) tail)
  ends : (tail : List Piece) → Continues text after Name tail → Continues text at Name (entries_pieces (props_entries props (nodes_entries children [])) (mark on.NodeClose ∷ mark on.Semicolon ∷ tail))

-- the children are read so
abbrev ChildrenRead : List ℕ → ℕ → Node → Type 0
ChildrenRead text depth tree = (rest : List ℕ) (at : ℕ) → Stands text at (nodes_text depth (children_of tree) ++ rest) → NodesRead text at (children_of tree) rest

pass_body : (text : List ℕ) (depth : ℕ) (tree : Node) (rest : List ℕ) (at : ℕ) → IsPrintable tree → ChildrenRead text (depth + 1) tree → Stands text at (body_text depth tree rest) → BodyRead text at tree rest
unfolding body_text
pass_body text depth tree rest at good below it =
    let foot = replicate depth 9 ++ 125 ∷ 59 ∷ 10 ∷ rest in
    let nodes = nodes_text (depth + 1) (children_of tree) ++ foot in
    let line = pass_spaces text (10 ∷ []) (flat_map (prop_text (depth + 1)) (props_of tree) ++ nodes) at Name (refl, tt) it in
    let props = pass_props text (depth + 1) (props_of tree) nodes line.after (each (λ prop. IsPropName prop.name) (props_of tree) good.names.props) (each (λ prop. All (λ byte. byte < 256) prop.value) (props_of tree) good.bytes) line.stands in
    let children = below foot props.after props.stands in
    let tabs = pass_spaces text (replicate depth 9) (125 ∷ 59 ∷ 10 ∷ rest) children.after Name (tabs_are depth) children.stands in
    let brace = pass_close text (59 ∷ 10 ∷ rest) tabs.after tabs.stands in
    let semicolon = pass_semicolon text (10 ∷ rest) brace.after brace.stands in
    let end = pass_spaces text (10 ∷ []) rest semicolon.after Name (refl, tt) semicolon.stands in
    let closes : (tail : List Piece) → Continues text end.after Name tail → Continues text children.after Name (mark on.NodeClose ∷ mark on.Semicolon ∷ tail) = λ tail go. tabs.reads _ (brace.reads _ (semicolon.reads _ (end.reads tail go))) in
    record {
      props = props.syntax;
      children = children.syntax;
      props_printed = props.printed;
      printed = children.printed;
      after = end.after;
      stands = end.stands;
      reads = λ entries tail go. line.reads _ (props.reads (nodes_entries children.syntax (entry.Close ∷ entries)) tail (children.reads (entry.Close ∷ entries) tail (closes (entries_pieces entries tail) go)));
      ends = λ tail go. line.reads _ (props.reads (nodes_entries children.syntax []) (mark on.NodeClose ∷ mark on.Semicolon ∷ tail) (children.reads [] (mark on.NodeClose ∷ mark on.Semicolon ∷ tail) (closes tail go)));
    }

pub pass_nodes : (text : List ℕ) (fuel depth : ℕ) (nodes : List Node) (rest : List ℕ) (at : ℕ) → count_all nodes ≤ fuel → AllByRecursion (λ child. IsNodeName (name_of child)) nodes → AllByRecursion IsPrintable (flat_map nodes_of nodes)
    → Stands text at (nodes_text depth nodes ++ rest) → NodesRead text at nodes rest
pass_nodes text fuel depth [] rest at few named good it = record { syntax = none; printed = no_trees; after = at; stands = it; reads = λ entries tail go. go }
pass_nodes text zero depth (n ∷ nodes) rest at few named good it = absurd (omega (arith, few, count_out n))
pass_nodes text (suc fuel) depth (n ∷ nodes) rest at few named good it =
    let parts = each_parts IsPrintable (nodes_of n) (flat_map nodes_of nodes) good in
    let here = subst (AllByRecursion IsPrintable) (nodes_out n) parts.0 in
    let others = nodes_text depth nodes ++ rest in
    let name = name_of n in
    let some : 0 < length name = node_some name named.0 in
    let whole : (nodes_text depth (n ∷ nodes)) ++ rest ≡ replicate depth 9 ++ (name ++ 32 ∷ 123 ∷ body_text depth n others) =
    append_assoc (node_text n depth) (nodes_text depth nodes) rest ∙ node_is depth n others
    ∙ ap (λ (t : List ℕ). replicate depth 9 ++ (t ++ 32 ∷ 123 ∷ body_text depth n others)) (shown_is name some) in
    let tabs = pass_spaces text (replicate depth 9) (name ++ 32 ∷ 123 ∷ body_text depth n others) at Name (tabs_are depth) (subst (Stands text at) whole it) in
    let one = pass_name text name (123 ∷ body_text depth n others) 32 tabs.after (node_word name named.0) some space_stops tabs.stands in
    let space = pass_spaces text (32 ∷ []) (123 ∷ body_text depth n others) one.after Name (refl, tt) one.stands in
    let opens = pass_open text (body_text depth n others) space.after space.stands in
    let fewer : count_all (children_of n) ≤ fuel = omega (arith, few, count_out n) in
    let below : ChildrenRead text (depth + 1) n = λ foot from stands. pass_nodes text fuel (depth + 1) (children_of n) foot from fewer (each (λ child. IsNodeName (name_of child)) (children_of n) here.0.names.children) here.1 stands in
    let body = pass_body text depth n others opens.after here.0 below opens.stands in
    let less : count_all nodes ≤ fuel = omega (arith, few, count_out n) in
    let more = pass_nodes text fuel depth nodes rest body.after less named.1 parts.1 body.stands in
    record {
      syntax = node [] (record { name = name; place = tabs.after }) body.props body.children more.syntax;
      printed = one_tree tabs.after n body.props body.children more.syntax nodes body.props_printed body.printed more.printed;
      after = more.after;
      stands = more.stands;
      reads = λ entries tail go. tabs.reads _ (one.reads _ (space.reads _ (opens.reads _ (body.reads (nodes_entries more.syntax entries) tail (more.reads entries tail go)))));
    }

-- the text's end
ends_there : (text : List ℕ) (at : ℕ) → Stands text at [] → Continues text at Name []
unfolding token_at
ends_there text at it = record { tokens = []; lexes = ap (λ (t : List ℕ). token_in Name (length text) (behind_blanks t)) it.here; are = refl }

-- names of their forms
props_named : (syntax : List PropSyntax) (props : List Prop) (tail : List Entry) → ArePrinted syntax props → AllByRecursion (λ prop. IsPropName prop.name) props → AllByRecursion IsWellNamed tail → AllByRecursion IsWellNamed (props_entries syntax tail)
props_named _ _ tail no_props named well = well
props_named _ _ tail (one_prop place prop syntax props are) named well = (prop_name prop.name named.0, props_named syntax props tail are named.1 well)

nodes_named : (syntax : NodesSyntax) (nodes : List Node) (tail : List Entry) → IsPrinted syntax nodes → AllByRecursion (λ child. IsNodeName (name_of child)) nodes → AllByRecursion IsPrintable (flat_map nodes_of nodes)
    → AllByRecursion IsWellNamed tail → AllByRecursion IsWellNamed (nodes_entries syntax tail)
nodes_named _ _ tail no_trees named good well = well
nodes_named _ _ tail (one_tree place n props children rest nodes are below more) named good well =
    let parts = each_parts IsPrintable (nodes_of n) (flat_map nodes_of nodes) good in
    let here = subst (AllByRecursion IsPrintable) (nodes_out n) parts.0 in
    let behind = nodes_named rest nodes tail more named.1 parts.1 well in
    let inner = nodes_named children (children_of n) (entry.Close ∷ nodes_entries rest tail) below (each (λ child. IsNodeName (name_of child)) (children_of n) here.0.names.children) here.1 (tt, behind) in
    (node_name (name_of n) named.0, props_named props (props_of n) _ are (each (λ prop. IsPropName prop.name) (props_of n) here.0.names.props) inner)

-- what the text of a tree contains
pub record Spells (text : List ℕ) (tree : Node) : Type 0 where
  pub syntax : SourceSyntax
  pub written : IsWritten text syntax
  pub props : ArePrinted syntax.props (props_of tree)
  pub nodes : IsPrinted syntax.nodes (children_of tree)

start_is : (tree : Node) → name_of tree ≡ [] → tree_text tree ≡ codes "/dts-v1/" ++ 59 ∷ 10 ∷ 10 ∷ 47 ∷ 32 ∷ 123 ∷ body_text 0 tree []
start_is tree unnamed =
    let root : node_text tree 0 ≡ shown_name (name_of tree) ++ 32 ∷ 123 ∷ body_text 0 tree [] = sym (append-nil (node_text tree 0)) ∙ node_is 0 tree [] in
    ap (λ (t : List ℕ). (codes "/dts-v1/;" ++ 10 ∷ 10 ∷ []) ++ t) (root ∙ ap (λ (name : List ℕ). shown_name name ++ 32 ∷ 123 ∷ body_text 0 tree []) unnamed)

pub spells : (tree : Node) → name_of tree ≡ [] → AllByRecursion IsPrintable (nodes_of tree) → Spells (tree_text tree) tree
spells tree unnamed good =
    let text = tree_text tree in
    let here = subst (AllByRecursion IsPrintable) (nodes_out tree) good in
    let all : Stands text 0 text = record { here = refl; all = omega arith } in
    let version = pass_version text (59 ∷ 10 ∷ 10 ∷ 47 ∷ 32 ∷ 123 ∷ body_text 0 tree []) 0 (subst (Stands text 0) (start_is tree unnamed) all) in
    let semicolon = pass_semicolon text (10 ∷ 10 ∷ 47 ∷ 32 ∷ 123 ∷ body_text 0 tree []) version.after version.stands in
    let lines = pass_spaces text (10 ∷ 10 ∷ []) (47 ∷ 32 ∷ 123 ∷ body_text 0 tree []) semicolon.after Name (refl, (refl, tt)) semicolon.stands in
    let slash = pass_root text (123 ∷ body_text 0 tree []) lines.after lines.stands in
    let space = pass_spaces text (32 ∷ []) (123 ∷ body_text 0 tree []) slash.after Name (refl, tt) slash.stands in
    let opens = pass_open text (body_text 0 tree []) space.after space.stands in
    let named = each (λ child. IsNodeName (name_of child)) (children_of tree) here.0.names.children in
    let below : ChildrenRead text (0 + 1) tree = λ foot from stands. pass_nodes text (count_all (children_of tree)) (0 + 1) (children_of tree) foot from (omega arith) named here.1 stands in
    let body = pass_body text 0 tree [] opens.after here.0 below opens.stands in
    let read = version.reads _ (semicolon.reads _ (lines.reads _ (slash.reads _ (space.reads _ (opens.reads _ (body.ends [] (ends_there text body.after body.stands))))))) in
    record {
      syntax = record { props = body.props; nodes = body.children };
      written = record {
        tokens = read.tokens;
        lexes = read.lexes;
        pieces = read.are;
        names = props_named body.props (props_of tree) _ body.props_printed (each (λ prop. IsPropName prop.name) (props_of tree) here.0.names.props) (nodes_named body.children (children_of tree) [] body.printed named here.1 tt);
      };
      props = body.props_printed;
      nodes = body.printed;
    }
