-- What may stand behind symbols that were read.
use Rattle.std.proofs.Common.{◌≡◌, ◌≢◌, ℕ, zero, suc, ◌+◌, ◌<◌, ◌≤◌, List, [], ◌∷◌, ◌++◌, length, take, get_or, arith, append_assoc, refl, sym, ap, subst, ◌∙◌, inl, inr, Bool, true, false}
use Rattle.std.specs.Prelude.{Some, None, ◌⊎◌}
use Rattle.std.proofs.lemmas.List.{take_more, take_all, append-nil}
use Rattle.hv_dtgram.specs.declared.symbol.Symbol.{Symbol}
use Rattle.hv_dtgram.specs.declared.symbol.Symbol.TheVariants as on
use Rattle.hv_dtgram.specs.declared.symbol.State.{State}
use Rattle.hv_dtgram.specs.declared.symbol.State.TheVariants as at
use Rattle.hv_dtgram.specs.Source.{SourceValue, cells, text, bytes, path, SourceProp, SourceNodes, none, more, labels_then, prop_name, node_name, cells_then, bytes_then, value_then, further_then, values_then, props_then, nodes_then, IsSource, IsUnexpectedAt}
use Rattle.hv_dtgram.specs.Steps.{Place, step}

-- what closes a body in so many nodes below the root
abbrev pub Closes : ℕ → List Symbol → Type 0
Closes zero r = r ≡ on.NodeClose ∷ on.Semicolon ∷ []
Closes (suc d) r = (nodes : SourceNodes) × (tail : List Symbol) × (r ≡ on.NodeClose ∷ on.Semicolon ∷ nodes_then nodes tail) × Closes d tail

pub record Nodes (d : ℕ) (r : List Symbol) : Type 0 where
  pub nodes : SourceNodes
  pub tail : List Symbol
  pub parts : r ≡ nodes_then nodes tail
  pub closes : Closes d tail

pub record Body (d : ℕ) (r : List Symbol) : Type 0 where
  pub props : List SourceProp
  pub rest : List Symbol
  pub parts : r ≡ props_then props rest
  pub nodes : Nodes d rest

pub record Further (d : ℕ) (r : List Symbol) : Type 0 where
  pub values : List SourceValue
  pub rest : List Symbol
  pub parts : r ≡ further_then values rest
  pub body : Body d rest

pub record Value (d : ℕ) (r : List Symbol) : Type 0 where
  pub value : SourceValue
  pub rest : List Symbol
  pub parts : r ≡ value_then value rest
  pub further : Further d rest

pub record Cells (d : ℕ) (r : List Symbol) : Type 0 where
  pub references : List Bool
  pub rest : List Symbol
  pub parts : r ≡ cells_then references rest
  pub further : Further d rest

pub record InBytes (d : ℕ) (r : List Symbol) : Type 0 where
  pub count : ℕ
  pub rest : List Symbol
  pub parts : r ≡ bytes_then count rest
  pub further : Further d rest

pub record NamedProp (d : ℕ) (r : List Symbol) : Type 0 where
  pub values : List SourceValue
  pub rest : List Symbol
  pub parts : r ≡ values_then values rest
  pub body : Body d rest

pub record NamedNode (d : ℕ) (r : List Symbol) : Type 0 where
  pub rest : List Symbol
  pub parts : r ≡ on.NodeOpen ∷ rest
  pub body : Body (suc d) rest

pub record LabelledProp (d : ℕ) (r : List Symbol) : Type 0 where
  pub labels : ℕ
  pub either : Bool
  pub rest : List Symbol
  pub parts : r ≡ labels_then labels (prop_name either ∷ rest)
  pub named : NamedProp d rest

pub record LabelledNode (d : ℕ) (r : List Symbol) : Type 0 where
  pub labels : ℕ
  pub either : Bool
  pub rest : List Symbol
  pub parts : r ≡ labels_then labels (node_name either ∷ rest)
  pub named : NamedNode d rest

abbrev pub After : ℕ → List Symbol → Type 0
After zero r = r ≡ []
After (suc d) r = Nodes d r

pub record Closed (d : ℕ) (r : List Symbol) : Type 0 where
  pub rest : List Symbol
  pub parts : r ≡ on.Semicolon ∷ rest
  pub after : After d rest

-- the symbols that may follow
abbrev pub Completes : State → ℕ → List Symbol → Type 0
Completes at.Nothing d r = (t : List Symbol) × (r ≡ on.Version ∷ on.Semicolon ∷ on.Root ∷ on.NodeOpen ∷ t) × Body d t
Completes at.Version d r = (t : List Symbol) × (r ≡ on.Semicolon ∷ on.Root ∷ on.NodeOpen ∷ t) × Body d t
Completes at.VersionEnd d r = (t : List Symbol) × (r ≡ on.Root ∷ on.NodeOpen ∷ t) × Body d t
Completes at.Root d r = (t : List Symbol) × (r ≡ on.NodeOpen ∷ t) × Body d t
Completes at.Body d r = Body d r
Completes at.Nodes d r = Nodes d r
Completes at.BodyLabel d r = LabelledProp d r ⊎ LabelledNode d r
Completes at.NodeLabel d r = LabelledNode d r
Completes at.PropName d r = NamedProp d r
Completes at.NodeName d r = NamedNode d r
Completes at.EitherName d r = NamedProp d r ⊎ NamedNode d r
Completes at.ValueMark d r = Value d r
Completes at.Cells d r = Cells d r
Completes at.Bytes d r = InBytes d r
Completes at.ValueEnd d r = Further d r
Completes at.NodeClose d r = Closed d r
Completes at.All d r = r ≡ []

-- a symbol was read
pub record Goes (s : State) (d : ℕ) (t : Symbol) (r : List Symbol) : Type 0 where
  pub next : Place
  pub is : step s d t ≡ Some next
  pub completes : Completes next.0 next.1 r

go : (s : State) (d : ℕ) (t on_this : Symbol) (r tail : List Symbol) (next : Place) → t ∷ r ≡ on_this ∷ tail → step s d on_this ≡ Some next → Completes next.0 next.1 tail → Goes s d t r
go s d t on_this r tail next e is completes =
    let here : t ≡ on_this = cc e in
    let behind : r ≡ tail = cc e in
    record { next = next; is = ap (step s d) here ∙ is; completes = subst (Completes next.0 next.1) (sym behind) completes }

-- the first symbol of a labelled property, and of a labelled node
pub data PropFirst (d : ℕ) (t : Symbol) (r : List Symbol) : Type 0 where
  prop_label : t ≡ on.Label → LabelledProp d r → PropFirst d t r
  prop_named : (either : Bool) → t ≡ prop_name either → NamedProp d r → PropFirst d t r

pub data NodeFirst (d : ℕ) (t : Symbol) (r : List Symbol) : Type 0 where
  node_label : t ≡ on.Label → LabelledNode d r → NodeFirst d t r
  node_named : (either : Bool) → t ≡ node_name either → NamedNode d r → NodeFirst d t r

prop_first_of : (d : ℕ) (t : Symbol) (r : List Symbol) (labels : ℕ) (either : Bool) (rest : List Symbol) → t ∷ r ≡ labels_then labels (prop_name either ∷ rest) → NamedProp d rest → PropFirst d t r
prop_first_of d t r zero either rest e named = prop_named either (cc e) (let behind : r ≡ rest = cc e in subst (NamedProp d) (sym behind) named)
prop_first_of d t r (suc labels) either rest e named = prop_label (cc e) (record { labels = labels; either = either; rest = rest; parts = cc e; named = named })

pub prop_first : (d : ℕ) (t : Symbol) (r : List Symbol) → LabelledProp d (t ∷ r) → PropFirst d t r
prop_first d t r it = prop_first_of d t r it.labels it.either it.rest it.parts it.named

node_first_of : (d : ℕ) (t : Symbol) (r : List Symbol) (labels : ℕ) (either : Bool) (rest : List Symbol) → t ∷ r ≡ labels_then labels (node_name either ∷ rest) → NamedNode d rest → NodeFirst d t r
node_first_of d t r zero either rest e named = node_named either (cc e) (let behind : r ≡ rest = cc e in subst (NamedNode d) (sym behind) named)
node_first_of d t r (suc labels) either rest e named = node_label (cc e) (record { labels = labels; either = either; rest = rest; parts = cc e; named = named })

pub node_first : (d : ℕ) (t : Symbol) (r : List Symbol) → LabelledNode d (t ∷ r) → NodeFirst d t r
node_first d t r it = node_first_of d t r it.labels it.either it.rest it.parts it.named

-- what stands in a body is a property first, or nodes
body_is : (d : ℕ) (r : List Symbol) (props : List SourceProp) (rest : List Symbol) → r ≡ props_then props rest → Nodes d rest → LabelledProp d r ⊎ Nodes d r
body_is d r [] rest e nodes = inr (subst (Nodes d) (sym e) nodes)
body_is d r (p ∷ props) rest e nodes = inl (record {
  labels = p.labels;
  either = p.either;
  rest = values_then p.values (props_then props rest);
  parts = e;
  named = record { values = p.values; rest = props_then props rest; parts = refl; body = record { props = props; rest = rest; parts = refl; nodes = nodes } };
})

pub body_cases : (d : ℕ) (r : List Symbol) → Body d r → LabelledProp d r ⊎ Nodes d r
body_cases d r it = body_is d r it.props it.rest it.parts it.nodes

-- in a row of nodes stands a node first, or what closes the body
nodes_is : (d : ℕ) (r : List Symbol) (nodes : SourceNodes) (tail : List Symbol) → r ≡ nodes_then nodes tail → Closes d tail → LabelledNode d r ⊎ Closes d r
nodes_is d r none tail e closes = inr (subst (Closes d) (sym e) closes)
nodes_is d r (more labels either props children rest) tail e closes = inl (record {
  labels = labels;
  either = either;
  rest = on.NodeOpen ∷ props_then props (nodes_then children (on.NodeClose ∷ on.Semicolon ∷ nodes_then rest tail));
  parts = e;
  named = record {
    rest = props_then props (nodes_then children (on.NodeClose ∷ on.Semicolon ∷ nodes_then rest tail));
    parts = refl;
    body = record {
      props = props;
      rest = nodes_then children (on.NodeClose ∷ on.Semicolon ∷ nodes_then rest tail);
      parts = refl;
      nodes = record { nodes = children; tail = on.NodeClose ∷ on.Semicolon ∷ nodes_then rest tail; parts = refl; closes = (rest, tail, refl, closes) };
    };
  };
})

pub nodes_cases : (d : ℕ) (r : List Symbol) → Nodes d r → LabelledNode d r ⊎ Closes d r
nodes_cases d r it = nodes_is d r it.nodes it.tail it.parts it.closes

-- and the other way round
pub body_from_prop : (d : ℕ) (r : List Symbol) → LabelledProp d r → Body d r
body_from_prop d r it =
    let named = it.named in
    let body = named.body in
    record {
      props = record { labels = it.labels; either = it.either; values = named.values } ∷ body.props;
      rest = body.rest;
      parts = it.parts ∙ ap (λ (x : List Symbol). labels_then it.labels (prop_name it.either ∷ x)) (named.parts ∙ ap (values_then named.values) body.parts);
      nodes = body.nodes;
    }

pub body_from_nodes : (d : ℕ) (r : List Symbol) → Nodes d r → Body d r
body_from_nodes d r it = record { props = []; rest = r; parts = refl; nodes = it }

pub nodes_from_node : (d : ℕ) (r : List Symbol) → LabelledNode d r → Nodes d r
nodes_from_node d r it =
    let body = it.named.body in
    let inner = body.nodes in
    let outer = inner.closes in
    record {
      nodes = more it.labels it.either body.props inner.nodes outer.0;
      tail = outer.1;
      parts = it.parts ∙ ap (λ (x : List Symbol). labels_then it.labels (node_name it.either ∷ x)) (it.named.parts ∙ ap (λ (x : List Symbol). on.NodeOpen ∷ x) (body.parts ∙ ap (props_then body.props) (inner.parts ∙ ap (nodes_then inner.nodes) outer.2)));
      closes = outer.3;
    }

pub nodes_from_close : (d : ℕ) (r : List Symbol) → Closes d r → Nodes d r
nodes_from_close d r closes = record { nodes = none; tail = r; parts = refl; closes = closes }

-- a closing brace, and what stands behind it
pub closes_first : (d : ℕ) (t : Symbol) (r : List Symbol) → Closes d (t ∷ r) → (t ≡ on.NodeClose) × Closed d r
closes_first zero t r e = (cc e, record { rest = []; parts = cc e; after = refl })
closes_first (suc d) t r (nodes, tail, e, closes) =
    (cc e, record { rest = nodes_then nodes tail; parts = cc e; after = record { nodes = nodes; tail = tail; parts = refl; closes = closes } })

pub closes_from : (d : ℕ) (r : List Symbol) → Closed d r → Closes d (on.NodeClose ∷ r)
closes_from zero r it = ap (λ (x : List Symbol). on.NodeClose ∷ x) (it.parts ∙ ap (λ (x : List Symbol). on.Semicolon ∷ x) it.after)
closes_from (suc d) r it =
    let after = it.after in
    (after.nodes, after.tail, ap (λ (x : List Symbol). on.NodeClose ∷ x) (it.parts ∙ ap (λ (x : List Symbol). on.Semicolon ∷ x) after.parts), after.closes)

label_prop : (d : ℕ) (r : List Symbol) → LabelledProp d r → LabelledProp d (on.Label ∷ r)
label_prop d r it = record { labels = suc it.labels; either = it.either; rest = it.rest; parts = ap (λ (x : List Symbol). on.Label ∷ x) it.parts; named = it.named }

label_node : (d : ℕ) (r : List Symbol) → LabelledNode d r → LabelledNode d (on.Label ∷ r)
label_node d r it = record { labels = suc it.labels; either = it.either; rest = it.rest; parts = ap (λ (x : List Symbol). on.Label ∷ x) it.parts; named = it.named }

name_prop : (d : ℕ) (either : Bool) (r : List Symbol) → NamedProp d r → LabelledProp d (prop_name either ∷ r)
name_prop d either r it = record { labels = zero; either = either; rest = r; parts = refl; named = it }

name_node : (d : ℕ) (either : Bool) (r : List Symbol) → NamedNode d r → LabelledNode d (node_name either ∷ r)
name_node d either r it = record { labels = zero; either = either; rest = r; parts = refl; named = it }

-- so many symbols were read
pub record IsRead (symbols : List Symbol) (at : ℕ) (state : State) (depth : ℕ) : Type 0 where
  pub small : depth ≤ at
  pub goes_on : (rest : List Symbol) → Completes state depth rest → IsSource (take at symbols ++ rest)
  pub completes : (rest : List Symbol) → IsSource (take at symbols ++ rest) → Completes state depth rest

-- what may follow begins with a symbol that may stand, and goes on with what may follow it
prop_goes : (d : ℕ) (t : Symbol) (r : List Symbol) → PropFirst d t r → Goes at.Body d t r × Goes at.BodyLabel d t r
prop_goes d t r (prop_label e it) = (record { next = (at.BodyLabel, d); is = ap (step at.Body d) e; completes = inl it }, record { next = (at.BodyLabel, d); is = ap (step at.BodyLabel d) e; completes = inl it })
prop_goes d t r (prop_named true e it) = (record { next = (at.EitherName, d); is = ap (step at.Body d) e; completes = inl it }, record { next = (at.EitherName, d); is = ap (step at.BodyLabel d) e; completes = inl it })
prop_goes d t r (prop_named false e it) = (record { next = (at.PropName, d); is = ap (step at.Body d) e; completes = it }, record { next = (at.PropName, d); is = ap (step at.BodyLabel d) e; completes = it })

node_goes : (d : ℕ) (t : Symbol) (r : List Symbol) → NodeFirst d t r → Goes at.Body d t r × Goes at.BodyLabel d t r
node_goes d t r (node_label e it) = (record { next = (at.BodyLabel, d); is = ap (step at.Body d) e; completes = inr it }, record { next = (at.BodyLabel, d); is = ap (step at.BodyLabel d) e; completes = inr it })
node_goes d t r (node_named true e it) = (record { next = (at.EitherName, d); is = ap (step at.Body d) e; completes = inr it }, record { next = (at.EitherName, d); is = ap (step at.BodyLabel d) e; completes = inr it })
node_goes d t r (node_named false e it) = (record { next = (at.NodeName, d); is = ap (step at.Body d) e; completes = it }, record { next = (at.NodeName, d); is = ap (step at.BodyLabel d) e; completes = it })

later_goes : (d : ℕ) (t : Symbol) (r : List Symbol) → NodeFirst d t r → Goes at.Nodes d t r × Goes at.NodeLabel d t r
later_goes d t r (node_label e it) = (record { next = (at.NodeLabel, d); is = ap (step at.Nodes d) e; completes = it }, record { next = (at.NodeLabel, d); is = ap (step at.NodeLabel d) e; completes = it })
later_goes d t r (node_named true e it) = (record { next = (at.NodeName, d); is = ap (step at.Nodes d) e; completes = it }, record { next = (at.NodeName, d); is = ap (step at.NodeLabel d) e; completes = it })
later_goes d t r (node_named false e it) = (record { next = (at.NodeName, d); is = ap (step at.Nodes d) e; completes = it }, record { next = (at.NodeName, d); is = ap (step at.NodeLabel d) e; completes = it })

nodes_goes : (d : ℕ) (t : Symbol) (r : List Symbol) → LabelledNode d (t ∷ r) ⊎ Closes d (t ∷ r) → Goes at.Body d t r × Goes at.Nodes d t r
nodes_goes d t r (inl it) = ((node_goes d t r (node_first d t r it)).0, (later_goes d t r (node_first d t r it)).0)
nodes_goes d t r (inr it) =
    let both = closes_first d t r it in
    (record { next = (at.NodeClose, d); is = ap (step at.Body d) both.0; completes = both.1 }, record { next = (at.NodeClose, d); is = ap (step at.Nodes d) both.0; completes = both.1 })

body_goes : (d : ℕ) (t : Symbol) (r : List Symbol) → LabelledProp d (t ∷ r) ⊎ Nodes d (t ∷ r) → Goes at.Body d t r
body_goes d t r (inl it) = (prop_goes d t r (prop_first d t r it)).0
body_goes d t r (inr it) = (nodes_goes d t r (nodes_cases d (t ∷ r) it)).0

label_goes : (d : ℕ) (t : Symbol) (r : List Symbol) → LabelledProp d (t ∷ r) ⊎ LabelledNode d (t ∷ r) → Goes at.BodyLabel d t r
label_goes d t r (inl it) = (prop_goes d t r (prop_first d t r it)).1
label_goes d t r (inr it) = (node_goes d t r (node_first d t r it)).1

values_goes : (d : ℕ) (t : Symbol) (r : List Symbol) (values : List SourceValue) (rest : List Symbol) → t ∷ r ≡ values_then values rest → Body d rest → Goes at.PropName d t r × Goes at.EitherName d t r
values_goes d t r [] rest e body = (go at.PropName d t on.Semicolon r rest (at.Body, d) e refl body, go at.EitherName d t on.Semicolon r rest (at.Body, d) e refl body)
values_goes d t r (v ∷ values) rest e body =
    let value : Value d (value_then v (further_then values rest)) = record { value = v; rest = further_then values rest; parts = refl; further = record { values = values; rest = rest; parts = refl; body = body } } in
    (go at.PropName d t on.Equals r (value_then v (further_then values rest)) (at.ValueMark, d) e refl value, go at.EitherName d t on.Equals r (value_then v (further_then values rest)) (at.ValueMark, d) e refl value)

either_goes : (d : ℕ) (t : Symbol) (r : List Symbol) → NamedProp d (t ∷ r) ⊎ NamedNode d (t ∷ r) → Goes at.EitherName d t r
either_goes d t r (inl it) = (values_goes d t r it.values it.rest it.parts it.body).1
either_goes d t r (inr it) = go at.EitherName d t on.NodeOpen r it.rest (at.Body, suc d) it.parts refl it.body

value_goes : (d : ℕ) (t : Symbol) (r : List Symbol) (value : SourceValue) (rest : List Symbol) → t ∷ r ≡ value_then value rest → Further d rest → Goes at.ValueMark d t r
value_goes d t r (cells references) rest e further = go at.ValueMark d t on.CellsOpen r (cells_then references rest) (at.Cells, d) e refl (record { references = references; rest = rest; parts = refl; further = further })
value_goes d t r text rest e further = go at.ValueMark d t on.Text r rest (at.ValueEnd, d) e refl further
value_goes d t r (bytes count) rest e further = go at.ValueMark d t on.BytesOpen r (bytes_then count rest) (at.Bytes, d) e refl (record { count = count; rest = rest; parts = refl; further = further })
value_goes d t r path rest e further = go at.ValueMark d t on.Reference r rest (at.ValueEnd, d) e refl further

cells_goes : (d : ℕ) (t : Symbol) (r : List Symbol) (references : List Bool) (rest : List Symbol) → t ∷ r ≡ cells_then references rest → Further d rest → Goes at.Cells d t r
cells_goes d t r [] rest e further = go at.Cells d t on.CellsClose r rest (at.ValueEnd, d) e refl further
cells_goes d t r (true ∷ references) rest e further = go at.Cells d t on.Reference r (cells_then references rest) (at.Cells, d) e refl (record { references = references; rest = rest; parts = refl; further = further })
cells_goes d t r (false ∷ references) rest e further = go at.Cells d t on.Number r (cells_then references rest) (at.Cells, d) e refl (record { references = references; rest = rest; parts = refl; further = further })

bytes_goes : (d : ℕ) (t : Symbol) (r : List Symbol) (count : ℕ) (rest : List Symbol) → t ∷ r ≡ bytes_then count rest → Further d rest → Goes at.Bytes d t r
bytes_goes d t r zero rest e further = go at.Bytes d t on.BytesClose r rest (at.ValueEnd, d) e refl further
bytes_goes d t r (suc count) rest e further = go at.Bytes d t on.Pair r (bytes_then count rest) (at.Bytes, d) e refl (record { count = count; rest = rest; parts = refl; further = further })

further_goes : (d : ℕ) (t : Symbol) (r : List Symbol) (values : List SourceValue) (rest : List Symbol) → t ∷ r ≡ further_then values rest → Body d rest → Goes at.ValueEnd d t r
further_goes d t r [] rest e body = go at.ValueEnd d t on.Semicolon r rest (at.Body, d) e refl body
further_goes d t r (v ∷ values) rest e body =
    go at.ValueEnd d t on.Comma r (value_then v (further_then values rest)) (at.ValueMark, d) e refl (record { value = v; rest = further_then values rest; parts = refl; further = record { values = values; rest = rest; parts = refl; body = body } })

closed_goes : (d : ℕ) (t : Symbol) (r : List Symbol) → Closed d (t ∷ r) → Goes at.NodeClose d t r
closed_goes zero t r it = go at.NodeClose zero t on.Semicolon r it.rest (at.All, zero) it.parts refl it.after
closed_goes (suc d) t r it = go at.NodeClose (suc d) t on.Semicolon r it.rest (at.Nodes, d) it.parts refl it.after

pub goes : (s : State) (d : ℕ) (t : Symbol) (r : List Symbol) → Completes s d (t ∷ r) → Goes s d t r
goes at.Nothing d t r (u, e, body) = go at.Nothing d t on.Version r (on.Semicolon ∷ on.Root ∷ on.NodeOpen ∷ u) (at.Version, d) e refl (u, refl, body)
goes at.Version d t r (u, e, body) = go at.Version d t on.Semicolon r (on.Root ∷ on.NodeOpen ∷ u) (at.VersionEnd, d) e refl (u, refl, body)
goes at.VersionEnd d t r (u, e, body) = go at.VersionEnd d t on.Root r (on.NodeOpen ∷ u) (at.Root, d) e refl (u, refl, body)
goes at.Root d t r (u, e, body) = go at.Root d t on.NodeOpen r u (at.Body, d) e refl body
goes at.Body d t r it = body_goes d t r (body_cases d (t ∷ r) it)
goes at.Nodes d t r it = (nodes_goes d t r (nodes_cases d (t ∷ r) it)).1
goes at.BodyLabel d t r it = label_goes d t r it
goes at.NodeLabel d t r it = (later_goes d t r (node_first d t r it)).1
goes at.PropName d t r it = (values_goes d t r it.values it.rest it.parts it.body).0
goes at.NodeName d t r it = go at.NodeName d t on.NodeOpen r it.rest (at.Body, suc d) it.parts refl it.body
goes at.EitherName d t r it = either_goes d t r it
goes at.ValueMark d t r it = value_goes d t r it.value it.rest it.parts it.further
goes at.Cells d t r it = cells_goes d t r it.references it.rest it.parts it.further
goes at.Bytes d t r it = bytes_goes d t r it.count it.rest it.parts it.further
goes at.ValueEnd d t r it = further_goes d t r it.values it.rest it.parts it.body
goes at.NodeClose d t r it = closed_goes d t r it
goes at.All d t r e = absurd (cc e)

-- and the other way round: what may follow a symbol that may stand, may follow with it
back_to : (n m : Place) (r : List Symbol) → Some m ≡ Some n → Completes n.0 n.1 r → Completes m.0 m.1 r
back_to n m r e it =
    let same : m ≡ n = cc e in
    subst (λ (p : Place). Completes p.0 p.1 r) (sym same) it

with_label : (d : ℕ) (r : List Symbol) → LabelledProp d r ⊎ LabelledNode d r → LabelledProp d (on.Label ∷ r) ⊎ LabelledNode d (on.Label ∷ r)
with_label d r (inl it) = inl (label_prop d r it)
with_label d r (inr it) = inr (label_node d r it)

with_name : (d : ℕ) (r : List Symbol) → NamedProp d r ⊎ NamedNode d r → LabelledProp d (on.EitherName ∷ r) ⊎ LabelledNode d (on.EitherName ∷ r)
with_name d r (inl it) = inl (name_prop d true r it)
with_name d r (inr it) = inr (name_node d true r it)

to_body : (d : ℕ) (r : List Symbol) → LabelledProp d r ⊎ LabelledNode d r → Body d r
to_body d r (inl it) = body_from_prop d r it
to_body d r (inr it) = body_from_nodes d r (nodes_from_node d r it)

with_value : (d : ℕ) (r : List Symbol) → Value d r → NamedProp d (on.Equals ∷ r)
with_value d r it = record {
  values = it.value ∷ it.further.values;
  rest = it.further.rest;
  parts = ap (λ (x : List Symbol). on.Equals ∷ x) (it.parts ∙ ap (value_then it.value) it.further.parts);
  body = it.further.body;
}

with_further : (d : ℕ) (r : List Symbol) → Value d r → Further d (on.Comma ∷ r)
with_further d r it = record {
  values = it.value ∷ it.further.values;
  rest = it.further.rest;
  parts = ap (λ (x : List Symbol). on.Comma ∷ x) (it.parts ∙ ap (value_then it.value) it.further.parts);
  body = it.further.body;
}

no_values : (d : ℕ) (r : List Symbol) → Body d r → NamedProp d (on.Semicolon ∷ r)
no_values d r it = record { values = []; rest = r; parts = refl; body = it }

opened : (d : ℕ) (r : List Symbol) → Body (suc d) r → NamedNode d (on.NodeOpen ∷ r)
opened d r it = record { rest = r; parts = refl; body = it }

closed_nodes : (d : ℕ) (r : List Symbol) → Closed d r → Nodes d (on.NodeClose ∷ r)
closed_nodes d r it = nodes_from_close d (on.NodeClose ∷ r) (closes_from d r it)

then_on : (x : Symbol) (r : List Symbol) (to : List Symbol) → r ≡ to → x ∷ r ≡ x ∷ to
then_on x r to e = ap (λ (y : List Symbol). x ∷ y) e

pub back : (s : State) (d : ℕ) (t : Symbol) (n : Place) (r : List Symbol) → step s d t ≡ Some n → Completes n.0 n.1 r → Completes s d (t ∷ r)
back at.Nothing d on.Version n r e c = let it = back_to n (at.Version, d) r e c in (it.0, then_on on.Version r (on.Semicolon ∷ on.Root ∷ on.NodeOpen ∷ it.0) it.1, it.2)
back at.Version d on.Semicolon n r e c = let it = back_to n (at.VersionEnd, d) r e c in (it.0, then_on on.Semicolon r (on.Root ∷ on.NodeOpen ∷ it.0) it.1, it.2)
back at.VersionEnd d on.Root n r e c = let it = back_to n (at.Root, d) r e c in (it.0, then_on on.Root r (on.NodeOpen ∷ it.0) it.1, it.2)
back at.Root d on.NodeOpen n r e c = (r, refl, back_to n (at.Body, d) r e c)
back at.Body d on.Label n r e c = to_body d (on.Label ∷ r) (with_label d r (back_to n (at.BodyLabel, d) r e c))
back at.Body d on.PropName n r e c = body_from_prop d (on.PropName ∷ r) (name_prop d false r (back_to n (at.PropName, d) r e c))
back at.Body d on.NodeName n r e c = body_from_nodes d (on.NodeName ∷ r) (nodes_from_node d (on.NodeName ∷ r) (name_node d false r (back_to n (at.NodeName, d) r e c)))
back at.Body d on.EitherName n r e c = to_body d (on.EitherName ∷ r) (with_name d r (back_to n (at.EitherName, d) r e c))
back at.Body d on.NodeClose n r e c = body_from_nodes d (on.NodeClose ∷ r) (closed_nodes d r (back_to n (at.NodeClose, d) r e c))
back at.BodyLabel d on.Label n r e c = with_label d r (back_to n (at.BodyLabel, d) r e c)
back at.BodyLabel d on.PropName n r e c = inl (name_prop d false r (back_to n (at.PropName, d) r e c))
back at.BodyLabel d on.NodeName n r e c = inr (name_node d false r (back_to n (at.NodeName, d) r e c))
back at.BodyLabel d on.EitherName n r e c = with_name d r (back_to n (at.EitherName, d) r e c)
back at.Nodes d on.Label n r e c = nodes_from_node d (on.Label ∷ r) (label_node d r (back_to n (at.NodeLabel, d) r e c))
back at.Nodes d on.NodeName n r e c = nodes_from_node d (on.NodeName ∷ r) (name_node d false r (back_to n (at.NodeName, d) r e c))
back at.Nodes d on.EitherName n r e c = nodes_from_node d (on.EitherName ∷ r) (name_node d true r (back_to n (at.NodeName, d) r e c))
back at.Nodes d on.NodeClose n r e c = closed_nodes d r (back_to n (at.NodeClose, d) r e c)
back at.NodeLabel d on.Label n r e c = label_node d r (back_to n (at.NodeLabel, d) r e c)
back at.NodeLabel d on.NodeName n r e c = name_node d false r (back_to n (at.NodeName, d) r e c)
back at.NodeLabel d on.EitherName n r e c = name_node d true r (back_to n (at.NodeName, d) r e c)
back at.PropName d on.Equals n r e c = with_value d r (back_to n (at.ValueMark, d) r e c)
back at.PropName d on.Semicolon n r e c = no_values d r (back_to n (at.Body, d) r e c)
back at.NodeName d on.NodeOpen n r e c = opened d r (back_to n (at.Body, suc d) r e c)
back at.EitherName d on.Equals n r e c = inl (with_value d r (back_to n (at.ValueMark, d) r e c))
back at.EitherName d on.Semicolon n r e c = inl (no_values d r (back_to n (at.Body, d) r e c))
back at.EitherName d on.NodeOpen n r e c = inr (opened d r (back_to n (at.Body, suc d) r e c))
back at.ValueMark d on.CellsOpen n r e c = let it = back_to n (at.Cells, d) r e c in record { value = cells it.references; rest = it.rest; parts = then_on on.CellsOpen r (cells_then it.references it.rest) it.parts; further = it.further }
back at.ValueMark d on.Text n r e c = record { value = text; rest = r; parts = refl; further = back_to n (at.ValueEnd, d) r e c }
back at.ValueMark d on.BytesOpen n r e c = let it = back_to n (at.Bytes, d) r e c in record { value = bytes it.count; rest = it.rest; parts = then_on on.BytesOpen r (bytes_then it.count it.rest) it.parts; further = it.further }
back at.ValueMark d on.Reference n r e c = record { value = path; rest = r; parts = refl; further = back_to n (at.ValueEnd, d) r e c }
back at.Cells d on.Number n r e c = let it = back_to n (at.Cells, d) r e c in record { references = false ∷ it.references; rest = it.rest; parts = then_on on.Number r (cells_then it.references it.rest) it.parts; further = it.further }
back at.Cells d on.Reference n r e c = let it = back_to n (at.Cells, d) r e c in record { references = true ∷ it.references; rest = it.rest; parts = then_on on.Reference r (cells_then it.references it.rest) it.parts; further = it.further }
back at.Cells d on.CellsClose n r e c = record { references = []; rest = r; parts = refl; further = back_to n (at.ValueEnd, d) r e c }
back at.Bytes d on.Pair n r e c = let it = back_to n (at.Bytes, d) r e c in record { count = suc it.count; rest = it.rest; parts = then_on on.Pair r (bytes_then it.count it.rest) it.parts; further = it.further }
back at.Bytes d on.BytesClose n r e c = record { count = zero; rest = r; parts = refl; further = back_to n (at.ValueEnd, d) r e c }
back at.ValueEnd d on.Comma n r e c = with_further d r (back_to n (at.ValueMark, d) r e c)
back at.ValueEnd d on.Semicolon n r e c = record { values = []; rest = r; parts = refl; body = back_to n (at.Body, d) r e c }
back at.NodeClose zero on.Semicolon n r e c = record { rest = r; parts = refl; after = back_to n (at.All, zero) r e c }
back at.NodeClose (suc d) on.Semicolon n r e c = record { rest = r; parts = refl; after = back_to n (at.Nodes, d) r e c }
back s d t n r e c = absurd (cc e)

-- at each place something may follow
pub record Alive (s : State) (d : ℕ) : Type 0 where
  pub rest : List Symbol
  pub completes : Completes s d rest

ends : (d : ℕ) → (r : List Symbol) × Closes d r
ends zero = (on.NodeClose ∷ on.Semicolon ∷ [], refl)
ends (suc d) = let e = ends d in (on.NodeClose ∷ on.Semicolon ∷ e.0, (none, e.0, refl, e.1))

body_ends : (d : ℕ) → (r : List Symbol) × Body d r
body_ends d = let e = ends d in (e.0, body_from_nodes d e.0 (nodes_from_close d e.0 e.1))

further_ends : (d : ℕ) → (r : List Symbol) × Further d r
further_ends d = let b = body_ends d in (on.Semicolon ∷ b.0, record { values = []; rest = b.0; parts = refl; body = b.1 })

pub alive : (s : State) (d : ℕ) → Alive s d
alive at.Nothing d = let b = body_ends d in record { rest = on.Version ∷ on.Semicolon ∷ on.Root ∷ on.NodeOpen ∷ b.0; completes = (b.0, refl, b.1) }
alive at.Version d = let b = body_ends d in record { rest = on.Semicolon ∷ on.Root ∷ on.NodeOpen ∷ b.0; completes = (b.0, refl, b.1) }
alive at.VersionEnd d = let b = body_ends d in record { rest = on.Root ∷ on.NodeOpen ∷ b.0; completes = (b.0, refl, b.1) }
alive at.Root d = let b = body_ends d in record { rest = on.NodeOpen ∷ b.0; completes = (b.0, refl, b.1) }
alive at.Body d = let b = body_ends d in record { rest = b.0; completes = b.1 }
alive at.Nodes d = let e = ends d in record { rest = e.0; completes = nodes_from_close d e.0 e.1 }
alive at.BodyLabel d = let b = body_ends d in record { rest = on.PropName ∷ on.Semicolon ∷ b.0; completes = inl (name_prop d false (on.Semicolon ∷ b.0) (no_values d b.0 b.1)) }
alive at.NodeLabel d = let b = body_ends (suc d) in record { rest = on.NodeName ∷ on.NodeOpen ∷ b.0; completes = name_node d false (on.NodeOpen ∷ b.0) (opened d b.0 b.1) }
alive at.PropName d = let b = body_ends d in record { rest = on.Semicolon ∷ b.0; completes = no_values d b.0 b.1 }
alive at.NodeName d = let b = body_ends (suc d) in record { rest = on.NodeOpen ∷ b.0; completes = opened d b.0 b.1 }
alive at.EitherName d = let b = body_ends d in record { rest = on.Semicolon ∷ b.0; completes = inl (no_values d b.0 b.1) }
alive at.ValueMark d = let f = further_ends d in record { rest = on.Text ∷ f.0; completes = record { value = text; rest = f.0; parts = refl; further = f.1 } }
alive at.Cells d = let f = further_ends d in record { rest = on.CellsClose ∷ f.0; completes = record { references = []; rest = f.0; parts = refl; further = f.1 } }
alive at.Bytes d = let f = further_ends d in record { rest = on.BytesClose ∷ f.0; completes = record { count = zero; rest = f.0; parts = refl; further = f.1 } }
alive at.ValueEnd d = let f = further_ends d in record { rest = f.0; completes = f.1 }
alive at.NodeClose zero = record { rest = on.Semicolon ∷ []; completes = record { rest = []; parts = refl; after = refl } }
alive at.NodeClose (suc d) = let e = ends d in record { rest = on.Semicolon ∷ e.0; completes = record { rest = e.0; parts = refl; after = nodes_from_close d e.0 e.1 } }
alive at.All d = record { rest = []; completes = refl }

-- the whole source alone may end
not_labels : (labels : ℕ) (x : Symbol) (rest : List Symbol) → [] ≡ labels_then labels (x ∷ rest) → ⊥
not_labels zero x rest e = cc e
not_labels (suc labels) x rest e = cc e

not_closed : (d : ℕ) → Closes d [] → ⊥
not_closed zero e = cc e
not_closed (suc d) (nodes, tail, e, closes) = cc e

not_node : (d : ℕ) → LabelledNode d [] → ⊥
not_node d it = not_labels it.labels (node_name it.either) it.rest it.parts

not_prop : (d : ℕ) → LabelledProp d [] → ⊥
not_prop d it = not_labels it.labels (prop_name it.either) it.rest it.parts

not_nodes : (d : ℕ) → LabelledNode d [] ⊎ Closes d [] → ⊥
not_nodes d (inl it) = not_node d it
not_nodes d (inr it) = not_closed d it

not_body : (d : ℕ) → LabelledProp d [] ⊎ Nodes d [] → ⊥
not_body d (inl it) = not_prop d it
not_body d (inr it) = not_nodes d (nodes_cases d [] it)

not_label : (d : ℕ) → LabelledProp d [] ⊎ LabelledNode d [] → ⊥
not_label d (inl it) = not_prop d it
not_label d (inr it) = not_node d it

not_values : (values : List SourceValue) (rest : List Symbol) → [] ≡ values_then values rest → ⊥
not_values [] rest e = cc e
not_values (v ∷ values) rest e = cc e

not_further : (values : List SourceValue) (rest : List Symbol) → [] ≡ further_then values rest → ⊥
not_further [] rest e = cc e
not_further (v ∷ values) rest e = cc e

not_value : (value : SourceValue) (rest : List Symbol) → [] ≡ value_then value rest → ⊥
not_value (cells references) rest e = cc e
not_value text rest e = cc e
not_value (bytes count) rest e = cc e
not_value path rest e = cc e

not_cells : (references : List Bool) (rest : List Symbol) → [] ≡ cells_then references rest → ⊥
not_cells [] rest e = cc e
not_cells (true ∷ references) rest e = cc e
not_cells (false ∷ references) rest e = cc e

not_bytes : (count : ℕ) (rest : List Symbol) → [] ≡ bytes_then count rest → ⊥
not_bytes zero rest e = cc e
not_bytes (suc count) rest e = cc e

not_either : (d : ℕ) → NamedProp d [] ⊎ NamedNode d [] → ⊥
not_either d (inl it) = not_values it.values it.rest it.parts
not_either d (inr it) = let e = it.parts in cc e

pub ended : (s : State) (d : ℕ) → Completes s d [] → s ≡ at.All
ended at.Nothing d (t, e, b) = cc e
ended at.Version d (t, e, b) = cc e
ended at.VersionEnd d (t, e, b) = cc e
ended at.Root d (t, e, b) = cc e
ended at.Body d it = absurd (not_body d (body_cases d [] it))
ended at.Nodes d it = absurd (not_nodes d (nodes_cases d [] it))
ended at.BodyLabel d it = absurd (not_label d it)
ended at.NodeLabel d it = absurd (not_node d it)
ended at.PropName d it = absurd (not_values it.values it.rest it.parts)
ended at.NodeName d it = let e = it.parts in cc e
ended at.EitherName d it = absurd (not_either d it)
ended at.ValueMark d it = absurd (not_value it.value it.rest it.parts)
ended at.Cells d it = absurd (not_cells it.references it.rest it.parts)
ended at.Bytes d it = absurd (not_bytes it.count it.rest it.parts)
ended at.ValueEnd d it = absurd (not_further it.values it.rest it.parts)
ended at.NodeClose d it = let e = it.parts in cc e
ended at.All d e = refl

taken : (symbols : List Symbol) (place : ℕ) (t : Symbol) (rest : List Symbol) → place < length symbols → t ≡ get_or symbols place t → take (place + 1) symbols ++ rest ≡ take place symbols ++ (t ∷ rest)
taken symbols place t rest lt is =
    ap (λ (x : List Symbol). x ++ rest) (take_more symbols place t lt) ∙ append_assoc (take place symbols) (get_or symbols place t ∷ []) rest ∙ ap (λ (x : Symbol). take place symbols ++ (x ∷ rest)) (sym is)

-- one more symbol was read
pub read_more : (symbols : List Symbol) (place : ℕ) (state : State) (depth : ℕ) (t : Symbol) (next : State) (below : ℕ) → IsRead symbols place state depth → place < length symbols → t ≡ get_or symbols place t → step state depth t ≡ Some (next, below) → below ≤ depth + 1 → IsRead symbols (place + 1) next below
read_more symbols place state depth t next below read lt is steps deeper = record {
  small = omega (arith, read.small);
  goes_on = λ rest it. subst IsSource (sym (taken symbols place t rest lt is)) (read.goes_on (t ∷ rest) (back state depth t (next, below) rest steps it));
  completes = λ rest source.
      let here = goes state depth t rest (read.completes (t ∷ rest) (subst IsSource (taken symbols place t rest lt is) source)) in
      let same : here.next ≡ (next, below) = cc (here.is, steps) in
      subst (λ (p : Place). Completes p.0 p.1 rest) same here.completes;
}

-- a symbol may not stand here
pub unexpected_here : (symbols : List Symbol) (place : ℕ) (state : State) (depth : ℕ) (t : Symbol) → IsRead symbols place state depth → place < length symbols → t ≡ get_or symbols place t → step state depth t ≡ None → IsUnexpectedAt symbols place
unexpected_here symbols place state depth t read lt is stops =
    let living = alive state depth in
    record {
      within = omega arith;
      rest = living.rest;
      front = read.goes_on living.rest living.completes;
      not_here = λ _ rest source.
          let here = goes state depth t rest (read.completes (t ∷ rest) (subst IsSource (taken symbols place t rest lt is) source)) in
          cc (here.is, stops);
      not_all = λ e _. absurd (omega (arith, e, lt));
    }

-- nor may the text end here
pub unexpected_end : (symbols : List Symbol) (place : ℕ) (state : State) (depth : ℕ) → IsRead symbols place state depth → length symbols ≤ place → state ≢ at.All → IsUnexpectedAt symbols (length symbols)
unexpected_end symbols place state depth read over unfinished =
    let living = alive state depth in
    let whole : take place symbols ≡ symbols = take_all place symbols over in
    let all : take (length symbols) symbols ≡ take place symbols = take_all (length symbols) symbols (omega arith) ∙ sym whole in
    record {
      within = omega arith;
      rest = living.rest;
      front = subst (λ (x : List Symbol). IsSource (x ++ living.rest)) (sym all) (read.goes_on living.rest living.completes);
      not_here = λ lt rest source. absurd (omega (arith, lt));
      not_all = λ _ source. unfinished (ended state depth (read.completes [] (subst IsSource (sym (append-nil (take place symbols) ∙ whole)) source)));
    }

-- the symbols are a source
pub read_all : (symbols : List Symbol) (place : ℕ) (state : State) (depth : ℕ) → IsRead symbols place state depth → length symbols ≤ place → state ≡ at.All → IsSource symbols
read_all symbols place state depth read over is =
    let nothing : Completes at.All depth [] = refl in
    subst IsSource (append-nil (take place symbols) ∙ take_all place symbols over) (read.goes_on [] (subst (λ (s : State). Completes s depth []) (sym is) nothing))
