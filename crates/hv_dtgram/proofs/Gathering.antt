-- What is gathered from the pieces of a source.
use Rattle.std.proofs.Common.{◌≡◌, ℕ, ◌+◌, ◌<◌, List, [], ◌∷◌, ◌++◌, length, drop, get_or, refl, sym, ap, ◌∙◌, append_assoc, true, false, Ok, Err, subst}
use Rattle.std.specs.Prelude.{Option, Some, None, map, MatchOption}
use Rattle.std.proofs.lemmas.List.{append-nil, drop_more}
use Rattle.hv_dtlex.specs.Tokens.{token_at}
use Rattle.hv_dtlex.specs.declared.token.Token.{Token}
use Rattle.hv_dtlex.specs.declared.token.BadToken.{BadToken}
use Rattle.hv_dtlex.specs.declared.token.Mode.{Mode}
use Rattle.hv_dtgram.specs.Lexed.{Lexes, mode_after}
use Rattle.hv_dtgram.specs.Contents.{Piece, mark, word, piece_of, labels_pieces, cells_pieces, bytes_pieces, value_pieces, further_pieces, values_pieces, entry_pieces, entries_pieces, source_pieces}
use Rattle.hv_dtgram.specs.Gathering.{gather, nothing_gathered, without_last}
use Rattle.hv_dtgram.specs.declared.symbol.Symbol.TheVariants as on
use Rattle.hv_dtgram.specs.declared.contents.Named.{Named}
use Rattle.hv_dtgram.specs.declared.contents.Cell.{Cell}
use Rattle.hv_dtgram.specs.declared.contents.Cell.TheVariants as cell
use Rattle.hv_dtgram.specs.declared.contents.Value.{Value}
use Rattle.hv_dtgram.specs.declared.contents.Value.TheVariants as value
use Rattle.hv_dtgram.specs.declared.contents.Entry.{Entry}
use Rattle.hv_dtgram.specs.declared.contents.Entry.TheVariants as entry
use Rattle.hv_dtgram.specs.declared.gathered.Gathered.{Gathered}

-- pieces taken in one after the other
abbrev pub all_gathered : Gathered → List Piece → Gathered
all_gathered it [] = it
all_gathered it (piece ∷ pieces) = all_gathered (gather it piece) pieces

-- one more step of a run over a list: what is left gives the same
pub run_more : {X S R : Type 0} (run : S → List X → R) (xs : List X) (i : ℕ) (d : X) (state next : S) (whole : R) → i < length xs → ((rest : List X) → run state (get_or xs i d ∷ rest) ≡ run next rest) → run state (drop i xs) ≡ whole → run next (drop (i + 1) xs) ≡ whole
run_more run xs i d state next whole lt steps same =
    sym (steps (drop (i + 1) xs)) ∙ ap (run state) (sym (drop_more xs i d lt)) ∙ same

-- between entries
abbrev pub idle : List Entry → Gathered
idle entries = record { labels = []; name = None; values = []; cells = []; in_cells = false; bytes = []; entries = entries }

-- behind a name and values
abbrev at_values : List Named → Named → List Value → List Entry → Gathered
at_values labels name values entries = record { labels = labels; name = Some name; values = values; cells = []; in_cells = false; bytes = []; entries = entries }

labels_on : (labels : List Named) (tail : List Piece) (before : List Named) (entries : List Entry) → all_gathered (record (idle entries) { labels = before }) (labels_pieces labels tail) ≡ all_gathered (record (idle entries) { labels = before ++ labels }) tail
labels_on [] tail before entries = ap (λ (ls : List Named). all_gathered (record (idle entries) { labels = ls }) tail) (sym (append-nil before))
labels_on (name ∷ labels) tail before entries =
    labels_on labels tail (before ++ name ∷ []) entries ∙ ap (λ (ls : List Named). all_gathered (record (idle entries) { labels = ls }) tail) (append_assoc before (name ∷ []) labels)

cells_on : (cells : List Cell) (tail : List Piece) (before : List Cell) (labels : List Named) (name : Named) (values : List Value) (entries : List Entry)
    → all_gathered (record (at_values labels name values entries) { cells = before; in_cells = true }) (cells_pieces cells tail) ≡ all_gathered (at_values labels name (values ++ value.Cells (before ++ cells) ∷ []) entries) tail
cells_on [] tail before labels name values entries =
    ap (λ (cs : List Cell). all_gathered (at_values labels name (values ++ value.Cells cs ∷ []) entries) tail) (sym (append-nil before))
cells_on (cell.Number n ∷ cells) tail before labels name values entries =
    cells_on cells tail (before ++ cell.Number n ∷ []) labels name values entries
    ∙ ap (λ (cs : List Cell). all_gathered (at_values labels name (values ++ value.Cells cs ∷ []) entries) tail) (append_assoc before (cell.Number n ∷ []) cells)
cells_on (cell.Phandle label ∷ cells) tail before labels name values entries =
    cells_on cells tail (before ++ cell.Phandle label ∷ []) labels name values entries
    ∙ ap (λ (cs : List Cell). all_gathered (at_values labels name (values ++ value.Cells cs ∷ []) entries) tail) (append_assoc before (cell.Phandle label ∷ []) cells)

bytes_on : (bytes : List ℕ) (tail : List Piece) (before : List ℕ) (labels : List Named) (name : Named) (values : List Value) (entries : List Entry)
    → all_gathered (record (at_values labels name values entries) { bytes = before }) (bytes_pieces bytes tail) ≡ all_gathered (at_values labels name (values ++ value.Bytes (before ++ bytes) ∷ []) entries) tail
bytes_on [] tail before labels name values entries =
    ap (λ (bs : List ℕ). all_gathered (at_values labels name (values ++ value.Bytes bs ∷ []) entries) tail) (sym (append-nil before))
bytes_on (byte ∷ bytes) tail before labels name values entries =
    bytes_on bytes tail (before ++ byte ∷ []) labels name values entries
    ∙ ap (λ (bs : List ℕ). all_gathered (at_values labels name (values ++ value.Bytes bs ∷ []) entries) tail) (append_assoc before (byte ∷ []) bytes)

value_on : (one : Value) (tail : List Piece) (labels : List Named) (name : Named) (values : List Value) (entries : List Entry)
    → all_gathered (at_values labels name values entries) (value_pieces one tail) ≡ all_gathered (at_values labels name (values ++ one ∷ []) entries) tail
value_on (value.Cells cells) tail labels name values entries = cells_on cells tail [] labels name values entries
value_on (value.Text bytes) tail labels name values entries = refl
value_on (value.Bytes bytes) tail labels name values entries = bytes_on bytes tail [] labels name values entries
value_on (value.Path label) tail labels name values entries = refl

abbrev with_prop : List Named → Named → List Entry → List Value → Gathered
with_prop labels name entries values = idle (entries ++ entry.Property labels name values ∷ [])

further_on : (further : List Value) (tail : List Piece) (labels : List Named) (name : Named) (values : List Value) (entries : List Entry)
    → all_gathered (at_values labels name values entries) (further_pieces further tail) ≡ all_gathered (with_prop labels name entries (values ++ further)) tail
further_on [] tail labels name values entries = ap (λ (vs : List Value). all_gathered (with_prop labels name entries vs) tail) (sym (append-nil values))
further_on (one ∷ further) tail labels name values entries =
    value_on one (further_pieces further tail) labels name values entries
    ∙ further_on further tail labels name (values ++ one ∷ []) entries
    ∙ ap (λ (vs : List Value). all_gathered (with_prop labels name entries vs) tail) (append_assoc values (one ∷ []) further)

values_on : (values : List Value) (tail : List Piece) (labels : List Named) (name : Named) (entries : List Entry)
    → all_gathered (at_values labels name [] entries) (values_pieces values tail) ≡ all_gathered (with_prop labels name entries values) tail
values_on [] tail labels name entries = refl
values_on (one ∷ values) tail labels name entries =
    value_on one (further_pieces values tail) labels name [] entries ∙ further_on values tail labels name (one ∷ []) entries

entry_on : (one : Entry) (tail : List Piece) (entries : List Entry) → all_gathered (idle entries) (entry_pieces one tail) ≡ all_gathered (idle (entries ++ one ∷ [])) tail
entry_on (entry.Property labels name values) tail entries =
    labels_on labels (word name ∷ values_pieces values tail) [] entries ∙ values_on values tail labels name entries
entry_on (entry.Open labels name) tail entries = labels_on labels (word name ∷ mark on.NodeOpen ∷ tail) [] entries
entry_on entry.Close tail entries = refl

entries_on : (more : List Entry) (tail : List Piece) (entries : List Entry) → all_gathered (idle entries) (entries_pieces more tail) ≡ all_gathered (idle (entries ++ more)) tail
entries_on [] tail entries = ap (λ (es : List Entry). all_gathered (idle es) tail) (sym (append-nil entries))
entries_on (one ∷ more) tail entries =
    entry_on one (entries_pieces more tail) entries
    ∙ entries_on more tail (entries ++ one ∷ [])
    ∙ ap (λ (es : List Entry). all_gathered (idle es) tail) (append_assoc entries (one ∷ []) more)

-- from the pieces of a source come its entries, and the mark that closes the root
pub source_gathered : (entries : List Entry) → all_gathered nothing_gathered (source_pieces entries) ≡ idle (entries ++ entry.Close ∷ [])
source_gathered entries = entries_on entries (mark on.NodeClose ∷ mark on.Semicolon ∷ []) []

pub last_of : {X : Type 0} (xs : List X) (x : X) → without_last (xs ++ x ∷ []) ≡ xs
last_of [] x = refl
last_of (y ∷ []) x = refl
last_of (y ∷ z ∷ xs) x = λ i. y ∷ last_of (z ∷ xs) x i

-- where the last is taken away, those before it are left
pub all_but_last : {X : Type 0} (was is : List X) (taken : Option X) → MatchOption taken ((was ≡ []) × (is ≡ [])) (λ one. was ≡ is ++ one ∷ []) → is ≡ without_last was
all_but_last was is None both = both.1 ∙ ap without_last (sym both.0)
all_but_last was is (Some one) here = sym (last_of is one) ∙ ap without_last (sym here)

-- the tokens that are left lead to the same
pub record Leads (text : List ℕ) (at : ℕ) (mode : Mode) (it : Gathered) (tokens : List Token) : Type 0 where
  pub left : List Token
  pub lexes : Lexes text at mode left None
  pub same : all_gathered it (map (piece_of text) left) ≡ all_gathered nothing_gathered (map (piece_of text) tokens)

some_token : (text : List ℕ) (at : ℕ) (mode : Mode) (it new : Gathered) (tokens left : List Token) (token : Token) → Lexes text at mode left None → all_gathered it (map (piece_of text) left) ≡ all_gathered nothing_gathered (map (piece_of text) tokens)
    → token_at text at mode ≡ Ok (Some token) → new ≡ gather it (piece_of text token) → Leads text token.end (mode_after mode token.kind) new tokens
some_token text at mode it new tokens [] token lexes same here is = absurd (cc (lexes, here))
some_token text at mode it new tokens (t ∷ left) token lexes same here is =
    let first : t ≡ token = cc (lexes.0, here) in
    record {
      left = left;
      lexes = subst (λ (x : Token). Lexes text x.end (mode_after mode x.kind) left None) first lexes.1;
      same = ap (λ (g : Gathered). all_gathered g (map (piece_of text) left)) (is ∙ ap (λ (x : Token). gather it (piece_of text x)) (sym first)) ∙ same;
    }

pub leads_on : (text : List ℕ) (at : ℕ) (mode : Mode) (it new : Gathered) (tokens : List Token) (token : Token) → Leads text at mode it tokens → token_at text at mode ≡ Ok (Some token) → new ≡ gather it (piece_of text token)
    → Leads text token.end (mode_after mode token.kind) new tokens
leads_on text at mode it new tokens token leads here is = some_token text at mode it new tokens leads.left token leads.lexes leads.same here is

no_token : (text : List ℕ) (at : ℕ) (mode : Mode) (it : Gathered) (tokens left : List Token) → Lexes text at mode left None → all_gathered it (map (piece_of text) left) ≡ all_gathered nothing_gathered (map (piece_of text) tokens)
    → token_at text at mode ≡ Ok None → it ≡ all_gathered nothing_gathered (map (piece_of text) tokens)
no_token text at mode it tokens [] lexes same here = same
no_token text at mode it tokens (t ∷ left) lexes same here = absurd (cc (lexes.0, here))

-- at the end all is gathered
pub gathered_all : (text : List ℕ) (at : ℕ) (mode : Mode) (it : Gathered) (tokens : List Token) (entries : List Entry) → Leads text at mode it tokens → token_at text at mode ≡ Ok None → map (piece_of text) tokens ≡ source_pieces entries
    → without_last it.entries ≡ entries
gathered_all text at mode it tokens entries leads here is =
    ap (λ (g : Gathered). without_last g.entries) (no_token text at mode it tokens leads.left leads.lexes leads.same here ∙ ap (all_gathered nothing_gathered) is ∙ source_gathered entries)
    ∙ last_of entries entry.Close

no_bad : (text : List ℕ) (at : ℕ) (mode : Mode) (left : List Token) (bad : BadToken) → Lexes text at mode left None → token_at text at mode ≡ Err bad → ⊥
no_bad text at mode [] bad lexes here = cc (lexes, here)
no_bad text at mode (t ∷ left) bad lexes here = cc (lexes.0, here)

-- and no token is bad
pub never_bad : (text : List ℕ) (at : ℕ) (mode : Mode) (it : Gathered) (tokens : List Token) (bad : BadToken) → Leads text at mode it tokens → token_at text at mode ≡ Err bad → ⊥
never_bad text at mode it tokens bad leads here = no_bad text at mode leads.left bad leads.lexes here
