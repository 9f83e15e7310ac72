-- Printed properties as they are read.
use Rattle.std.proofs.Common.{◌≡◌, ℕ, zero, suc, ◌<◌, true, List, [], ◌∷◌, ◌++◌, length, replicate, refl, ap, subst, arith, append_assoc}
use Rattle.std.specs.Prelude.{Some, All}
use Rattle.std.specs.List.{AllByRecursion, flat_map, list_all}
use Rattle.hv_dtree.specs.Names.{IsPropName}
use Rattle.hv_dtree.specs.declared.node.Prop.{Prop}
use Rattle.hv_dtlex.specs.Class.{is_word_byte}
use Rattle.hv_dtlex.specs.Tokens.{form_in}
use Rattle.hv_dtlex.specs.declared.token.TokenKind.TheVariants as kind
use Rattle.hv_dtlex.specs.declared.token.Mode.TheVariants.{Name, Value, Hex}
use Rattle.hv_dtgram.specs.Contents.{Piece, mark, word, pair, PropSyntax, bytes_pieces, values_pieces, props_entries, entries_pieces}
use Rattle.hv_dtgram.specs.declared.symbol.Symbol.TheVariants as on
use Rattle.hv_dtgram.specs.declared.contents.Entry.{Entry}
use Rattle.hv_dtprint.specs.Printed.{hex_pair, value_text, prop_text}
use Rattle.hv_dtprint.proofs.Spelled.{printed_values, ArePrinted, no_props, one_prop}
use Rattle.hv_dtprint.proofs.Tests.{all_head, all_tail}
use Rattle.hv_dtprint.proofs.Passing.{Stands, Continues, Passes, AreSpaces, pass_spaces, pass_token}
use Rattle.hv_dtprint.proofs.Words.{IsStop, prop_word, word_form, word_blank, space_stops, semicolon_stops}
use Rattle.hv_dtprint.proofs.Pairs.{is_pair, pair_token, pair_blank}
use Rattle.hv_dtprint.proofs.Marks.{pass_semicolon, pass_equals, pass_bytes_open, pass_end, pass_bytes_close}

name_is : (name rest : List ℕ) (stop : ℕ) → list_all is_word_byte name ≡ true → 0 < length name → IsStop stop → form_in Name (name ++ stop ∷ rest) ≡ Some (kind.Word, length name)
unfolding form_in
name_is name rest stop all some it = word_form name rest stop all some it

-- a name
pub pass_name : (text name rest : List ℕ) (stop at : ℕ) → list_all is_word_byte name ≡ true → 0 < length name → IsStop stop → Stands text at (name ++ stop ∷ rest)
    → Passes text at Name (stop ∷ rest) Name (λ tail. word (record { name = name; place = at }) ∷ tail)
pass_name text name rest stop at all some ends it =
    pass_token text name (stop ∷ rest) at Name kind.Word some it (word_blank name (stop ∷ rest) all some) (name_is name rest stop all some ends)

pub tabs_are : (depth : ℕ) → AreSpaces (replicate depth 9)
tabs_are zero = tt
tabs_are (suc depth) = (refl, tabs_are depth)

pair_is : (b : ℕ) (rest : List ℕ) → b < 256 → form_in Hex (hex_pair b ++ rest) ≡ Some (kind.Pair, 2)
unfolding form_in
pair_is b rest small = pair_token b rest small

pass_pair : (text rest : List ℕ) (b at : ℕ) → b < 256 → Stands text at (hex_pair b ++ rest) → Passes text at Hex rest Hex (λ tail. pair b ∷ tail)
pass_pair text rest b at small it =
    let one = pass_token text (hex_pair b) rest at Hex kind.Pair (omega arith) it (pair_blank b rest small) (pair_is b rest small) in
    record {
      after = one.after;
      stands = one.stands;
      reads = λ tail go. subst (λ (n : ℕ). Continues text at Hex (pair n ∷ tail)) (is_pair b small).value (one.reads tail go);
    }

-- further bytes of a value, and the mark that closes them
pass_bytes : (text bytes rest : List ℕ) (at : ℕ) → All (λ byte. byte < 256) bytes → Stands text at (flat_map (λ byte. 32 ∷ hex_pair byte) bytes ++ 93 ∷ rest) → Passes text at Hex rest Value (λ tail. bytes_pieces bytes tail)
pass_bytes text [] rest at small it = pass_bytes_close text rest at it
pass_bytes text (b ∷ bytes) rest at small it =
    let space = pass_spaces text (32 ∷ []) (hex_pair b ++ (flat_map (λ byte. 32 ∷ hex_pair byte) bytes ++ 93 ∷ rest)) at Hex (refl, tt) it in
    let one = pass_pair text (flat_map (λ byte. 32 ∷ hex_pair byte) bytes ++ 93 ∷ rest) b space.after (all_head (λ byte. byte < 256) b bytes small) space.stands in
    let more = pass_bytes text bytes rest one.after (all_tail (λ byte. byte < 256) b bytes small) one.stands in
    record {
      after = more.after;
      stands = more.stands;
      reads = λ tail go. space.reads (pair b ∷ bytes_pieces bytes tail) (one.reads (bytes_pieces bytes tail) (more.reads tail go));
    }

-- a name and a value, to the end of the line
record LineRead (text : List ℕ) (at : ℕ) (prop : Prop) (rest : List ℕ) : Type 0 where
  place : ℕ
  passes : Passes text at Name rest Name (λ tail. word (record { name = prop.name; place = place }) ∷ values_pieces (printed_values prop.value) tail)

value_is : (b : ℕ) (bytes rest : List ℕ) → value_text (b ∷ bytes) ++ rest ≡ 32 ∷ 61 ∷ 32 ∷ 91 ∷ (hex_pair b ++ (flat_map (λ byte. 32 ∷ hex_pair byte) bytes ++ 93 ∷ 59 ∷ 10 ∷ rest))
unfolding value_text
value_is b bytes rest = ap (λ (t : List ℕ). 32 ∷ 61 ∷ 32 ∷ 91 ∷ (hex_pair b ++ t)) (append_assoc (flat_map (λ byte. 32 ∷ hex_pair byte) bytes) (93 ∷ 59 ∷ 10 ∷ []) rest)

empty_is : (rest : List ℕ) → value_text [] ++ rest ≡ 59 ∷ 10 ∷ rest
unfolding value_text
empty_is rest = refl

pass_value : (text name value rest : List ℕ) (at : ℕ) → list_all is_word_byte name ≡ true → 0 < length name → All (λ byte. byte < 256) value → Stands text at (name ++ (value_text value ++ rest))
    → Passes text at Name rest Name (λ tail. word (record { name = name; place = at }) ∷ values_pieces (printed_values value) tail)
pass_value text name [] rest at all some small it =
    let here = subst (λ (t : List ℕ). Stands text at (name ++ t)) (empty_is rest) it in
    let one = pass_name text name (10 ∷ rest) 59 at all some semicolon_stops here in
    let end = pass_semicolon text (10 ∷ rest) one.after one.stands in
    let line = pass_spaces text (10 ∷ []) rest end.after Name (refl, tt) end.stands in
    record {
      after = line.after;
      stands = line.stands;
      reads = λ tail go. one.reads (mark on.Semicolon ∷ tail) (end.reads tail (line.reads tail go));
    }
pass_value text name (b ∷ bytes) rest at all some small it =
    let more = flat_map (λ byte. 32 ∷ hex_pair byte) bytes ++ 93 ∷ 59 ∷ 10 ∷ rest in
    let here = subst (λ (t : List ℕ). Stands text at (name ++ t)) (value_is b bytes rest) it in
    let one = pass_name text name (61 ∷ 32 ∷ 91 ∷ (hex_pair b ++ more)) 32 at all some space_stops here in
    let before = pass_spaces text (32 ∷ []) (61 ∷ 32 ∷ 91 ∷ (hex_pair b ++ more)) one.after Name (refl, tt) one.stands in
    let equals = pass_equals text (32 ∷ 91 ∷ (hex_pair b ++ more)) before.after before.stands in
    let behind = pass_spaces text (32 ∷ []) (91 ∷ (hex_pair b ++ more)) equals.after Value (refl, tt) equals.stands in
    let opens = pass_bytes_open text (hex_pair b ++ more) behind.after behind.stands in
    let first = pass_pair text more b opens.after (all_head (λ byte. byte < 256) b bytes small) opens.stands in
    let others = pass_bytes text bytes (59 ∷ 10 ∷ rest) first.after (all_tail (λ byte. byte < 256) b bytes small) first.stands in
    let end = pass_end text (10 ∷ rest) others.after others.stands in
    let line = pass_spaces text (10 ∷ []) rest end.after Name (refl, tt) end.stands in
    record {
      after = line.after;
      stands = line.stands;
      reads = λ tail go. one.reads _ (before.reads _ (equals.reads _ (behind.reads _ (opens.reads _ (first.reads _ (others.reads _ (end.reads _ (line.reads tail go))))))));
    }

line_is : (depth : ℕ) (prop : Prop) (rest : List ℕ) → prop_text depth prop ++ rest ≡ replicate depth 9 ++ (prop.name ++ (value_text prop.value ++ rest))
line_is depth prop rest = simp append_assoc

pass_line : (text : List ℕ) (depth : ℕ) (prop : Prop) (rest : List ℕ) (at : ℕ) → IsPropName prop.name → All (λ byte. byte < 256) prop.value → Stands text at (prop_text depth prop ++ rest) → LineRead text at prop rest
pass_line text depth prop rest at named small it =
    let tabs = pass_spaces text (replicate depth 9) (prop.name ++ (value_text prop.value ++ rest)) at Name (tabs_are depth) (subst (Stands text at) (line_is depth prop rest) it) in
    let value = pass_value text prop.name prop.value rest tabs.after (prop_word prop.name named) named.some small tabs.stands in
    record {
      place = tabs.after;
      passes = record { after = value.after; stands = value.stands; reads = λ tail go. tabs.reads _ (value.reads tail go) };
    }

-- properties in a row, before further entries
pub record PropsRead (text : List ℕ) (at : ℕ) (props : List Prop) (rest : List ℕ) : Type 0 where
  pub syntax : List PropSyntax
  pub printed : ArePrinted syntax props
  pub after : ℕ
  pub stands : Stands text after rest
  pub reads : (entries : List Entry) (tail : List Piece) → Continues text after Name (entries_pieces entries tail) → Continues text at Name (entries_pieces (props_entries syntax entries) tail)

pub pass_props : (text : List ℕ) (depth : ℕ) (props : List Prop) (rest : List ℕ) (at : ℕ) → AllByRecursion (λ prop. IsPropName prop.name) props → AllByRecursion (λ prop. All (λ byte. byte < 256) prop.value) props
    → Stands text at (flat_map (prop_text depth) props ++ rest) → PropsRead text at props rest
pass_props text depth [] rest at named small it = record { syntax = []; printed = no_props; after = at; stands = it; reads = λ entries tail go. go }
pass_props text depth (prop ∷ props) rest at named small it =
    let here = subst (Stands text at) (append_assoc (prop_text depth prop) (flat_map (prop_text depth) props) rest) it in
    let line = pass_line text depth prop (flat_map (prop_text depth) props ++ rest) at named.0 small.0 here in
    let more = pass_props text depth props rest line.passes.after named.1 small.1 line.passes.stands in
    record {
      syntax = record { labels = []; name = record { name = prop.name; place = line.place }; values = printed_values prop.value } ∷ more.syntax;
      printed = one_prop line.place prop more.syntax props more.printed;
      after = more.after;
      stands = more.stands;
      reads = λ entries tail go. line.passes.reads _ (more.reads entries tail go);
    }
