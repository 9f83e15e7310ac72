-- The two digits of a byte as a token.
use Rattle.std.proofs.Common.{◌≡◌, ℕ, ◌/◌, ◌%◌, ◌<◌, Bool, true, false, List, [], ◌∷◌, ◌++◌, refl, ap, ◌∙◌}
use Rattle.std.specs.Prelude.{Some, None, ◌&&◌, not, ◌==◌, nat_eq, if◌then◌else◌}
use Rattle.std.specs.Option.{unwrap_or}
use Rattle.std.specs.List.{prefix_len}
use Rattle.std.specs.Char.{is_ascii_hexdigit}
use Rattle.std.proofs.lemmas.Bool.{eqb-true}
use Rattle.hv_dtlex.specs.Blank.{is_space, blank_len}
use Rattle.hv_dtlex.specs.Values.{cell_of}
use Rattle.hv_dtlex.specs.Tokens.{pair_form, hex_form}
use Rattle.hv_dtlex.specs.declared.token.TokenKind.TheVariants.{BytesClose, Pair}
use Rattle.hv_dtprint.specs.Printed.{hex_digit, hex_pair}
use Rattle.hv_dtprint.proofs.Tests.{and_both, not_true, all_below, at_below}
use Rattle.hv_dtprint.proofs.Words.{fixed_not, or_next, blank_not}

pair_test : ℕ → Bool
pair_test b = not (is_space (hex_digit (b / 16))) && (not (nat_eq 47 (hex_digit (b / 16))) && (not (nat_eq 93 (hex_digit (b / 16)))
    && ((prefix_len is_ascii_hexdigit (hex_pair b) == 2) && (unwrap_or (cell_of 16 (hex_pair b)) 0 % 256 == b))))

pairs_tested : all_below pair_test 256 ≡ true
unfolding pair_test cell_of
pairs_tested = refl

-- what the digits of a byte are
pub record IsPair (b : ℕ) : Type 0 where
  pub space : is_space (hex_digit (b / 16)) ≡ false
  pub slash : nat_eq 47 (hex_digit (b / 16)) ≡ false
  pub bracket : nat_eq 93 (hex_digit (b / 16)) ≡ false
  pub digits : (prefix_len is_ascii_hexdigit (hex_pair b) == 2) ≡ true
  pub value : unwrap_or (cell_of 16 (hex_pair b)) 0 % 256 ≡ b

pub is_pair : (b : ℕ) → b < 256 → IsPair b
unfolding pair_test
is_pair b small =
    let one = and_both (not (is_space (hex_digit (b / 16)))) _ (at_below pair_test 256 b pairs_tested small) in
    let two = and_both (not (nat_eq 47 (hex_digit (b / 16)))) _ one.1 in
    let three = and_both (not (nat_eq 93 (hex_digit (b / 16)))) _ two.1 in
    let four = and_both (prefix_len is_ascii_hexdigit (hex_pair b) == 2) _ three.1 in
    record {
      space = not_true _ one.0;
      slash = not_true _ two.0;
      bracket = not_true _ three.0;
      digits = four.0;
      value = eqb-true (unwrap_or (cell_of 16 (hex_pair b)) 0 % 256) b four.1;
    }

pub pair_token : (b : ℕ) (rest : List ℕ) → b < 256 → hex_form (hex_pair b ++ rest) ≡ Some (Pair, 2)
unfolding hex_form pair_form
pair_token b rest small =
    let it = is_pair b small in
    let text = hex_digit (b % 16) ∷ rest in
    or_next _ _ (fixed_not 93 [] BytesClose (hex_digit (b / 16)) text it.bracket)
    ∙ ap (λ (two : Bool). if two then Some (Pair, 2) else None) it.digits

pub pair_blank : (b : ℕ) (rest : List ℕ) → b < 256 → blank_len (hex_pair b ++ rest) ≡ 0
pair_blank b rest small =
    let it = is_pair b small in
    blank_not (hex_digit (b / 16)) (hex_digit (b % 16) ∷ rest) it.space it.slash
