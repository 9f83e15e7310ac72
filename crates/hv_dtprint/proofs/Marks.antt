-- Marks as tokens.
use Rattle.std.proofs.Common.{◌≡◌, ℕ, List, [], ◌∷◌, ◌++◌, refl, arith}
use Rattle.std.specs.Prelude.{Some, codes}
use Rattle.hv_dtlex.specs.Tokens.{form_in, root_form, name_mark, list_mark, value_mark, name_form, value_form, hex_form}
use Rattle.hv_dtlex.specs.declared.token.TokenKind.TheVariants as kind
use Rattle.hv_dtlex.specs.declared.token.Mode.TheVariants.{Name, Value, Hex}
use Rattle.hv_dtgram.specs.Contents.{mark}
use Rattle.hv_dtgram.specs.declared.symbol.Symbol.TheVariants as on
use Rattle.hv_dtprint.proofs.Passing.{Stands, Passes, pass_token}

version_form : (rest : List ℕ) → form_in Name (codes "/dts-v1/" ++ rest) ≡ Some (kind.Version, 8)
unfolding form_in name_form
version_form rest = refl

root_is : (rest : List ℕ) → form_in Name (47 ∷ 32 ∷ rest) ≡ Some (kind.Root, 1)
unfolding form_in name_form root_form
root_is rest = refl

open_form : (rest : List ℕ) → form_in Name (123 ∷ rest) ≡ Some (kind.NodeOpen, 1)
unfolding form_in name_form root_form name_mark
open_form rest = refl

close_form : (rest : List ℕ) → form_in Name (125 ∷ rest) ≡ Some (kind.NodeClose, 1)
unfolding form_in name_form root_form name_mark
close_form rest = refl

semicolon_form : (rest : List ℕ) → form_in Name (59 ∷ rest) ≡ Some (kind.Semicolon, 1)
unfolding form_in name_form root_form name_mark
semicolon_form rest = refl

equals_form : (rest : List ℕ) → form_in Name (61 ∷ rest) ≡ Some (kind.Equals, 1)
unfolding form_in name_form root_form name_mark
equals_form rest = refl

bytes_form : (rest : List ℕ) → form_in Value (91 ∷ rest) ≡ Some (kind.BytesOpen, 1)
unfolding form_in value_form value_mark list_mark
bytes_form rest = refl

end_form : (rest : List ℕ) → form_in Value (59 ∷ rest) ≡ Some (kind.Semicolon, 1)
unfolding form_in value_form value_mark list_mark
end_form rest = refl

bytes_end_form : (rest : List ℕ) → form_in Hex (93 ∷ rest) ≡ Some (kind.BytesClose, 1)
unfolding form_in hex_form
bytes_end_form rest = refl

-- each mark where it stands
pub pass_version : (text rest : List ℕ) (at : ℕ) → Stands text at (codes "/dts-v1/" ++ rest) → Passes text at Name rest Name (λ tail. mark on.Version ∷ tail)
pass_version text rest at it = pass_token text (codes "/dts-v1/") rest at Name kind.Version (omega arith) it refl (version_form rest)

pub pass_root : (text rest : List ℕ) (at : ℕ) → Stands text at (47 ∷ 32 ∷ rest) → Passes text at Name (32 ∷ rest) Name (λ tail. mark on.Root ∷ tail)
pass_root text rest at it = pass_token text (47 ∷ []) (32 ∷ rest) at Name kind.Root (omega arith) it refl (root_is rest)

pub pass_open : (text rest : List ℕ) (at : ℕ) → Stands text at (123 ∷ rest) → Passes text at Name rest Name (λ tail. mark on.NodeOpen ∷ tail)
pass_open text rest at it = pass_token text (123 ∷ []) rest at Name kind.NodeOpen (omega arith) it refl (open_form rest)

pub pass_close : (text rest : List ℕ) (at : ℕ) → Stands text at (125 ∷ rest) → Passes text at Name rest Name (λ tail. mark on.NodeClose ∷ tail)
pass_close text rest at it = pass_token text (125 ∷ []) rest at Name kind.NodeClose (omega arith) it refl (close_form rest)

pub pass_semicolon : (text rest : List ℕ) (at : ℕ) → Stands text at (59 ∷ rest) → Passes text at Name rest Name (λ tail. mark on.Semicolon ∷ tail)
pass_semicolon text rest at it = pass_token text (59 ∷ []) rest at Name kind.Semicolon (omega arith) it refl (semicolon_form rest)

pub pass_equals : (text rest : List ℕ) (at : ℕ) → Stands text at (61 ∷ rest) → Passes text at Name rest Value (λ tail. mark on.Equals ∷ tail)
pass_equals text rest at it = pass_token text (61 ∷ []) rest at Name kind.Equals (omega arith) it refl (equals_form rest)

pub pass_bytes_open : (text rest : List ℕ) (at : ℕ) → Stands text at (91 ∷ rest) → Passes text at Value rest Hex (λ tail. mark on.BytesOpen ∷ tail)
pass_bytes_open text rest at it = pass_token text (91 ∷ []) rest at Value kind.BytesOpen (omega arith) it refl (bytes_form rest)

pub pass_end : (text rest : List ℕ) (at : ℕ) → Stands text at (59 ∷ rest) → Passes text at Value rest Name (λ tail. mark on.Semicolon ∷ tail)
pass_end text rest at it = pass_token text (59 ∷ []) rest at Value kind.Semicolon (omega arith) it refl (end_form rest)

pub pass_bytes_close : (text rest : List ℕ) (at : ℕ) → Stands text at (93 ∷ rest) → Passes text at Hex rest Value (λ tail. mark on.BytesClose ∷ tail)
pass_bytes_close text rest at it = pass_token text (93 ∷ []) rest at Hex kind.BytesClose (omega arith) it refl (bytes_end_form rest)
