-- Pieces of a string, one after the other.
use Rattle.std.proofs.Common.{◌≡◌, ℕ, zero, suc, ◌+◌, ◌<◌, ◌≤◌, Bool, true, false, cond, List, [], ◌∷◌, ◌++◌, length, drop, refl, sym, ap, ◌∙◌, arith}
use Rattle.std.specs.Prelude.{Option, Some, None, IfSome, codes, nat_eq, nat_lt, ◌&&◌, ◌==◌, if◌then◌else◌}
use Rattle.std.specs.Char.{is_digit}
use Rattle.std.specs.Str.Parse.{digits_value}
use Rattle.std.specs.Option.{option_map, option_and_then, option_map_or}
use Rattle.std.specs.List.{starts_with}
use Rattle.std.proofs.lemmas.List.{length-drop, append_assoc, append-nil}
use Rattle.std.proofs.lemmas.Bool.{cond-false, cond-true}
use Rattle.hv_dtlex.specs.Values.{digits_escape, escape, escaped, piece, closed_len, string_len, spelled, string_bytes, front_digits}

abbrev IsSome_long : Option (ℕ × ℕ) → Type 0
IsSome_long o = IfSome o (λ p. 0 < p.1)

either_long : (b : Bool) (x y : Option (ℕ × ℕ)) → IsSome_long x → IsSome_long y → IsSome_long (cond b x y)
either_long true x y h k = h
either_long false x y h k = k

digits_long : (before radix : ℕ) (ds : List ℕ) → 0 < before → IsSome_long (digits_escape before radix ds)
unfolding digits_escape
digits_long before radix ds some =
    either_long (nat_lt 0 (length ds) && nat_lt (digits_value radix ds) 256) (Some (digits_value radix ds, before + length ds)) None (omega arith) tt

escape_long : (text : List ℕ) → IsSome_long (escape text)
unfolding escape
escape_long [] = tt
escape_long (b ∷ rest) =
    either_long (is_digit b 8) (digits_escape 1 8 (front_digits 8 3 (b ∷ rest))) (if b == 120 then digits_escape 2 16 (front_digits 16 2 rest) else Some (escaped b, 2)) (digits_long 1 8 (front_digits 8 3 (b ∷ rest)) (omega arith))
    (either_long (b == 120) (digits_escape 2 16 (front_digits 16 2 rest)) (Some (escaped b, 2)) (digits_long 2 16 (front_digits 16 2 rest) (omega arith)) (omega arith))

-- a piece has a byte at least
pub piece_long : (text : List ℕ) → IsSome_long (piece text)
unfolding piece
piece_long [] = tt
piece_long (b ∷ rest) = either_long (b == 92) (escape rest) (Some (b, 1)) (escape_long rest) (omega arith)

abbrev after : ℕ → List ℕ → ℕ × ℕ → Option ℕ
after count text p = option_map (λ len. p.1 + len) (closed_len count (drop p.1 text))

after_same : (m n : ℕ) (b : ℕ) (rest : List ℕ) (o : Option (ℕ × ℕ)) → IsSome_long o → ((t : List ℕ) → length t ≤ length rest → closed_len m t ≡ closed_len n t)
    → option_and_then (after m (b ∷ rest)) o ≡ option_and_then (after n (b ∷ rest)) o
after_same m n b rest None long same = refl
after_same m n b rest (Some p) long same =
    ap (option_map (λ len. p.1 + len)) (same (drop p.1 (b ∷ rest)) (omega (arith, length-drop p.1 (b ∷ rest), long)))

none_at_end : piece [] ≡ None
unfolding piece
none_at_end = refl

-- with more pieces than bytes the length is the same
pub closed_enough : (m n : ℕ) (text : List ℕ) → length text < m → length text < n → closed_len m text ≡ closed_len n text
closed_enough zero n text small large = absurd (omega arith)
closed_enough (suc m) zero text small large = absurd (omega arith)
closed_enough (suc m) (suc n) [] small large =
    ap (cond (starts_with nat_eq [] (codes "\"")) (Some 1)) (ap (option_and_then (after m [])) none_at_end ∙ sym (ap (option_and_then (after n [])) none_at_end))
closed_enough (suc m) (suc n) (b ∷ rest) small large =
    ap (cond (starts_with nat_eq (b ∷ rest) (codes "\"")) (Some 1))
    (after_same m n b rest (piece (b ∷ rest)) (piece_long (b ∷ rest)) (λ t short. closed_enough m n t (omega (arith, short)) (omega (arith, short))))

-- a piece is passed
pub string_next : (rest : List ℕ) (byte size : ℕ) → starts_with nat_eq rest (codes "\"") ≡ false → piece rest ≡ Some (byte, size) → 0 < size → size ≤ length rest
    → string_len rest ≡ option_map (λ len. size + len) (string_len (drop size rest))
string_next rest byte size apart is some within =
    cond-false _ _ _ apart ∙ ap (option_and_then (after (length rest) rest)) is
    ∙ ap (option_map (λ len. size + len)) (closed_enough (length rest) (suc (length (drop size rest))) (drop size rest) (omega (arith, length-drop size rest)) (omega arith))

shift : (i j k : ℕ) (o : Option ℕ) → i ≡ k + j → option_map (λ n. i + n) o ≡ option_map (λ n. k + n) (option_map (λ n. j + n) o)
shift i j k None e = refl
shift i j k (Some n) e = ap (λ (x : ℕ). Some x) (omega arith)

pub string_step : (text rest behind : List ℕ) (byte size from to : ℕ) → starts_with nat_eq rest (codes "\"") ≡ false → piece rest ≡ Some (byte, size) → 0 < size → size ≤ length rest → behind ≡ drop size rest
    → to ≡ from + size → option_map (λ n. from + n) (string_len rest) ≡ string_len text → option_map (λ n. to + n) (string_len behind) ≡ string_len text
string_step text rest behind byte size from to apart is some within here e same =
    ap (λ (t : List ℕ). option_map (λ n. to + n) (string_len t)) here ∙ shift to size from (string_len (drop size rest)) e
    ∙ ap (option_map (λ n. from + n)) (sym (string_next rest byte size apart is some within)) ∙ same

abbrev bytes_after : ℕ → List ℕ → ℕ × ℕ → List ℕ
bytes_after count text p = p.0 ∷ spelled count (drop p.1 text)

bytes_same : (m n : ℕ) (b : ℕ) (rest : List ℕ) (o : Option (ℕ × ℕ)) → IsSome_long o → ((t : List ℕ) → length t ≤ length rest → spelled m t ≡ spelled n t)
    → option_map_or (bytes_after m (b ∷ rest)) o [] ≡ option_map_or (bytes_after n (b ∷ rest)) o []
bytes_same m n b rest None long same = refl
bytes_same m n b rest (Some p) long same =
    ap (λ (t : List ℕ). p.0 ∷ t) (same (drop p.1 (b ∷ rest)) (omega (arith, length-drop p.1 (b ∷ rest), long)))

-- with more pieces than bytes the bytes are the same
pub spelled_enough : (m n : ℕ) (text : List ℕ) → length text < m → length text < n → spelled m text ≡ spelled n text
spelled_enough zero n text small large = absurd (omega arith)
spelled_enough (suc m) zero text small large = absurd (omega arith)
spelled_enough (suc m) (suc n) [] small large =
    let left = ap (λ (o : Option (ℕ × ℕ)). option_map_or (bytes_after m []) o []) none_at_end in
    let right = ap (λ (o : Option (ℕ × ℕ)). option_map_or (bytes_after n []) o []) none_at_end in
    ap (λ (t : List ℕ). cond (starts_with nat_eq [] (codes "\"")) [] t) (left ∙ sym right)
spelled_enough (suc m) (suc n) (b ∷ rest) small large =
    ap (λ (t : List ℕ). cond (starts_with nat_eq (b ∷ rest) (codes "\"")) [] t)
    (bytes_same m n b rest (piece (b ∷ rest)) (piece_long (b ∷ rest)) (λ t short. spelled_enough m n t (omega (arith, short)) (omega (arith, short))))

-- a piece is spelled
pub bytes_step : (text rest behind have : List ℕ) (byte size : ℕ) → starts_with nat_eq rest (codes "\"") ≡ false → piece rest ≡ Some (byte, size) → 0 < size → size ≤ length rest → behind ≡ drop size rest
    → have ++ string_bytes rest ≡ string_bytes text → (have ++ byte ∷ []) ++ string_bytes behind ≡ string_bytes text
bytes_step text rest behind have byte size apart is some within here same =
    let next : string_bytes rest ≡ byte ∷ spelled (length rest) (drop size rest) =
    cond-false _ _ _ apart ∙ ap (λ (o : Option (ℕ × ℕ)). option_map_or (bytes_after (length rest) rest) o []) is in
    let enough = spelled_enough (suc (length (drop size rest))) (length rest) (drop size rest) (omega arith) (omega (arith, length-drop size rest)) in
    append_assoc have (byte ∷ []) (string_bytes behind) ∙ ap (λ (t : List ℕ). have ++ byte ∷ t) (ap string_bytes here ∙ enough)
    ∙ ap (λ (t : List ℕ). have ++ t) (sym next) ∙ same

-- at a quote all is spelled
pub bytes_done : (text rest have : List ℕ) → starts_with nat_eq rest (codes "\"") ≡ true → have ++ string_bytes rest ≡ string_bytes text → have ≡ string_bytes text
bytes_done text rest have there same =
    sym (append-nil have) ∙ ap (λ (t : List ℕ). have ++ t) (sym (cond-true _ _ _ there)) ∙ same

-- so it is where no piece stands
pub bytes_cut : (text rest have : List ℕ) → starts_with nat_eq rest (codes "\"") ≡ false → piece rest ≡ None → have ++ string_bytes rest ≡ string_bytes text → have ≡ string_bytes text
bytes_cut text rest have apart none same =
    let empty : string_bytes rest ≡ [] = cond-false _ _ _ apart ∙ ap (λ (o : Option (ℕ × ℕ)). option_map_or (bytes_after (length rest) rest) o []) none in
    sym (append-nil have) ∙ ap (λ (t : List ℕ). have ++ t) (sym empty) ∙ same
