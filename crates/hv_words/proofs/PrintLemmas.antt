-- A printed command is read back.
use Rattle.std.proofs.Common.{◌≡◌, ◌≢◌, ℕ, ◌+◌, ◌/◌, ◌%◌, ◌^◌, ◌<◌, ◌≤◌, Bool, cond, true, false, eqb, List, [], ◌∷◌, ◌++◌, length, refl, sym, ap, subst, ◌∙◌, inl, inr, arith, length-append, drop, ◌&&◌, filter, not, map, eq-eqb, ltb}
use Rattle.std.specs.Prelude.{Ok, Err}
use Rattle.std.specs.Str.Parse.{digits_value}
use Rattle.std.proofs.lemmas.Bool.Decides.{nat_tests}
use Rattle.std.specs.List.{AllByRecursion, flat_map, join_with_byte, starts_with}
use Rattle.std.specs.Char.{digit_value, digit_char, is_ascii_graphic}
use Rattle.std.specs.Fmt.{decimal}
use Rattle.std.specs.Str.Parse.{AllDigits}
use Rattle.std.proofs.lemmas.Bool.{eqb-true, false≢true, ltb-true}
use Rattle.std.proofs.lemmas.Fmt.{decimal_is_IsNumeral}
use Rattle.std.proofs.lemmas.List.{append-nil}
use Rattle.std.proofs.lemmas.List.Elements.{recursion_from_All, All-from_recursion}
use Rattle.std.proofs.lemmas.Str.{digit_value-digit_char}
use Rattle.std.proofs.lemmas.Str.Parse.{digit_from_value}
use Rattle.hv_text.specs.Front.{IsFree}
use Rattle.hv_text.specs.Path.{IsNameByte, ArePathNames, slashed, path_text}
use Rattle.hv_text.specs.declared.number.NumberRefusal.TheVariants.{NotANumber, TooLarge}
use Rattle.hv_text.specs.Number.{digits_front, number_in, number_of}
use Rattle.hv_text.proofs.Numbers.{number_of-decimal}
use Rattle.hv_words.specs.declared.command.Command.{Command}
use Rattle.hv_words.specs.Words.{is_empty, onto_first, pieces, words}
use Rattle.hv_words.specs.Text.{Spells, SpellsAll}
use Rattle.hv_words.specs.Commands.{Kind, AnyPath, NamedPath, SomeText, RestCount, SomeWord, VcpuNumber, AnyAddress, ByteCount, Argument, NumberGiven, Fits, FitAll, row_of, arguments_of, IsPrintable, Gives}
use Rattle.hv_words.specs.Print.{byte_text, argument_text, command_text}
use Rattle.hv_words.proofs.Unambiguous.{Content, argument_with, content_of}
use Rattle.hv_words.proofs.WordLemmas.{words-space, first_word}

-- a byte is a graphic character
abbrev IsVisible : ℕ → Type 0
IsVisible b = (33 ≤ b) × (b ≤ 126)

-- a word that can be printed
abbrev IsVisibleWord : List ℕ → Type 0
IsVisibleWord word = (0 < length word) × AllByRecursion IsVisible word

visible_append : (xs ys : List ℕ) → AllByRecursion IsVisible xs → AllByRecursion IsVisible ys → AllByRecursion IsVisible (xs ++ ys)
visible_append [] ys h k = k
visible_append (x ∷ xs) ys h k = (h.0, visible_append xs ys h.1 k)

visible_free : (word : List ℕ) → AllByRecursion IsVisible word → IsFree 32 word
visible_free [] h = tt
visible_free (b ∷ word) h = ((λ e. omega (arith, h.0)), visible_free word h.1)

-- the words of visible words one space apart are these words
words_joined : (ws : List (List ℕ)) → AllByRecursion IsVisibleWord ws → words (join_with_byte 32 ws) ≡ ws
words_joined [] h = refl
words_joined ([] ∷ ws) h = absurd (omega (arith, h.0.0))
words_joined ((b ∷ bs) ∷ []) h =
    ap words (sym (append-nil (b ∷ bs))) ∙ first_word b bs [] (visible_free (b ∷ bs) h.0.1) tt
words_joined ((b ∷ bs) ∷ v ∷ more) h =
    first_word b bs (32 ∷ join_with_byte 32 (v ∷ more)) (visible_free (b ∷ bs) h.0.1) refl
    ∙ ap (λ (ws : List (List ℕ)). (b ∷ bs) ∷ ws) (words-space 32 (join_with_byte 32 (v ∷ more)) refl ∙ words_joined (v ∷ more) h.1)

abbrev IsPrint : ℕ → Type 0
IsPrint b = (32 ≤ b) × (b ≤ 126)

print_append : (xs ys : List ℕ) → AllByRecursion IsPrint xs → AllByRecursion IsPrint ys → AllByRecursion IsPrint (xs ++ ys)
print_append [] ys h k = k
print_append (x ∷ xs) ys h k = (h.0, print_append xs ys h.1 k)

visible_print : (word : List ℕ) → AllByRecursion IsVisible word → AllByRecursion IsPrint word
visible_print [] h = tt
visible_print (b ∷ word) h = ((omega (arith, h.0), h.0.1), visible_print word h.1)

joined_print : (ws : List (List ℕ)) → AllByRecursion IsVisibleWord ws → AllByRecursion IsPrint (join_with_byte 32 ws)
joined_print [] h = tt
joined_print (w ∷ []) h = visible_print w h.0.1
joined_print (w ∷ v ∷ more) h = print_append w (32 ∷ join_with_byte 32 (v ∷ more)) (visible_print w h.0.1) ((omega arith, omega arith), joined_print (v ∷ more) h.1)

-- the words of a printable line are visible
pieces_onto : (b : ℕ) (ps : List (List ℕ)) → IsVisible b → AllByRecursion (AllByRecursion IsVisible) ps → AllByRecursion (AllByRecursion IsVisible) (onto_first b ps)
pieces_onto b [] h k = ((h, tt), tt)
pieces_onto b (p ∷ ps) h k = ((h, k.0), k.1)

beyond_space : (b : ℕ) → IsPrint b → eqb b 32 ≡ false → IsVisible b
beyond_space b h other = grind (arith, nat_tests)

pieces_visible : (line : List ℕ) → AllByRecursion IsPrint line → AllByRecursion (AllByRecursion IsVisible) (pieces line)
pieces_visible [] h = (tt, tt)
pieces_visible (b ∷ bs) h =
    let more = pieces_visible bs h.1 in
    elim (eqb b 32) as (λ t. eqb b 32 ≡ t → AllByRecursion (AllByRecursion IsVisible) (cond t ([] ∷ pieces bs) (onto_first b (pieces bs)))) [
      | true ↦ λ is. (tt, more)
      | false ↦ λ is. pieces_onto b (pieces bs) (beyond_space b h.0 is) more
    ] refl

kept_visible : (ps : List (List ℕ)) → AllByRecursion (AllByRecursion IsVisible) ps → AllByRecursion IsVisibleWord (filter (λ p. not (is_empty p)) ps)
kept_visible [] h = tt
kept_visible ([] ∷ ps) h = kept_visible ps h.1
kept_visible ((b ∷ bs) ∷ ps) h = ((omega arith, h.0), kept_visible ps h.1)

pub words_visible : (line : List ℕ) → IsPrintable line → AllByRecursion IsVisibleWord (words line)
words_visible line h = kept_visible (pieces line) (pieces_visible line (recursion_from_All IsPrint line h))

-- the text of a path is visible
name_byte_visible : (b : ℕ) → IsNameByte b → IsVisible b
name_byte_visible b (inl (inl (inl h))) = (omega (arith, h), omega (arith, h))
name_byte_visible b (inl (inl (inr h))) = (omega (arith, h), omega (arith, h))
name_byte_visible b (inl (inr h)) = (omega (arith, h), omega (arith, h))
name_byte_visible b (inr (inl h)) = (omega arith, omega arith)
name_byte_visible b (inr (inr (inl h))) = (omega arith, omega arith)
name_byte_visible b (inr (inr (inr h))) = (omega arith, omega arith)

name_visible : (name : List ℕ) → AllByRecursion IsNameByte name → AllByRecursion IsVisible name
name_visible [] h = tt
name_visible (b ∷ name) h = (name_byte_visible b h.0, name_visible name h.1)

slashed_visible : (path : List (List ℕ)) → ArePathNames path → AllByRecursion IsVisible (slashed path)
slashed_visible [] h = tt
slashed_visible (n ∷ ns) h = ((omega arith, omega arith), visible_append n (slashed ns) (name_visible n (recursion_from_All IsNameByte n h.0.each)) (slashed_visible ns h.1))

path_visible : (path : List (List ℕ)) → ArePathNames path → IsVisibleWord (path_text path)
path_visible [] h = (omega arith, ((omega arith, omega arith), tt))
path_visible (n ∷ ns) h = (omega arith, slashed_visible (n ∷ ns) h)

-- decimal digits are visible
digits_visible : (ds : List ℕ) → AllDigits 10 ds → AllByRecursion IsVisible ds
digits_visible [] h = tt
digits_visible (d ∷ ds) h = let digit = digit_from_value d h.0 in ((omega (arith, digit), omega (arith, digit)), digits_visible ds h.1)

decimal_visible : (n : ℕ) → n < 2 ^ 64 → IsVisibleWord (decimal n)
decimal_visible n lt = let both = decimal_is_IsNumeral n lt in (both.0.0, digits_visible (decimal n) both.0.1)

-- a number that is read is below 2^64
in_small : (radix start : ℕ) (ds : List ℕ) (n : ℕ) (one fits : Bool) → ltb (digits_value radix ds) (2 ^ 64) ≡ fits
    → cond one (cond fits (Ok (digits_value radix ds)) (Err TooLarge)) (Err (NotANumber (start + digits_front radix ds))) ≡ Ok n → n < 2 ^ 64
in_small radix start ds n true true is e = let same : digits_value radix ds ≡ n = cc e in subst (λ (m : ℕ). m < 2 ^ 64) same (ltb-true (digits_value radix ds) (2 ^ 64) is)
in_small radix start ds n true false is e = absurd (cc e)
in_small radix start ds n false fits is e = absurd (cc e)

part_small : (radix start : ℕ) (ds : List ℕ) (n : ℕ) → number_in radix start ds ≡ Ok n → n < 2 ^ 64
part_small radix start ds n e =
    in_small radix start ds n (eqb (digits_front radix ds) (length ds) && ltb 0 (digits_front radix ds)) (ltb (digits_value radix ds) (2 ^ 64)) refl e

number_small : (word : List ℕ) (n : ℕ) → number_of word ≡ Ok n → n < 2 ^ 64
number_small word n e =
    elim (starts_with eqb word (48 ∷ 120 ∷ [])) as (λ t. cond t (number_in 16 2 (drop 2 word)) (number_in 10 0 word) ≡ Ok n → n < 2 ^ 64) [
      | true ↦ λ is. part_small 16 2 (drop 2 word) n is
      | false ↦ λ is. part_small 10 0 word n is
    ] e

-- the printed form of a byte is a visible spelling of it
record IsGoodSpelling (piece : List ℕ) (b : ℕ) : Type 0 where
  visible : AllByRecursion IsVisible piece
  some : 0 < length piece
  spells : Spells piece b

hex_visible : (d : ℕ) → d < 16 → IsVisible (digit_char d)
hex_visible d lt = grind arith

graphic_visible : (b : ℕ) → is_ascii_graphic b ≡ true → IsVisible b
graphic_visible b is = grind arith

hex_spelling : (b : ℕ) → b < 256 → IsGoodSpelling (92 ∷ 120 ∷ digit_char (b / 16) ∷ digit_char (b % 16) ∷ []) b
hex_spelling b lt =
    let high : b / 16 < 16 = omega arith in
    let low : b % 16 < 16 = omega arith in
    let high_value : digit_value (digit_char (b / 16)) ≡ b / 16 = digit_value-digit_char (b / 16) (omega arith) in
    let low_value : digit_value (digit_char (b % 16)) ≡ b % 16 = digit_value-digit_char (b % 16) (omega arith) in
    record {
      visible = ((omega arith, omega arith), ((omega arith, omega arith), (hex_visible (b / 16) high, (hex_visible (b % 16) low, tt))));
      some = omega arith;
      spells = inr (inr (inr (inr (record {
        high = digit_char (b / 16);
        low = digit_char (b % 16);
        high_digit = omega (arith, high_value, high);
        low_digit = omega (arith, low_value, low);
        piece_is = refl;
        value = omega (arith, high_value, low_value);
      }))));
    }

graphic_spelling : (b : ℕ) → b < 256 → b ≢ 92 → (t : Bool) → is_ascii_graphic b ≡ t → IsGoodSpelling (cond t (b ∷ []) (92 ∷ 120 ∷ digit_char (b / 16) ∷ digit_char (b % 16) ∷ [])) b
graphic_spelling b lt other true e = record { visible = (graphic_visible b e, tt); some = omega arith; spells = inl (other, refl) }
graphic_spelling b lt other false e = hex_spelling b lt

space_spelling : (b : ℕ) → b < 256 → b ≢ 92 → (t : Bool) → eqb b 32 ≡ t → IsGoodSpelling (cond t (92 ∷ 115 ∷ []) (cond (is_ascii_graphic b) (b ∷ []) (92 ∷ 120 ∷ digit_char (b / 16) ∷ digit_char (b % 16) ∷ []))) b
space_spelling b lt other true e = record { visible = ((omega arith, omega arith), ((omega arith, omega arith), tt)); some = omega arith; spells = inr (inr (inr (inl (eqb-true b 32 e, refl)))) }
space_spelling b lt other false e = graphic_spelling b lt other (is_ascii_graphic b) refl

feed_spelling : (b : ℕ) → b < 256 → b ≢ 92 → (t : Bool) → eqb b 10 ≡ t
    → IsGoodSpelling (cond t (92 ∷ 110 ∷ []) (cond (eqb b 32) (92 ∷ 115 ∷ []) (cond (is_ascii_graphic b) (b ∷ []) (92 ∷ 120 ∷ digit_char (b / 16) ∷ digit_char (b % 16) ∷ [])))) b
feed_spelling b lt other true e = record { visible = ((omega arith, omega arith), ((omega arith, omega arith), tt)); some = omega arith; spells = inr (inr (inl (eqb-true b 10 e, refl))) }
feed_spelling b lt other false e = space_spelling b lt other (eqb b 32) refl

byte_spelling : (b : ℕ) → b < 256 → (t : Bool) → eqb b 92 ≡ t
    → IsGoodSpelling (cond t (92 ∷ 92 ∷ []) (cond (eqb b 10) (92 ∷ 110 ∷ []) (cond (eqb b 32) (92 ∷ 115 ∷ []) (cond (is_ascii_graphic b) (b ∷ []) (92 ∷ 120 ∷ digit_char (b / 16) ∷ digit_char (b % 16) ∷ []))))) b
byte_spelling b lt true e = record { visible = ((omega arith, omega arith), ((omega arith, omega arith), tt)); some = omega arith; spells = inr (inl (eqb-true b 92 e, refl)) }
byte_spelling b lt false e = feed_spelling b lt (λ is. false≢true (sym e ∙ eq-eqb b 92 is)) (eqb b 10) refl

-- the printed form of a text spells it
text_spelled : (bytes : List ℕ) → AllByRecursion (λ b. b < 256) bytes → SpellsAll (flat_map byte_text bytes) bytes
text_spelled [] h = refl
text_spelled (b ∷ bytes) h = (byte_text b, flat_map byte_text bytes, refl, (byte_spelling b h.0 (eqb b 92) refl).spells, text_spelled bytes h.1)

text_visible : (bytes : List ℕ) → AllByRecursion (λ b. b < 256) bytes → AllByRecursion IsVisible (flat_map byte_text bytes)
text_visible [] h = tt
text_visible (b ∷ bytes) h = visible_append (byte_text b) (flat_map byte_text bytes) (byte_spelling b h.0 (eqb b 92) refl).visible (text_visible bytes h.1)

text_some : (bytes : List ℕ) → AllByRecursion (λ b. b < 256) bytes → 0 < length bytes → 0 < length (flat_map byte_text bytes)
text_some [] h some = absurd (omega arith)
text_some (b ∷ bytes) h some = omega (arith, length-append (byte_text b) (flat_map byte_text bytes), (byte_spelling b h.0 (eqb b 92) refl).some)

-- what a printable word spells are bytes
print_front : (xs ys : List ℕ) → AllByRecursion IsPrint (xs ++ ys) → AllByRecursion IsPrint xs
print_front [] ys h = tt
print_front (x ∷ xs) ys h = (h.0, print_front xs ys h.1)

print_back : (xs ys : List ℕ) → AllByRecursion IsPrint (xs ++ ys) → AllByRecursion IsPrint ys
print_back [] ys h = h
print_back (x ∷ xs) ys h = print_back xs ys h.1

spelled_byte : (piece : List ℕ) (b : ℕ) → AllByRecursion IsPrint piece → Spells piece b → b < 256
spelled_byte piece b h (inl s) = let one : AllByRecursion IsPrint (b ∷ []) = subst (AllByRecursion IsPrint) s.1 h in omega (arith, one.0)
spelled_byte piece b h (inr (inl s)) = omega (arith, s.0)
spelled_byte piece b h (inr (inr (inl s))) = omega (arith, s.0)
spelled_byte piece b h (inr (inr (inr (inl s)))) = omega (arith, s.0)
spelled_byte piece b h (inr (inr (inr (inr s)))) = omega (arith, s.value, s.high_digit, s.low_digit)

spelled_bytes : (word bytes : List ℕ) → AllByRecursion IsPrint word → SpellsAll word bytes → AllByRecursion (λ b. b < 256) bytes
spelled_bytes word [] h s = tt
spelled_bytes word (b ∷ bytes) h s =
    let parts : AllByRecursion IsPrint (s.0 ++ s.1) = subst (AllByRecursion IsPrint) s.2 h in
    (spelled_byte s.0 b (print_front s.0 s.1 parts) s.3, spelled_bytes s.1 bytes (print_back s.0 s.1 parts) s.4)

-- the printed form of an argument fits and is visible
record IsReadBack (k : Kind) (a : Argument) : Type 0 where
  fits : Fits k (argument_text a) a
  visible : IsVisibleWord (argument_text a)

number_back : (k : Kind) (word : List ℕ) (n : ℕ) → number_of word ≡ Ok n → (number_of (decimal n) ≡ Ok n → Fits k (decimal n) (NumberGiven n)) → IsReadBack k (NumberGiven n)
number_back k word n is fits =
    let small : n < 2 ^ 64 = number_small word n is in
    record { fits = fits (number_of-decimal n small); visible = decimal_visible n small }

content_back : (k : Kind) (word : List ℕ) (x : Content k) → IsVisibleWord word → Fits k word (argument_with k x) → IsReadBack k (argument_with k x)
content_back AnyPath word path visible h = record { fits = (h.0, refl); visible = path_visible path h.0.names }
content_back NamedPath word path visible h = record { fits = (h.0, h.1, refl); visible = path_visible path h.0.names }
content_back SomeText word bytes visible h =
    let small = spelled_bytes word bytes (visible_print word visible.1) h.spelled in
    record { fits = record { some = h.some; spelled = text_spelled bytes small }; visible = (text_some bytes small h.some, text_visible bytes small) }
content_back RestCount word n visible h = number_back RestCount word n h.0 (λ is. (is, h.1, h.2))
content_back SomeWord word given visible h = record { fits = refl; visible = subst IsVisibleWord (sym h) visible }
content_back VcpuNumber word n visible h = number_back VcpuNumber word n h.0 (λ is. (is, h.1))
content_back AnyAddress word n visible h = number_back AnyAddress word n h (λ is. is)
content_back ByteCount word n visible h = number_back ByteCount word n h.0 (λ is. (is, h.1, h.2))

read_back : (k : Kind) (word : List ℕ) (a : Argument) → IsVisibleWord word → Fits k word a → IsReadBack k a
read_back k word a visible h =
    let x = content_of k word a h in
    subst (IsReadBack k) (sym x.1) (content_back k word x.0 visible (subst (Fits k word) x.1 h))

record AreReadBack (ks : List Kind) (given : List Argument) : Type 0 where
  fits : FitAll ks (map argument_text given) given
  visible : AllByRecursion IsVisibleWord (map argument_text given)

all_read_back : (ks : List Kind) (ws : List (List ℕ)) (given : List Argument) → AllByRecursion IsVisibleWord ws → FitAll ks ws given → AreReadBack ks given
all_read_back [] [] [] seen h = record { fits = tt; visible = tt }
all_read_back [] [] (a ∷ given) seen h = absurd h
all_read_back [] (w ∷ ws) given seen h = absurd h
all_read_back (k ∷ ks) [] given seen h = absurd h
all_read_back (k ∷ ks) (w ∷ ws) [] seen h = absurd h
all_read_back (k ∷ ks) (w ∷ ws) (a ∷ given) seen h =
    let first = read_back k w a seen.0 h.0 in
    let others = all_read_back ks ws given seen.1 h.1 in
    record { fits = (first.fits, others.fits); visible = (first.visible, others.visible) }

-- a line whose row has two visible words gives the line that its arguments are printed as
pub record IsPrinted (family name : List ℕ) (kinds : List Kind) (given : List Argument) : Type 0 where
  pub printable : IsPrintable (join_with_byte 32 (family ∷ name ∷ map argument_text given))
  pub words_are : words (join_with_byte 32 (family ∷ name ∷ map argument_text given)) ≡ family ∷ name ∷ map argument_text given
  pub fit : FitAll kinds (map argument_text given) given

pub printed : (line family name : List ℕ) (ws : List (List ℕ)) (kinds : List Kind) (given : List Argument) → IsPrintable line → words line ≡ family ∷ name ∷ ws → FitAll kinds ws given → IsPrinted family name kinds given
printed line family name ws kinds given printable is fit =
    let seen : AllByRecursion IsVisibleWord (family ∷ name ∷ ws) = subst (AllByRecursion IsVisibleWord) is (words_visible line printable) in
    let back = all_read_back kinds ws given seen.1.1 fit in
    let texts = map argument_text given in
    let visible : AllByRecursion IsVisibleWord (family ∷ name ∷ texts) = (seen.0, (seen.1.0, back.visible)) in
    record {
      printable = All-from_recursion IsPrint (join_with_byte 32 (family ∷ name ∷ texts)) (joined_print (family ∷ name ∷ texts) visible);
      words_are = words_joined (family ∷ name ∷ texts) visible;
      fit = back.fits;
    }

-- what some line gives is given by its printed line
pub gives_back : (line : List ℕ) (c : Command) → Gives line c → Gives (command_text c) c
gives_back line c h =
    let back = printed line (row_of c).family (row_of c).name h.arguments (row_of c).kinds (arguments_of c) h.printable h.words_are h.fit in
    record { printable = back.printable; arguments = map argument_text (arguments_of c); words_are = back.words_are; fit = back.fit }
