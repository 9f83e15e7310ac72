-- One item, and items one after the other.
use Rattle.std.proofs.Common.{◌≡◌, ◌≢◌, ℕ, ◌+◌, ◌-◌, ◌^◌, Some, None, ◌<◌, List, [], ◌∷◌, ◌++◌, length, drop, refl, sym, ap, ◌∙◌, arith, append_assoc, length-append}
use Rattle.std.specs.Fmt.{decimal}
use Rattle.std.specs.Str.Parse.{AllDigits}
use Rattle.std.proofs.lemmas.List.{append-nil, drop_at}
use Rattle.std.proofs.lemmas.Str.Parse.{digit_from_value}
use Rattle.std.proofs.lemmas.Fmt.{decimal_injective, decimal_is_IsNumeral}
use Rattle.hv_text.specs.Front.{IsFree}
use Rattle.hv_text.specs.Path.{path_text}
use Rattle.hv_text.proofs.Fronts.{same_front}
use Rattle.hv_text.proofs.Names.{path_text_same, path_text_free}
use Rattle.hv_bundle.specs.declared.file.File.{File}
use Rattle.hv_bundle.specs.Reading.{IsPathText, IsLengthText, IsItemAt}
use Rattle.hv_bundle.specs.Bundle.{IsFile, item_text, magic}

-- an item, and what follows it, part by part
abbrev pub item_then : File → List ℕ → List ℕ
item_then file rest = 102 ∷ 105 ∷ 108 ∷ 101 ∷ 32 ∷ (path_text file.path ++ (32 ∷ (decimal (length file.bytes) ++ (10 ∷ (file.bytes ++ (10 ∷ rest))))))

pub item_text-append : (file : File) (rest : List ℕ) → item_text file ++ rest ≡ item_then file rest
item_text-append file rest = simp append_assoc

item_some : (file : File) → 0 < length (item_text file)
item_some file = omega (arith, ap length (sym (append-nil (item_text file)) ∙ item_text-append file []))

pub magic_is : (rest : List ℕ) → magic ++ rest ≡ 88 ∷ 86 ∷ 66 ∷ 49 ∷ 10 ∷ rest
magic_is rest = refl

digits_free : (ds : List ℕ) → AllDigits 10 ds → IsFree 10 ds
digits_free [] each = tt
digits_free (d ∷ ds) each = let digit = digit_from_value d each.0 in (λ e. omega (arith, digit, e), digits_free ds each.1)

pub decimal_free : (n : ℕ) → n < 2 ^ 64 → IsFree 10 (decimal n)
decimal_free n lt = digits_free (decimal n) (decimal_is_IsNumeral n lt).0.1

abbrev head : List ℕ → List ℕ
head rest = 102 ∷ 105 ∷ 108 ∷ 101 ∷ 32 ∷ rest

-- what follows the path, and what follows the length
abbrev behind_size : File → List ℕ → List ℕ
behind_size file rest = file.bytes ++ (10 ∷ rest)

abbrev behind_path : File → List ℕ → List ℕ
behind_path file rest = decimal (length file.bytes) ++ (10 ∷ behind_size file rest)

after_head : (text t : List ℕ) (file : File) (rest : List ℕ) → text ≡ head t → text ≡ item_text file ++ rest → t ≡ path_text file.path ++ (32 ∷ behind_path file rest)
after_head text t file rest here there =
    let both : head t ≡ head (path_text file.path ++ (32 ∷ behind_path file rest)) = sym here ∙ there ∙ item_text-append file rest in
    cc both

-- a word that ends at a byte
word_is : (end : ℕ) (a b x y : List ℕ) → IsFree end a → IsFree end b → a ++ end ∷ x ≡ b ++ end ∷ y → (a ≡ b) × (x ≡ y)
word_is end a b x y fa fb e =
    let both = same_front end a b (end ∷ x) (end ∷ y) fa fb refl refl e in
    let tails : x ≡ y = cc both.1 in
    (both.0, tails)

-- fronts of one length
same_size : (a b x y : List ℕ) → length a ≡ length b → a ++ x ≡ b ++ y → (a ≡ b) × (x ≡ y)
same_size [] [] x y size e = (refl, e)
same_size [] (c ∷ b) x y size e = absurd (omega arith)
same_size (c ∷ a) [] x y size e = absurd (omega arith)
same_size (c ∷ a) (d ∷ b) x y size e =
    let heads : c ≡ d = cc e in
    let tails : a ++ x ≡ b ++ y = cc e in
    let both = same_size a b x y (omega arith) tails in
    (cc (heads, both.0), both.1)

-- the reader's ways out
pub none_at_word : (text t : List ℕ) → text ≡ head t → ((word rest : List ℕ) → IsFree 32 word → t ≢ word ++ 32 ∷ rest) → IsItemAt text None
none_at_word text t here none_here file rest is e =
    none_here (path_text file.path) (behind_path file rest) (path_text_free file.path is.names) (after_head text t file rest here e)

path_parts : (text t w u : List ℕ) (file : File) (rest : List ℕ) → text ≡ head t → IsFree 32 w → t ≡ w ++ 32 ∷ u → IsFile file → text ≡ item_text file ++ rest → (w ≡ path_text file.path) × (u ≡ behind_path file rest)
path_parts text t w u file rest here free word is e =
    word_is 32 w (path_text file.path) u (behind_path file rest) free (path_text_free file.path is.names) (sym word ∙ after_head text t file rest here e)

pub none_at_path : (text t w u : List ℕ) → text ≡ head t → IsFree 32 w → t ≡ w ++ 32 ∷ u → IsPathText w None → IsItemAt text None
none_at_path text t w u here free word none_here file rest is e =
    none_here file.path is.names is.some (path_parts text t w u file rest here free word is e).0

pub none_at_digits : (text t w u : List ℕ) → text ≡ head t → IsFree 32 w → t ≡ w ++ 32 ∷ u → ((digits rest : List ℕ) → IsFree 10 digits → u ≢ digits ++ 10 ∷ rest) → IsItemAt text None
none_at_digits text t w u here free word none_here file rest is e =
    none_here (decimal (length file.bytes)) (behind_size file rest) (decimal_free (length file.bytes) is.size) (path_parts text t w u file rest here free word is e).1

size_parts : (text t w u d v : List ℕ) (file : File) (rest : List ℕ) → text ≡ head t → IsFree 32 w → t ≡ w ++ 32 ∷ u → IsFree 10 d → u ≡ d ++ 10 ∷ v → IsFile file → text ≡ item_text file ++ rest → (d ≡ decimal (length file.bytes)) × (v ≡ behind_size file rest)
size_parts text t w u d v file rest here free word digits_free line is e =
    word_is 10 d (decimal (length file.bytes)) v (behind_size file rest) digits_free (decimal_free (length file.bytes) is.size) (sym line ∙ (path_parts text t w u file rest here free word is e).1)

pub none_at_size : (text t w u d v : List ℕ) → text ≡ head t → IsFree 32 w → t ≡ w ++ 32 ∷ u → IsFree 10 d → u ≡ d ++ 10 ∷ v → IsLengthText d None → IsItemAt text None
none_at_size text t w u d v here free word digits line none_here file rest is e =
    none_here (length file.bytes) is.size (size_parts text t w u d v file rest here free word digits line is e).0

pub none_at_body : (text t w u d v : List ℕ) (n : ℕ) → text ≡ head t → IsFree 32 w → t ≡ w ++ 32 ∷ u → IsFree 10 d → u ≡ d ++ 10 ∷ v → IsLengthText d (Some n)
    → ((bytes rest : List ℕ) → length bytes ≡ n → v ≢ bytes ++ 10 ∷ rest) → IsItemAt text None
none_at_body text t w u d v n here free word digits line size none_here file rest is e =
    let parts = size_parts text t w u d v file rest here free word digits line is e in
    let same : length file.bytes ≡ n = decimal_injective (length file.bytes) n is.size size.0 (sym parts.0 ∙ size.1) in
    none_here file.bytes rest same parts.1

pub item_found : (text t w u d v x : List ℕ) (n : ℕ) (file : File) → text ≡ head t → t ≡ w ++ 32 ∷ u → u ≡ d ++ 10 ∷ v → IsLengthText d (Some n) → IsPathText w (Some file.path)
    → length file.bytes ≡ n → v ≡ file.bytes ++ 10 ∷ x → IsItemAt text (Some (file, length text - length x))
item_found text t w u d v x n file here word line size path same body =
    let whole : text ≡ item_then file x = here ∙ ap head (word ∙ (λ i. path.2 i ++ 32 ∷ u) ∙ ap (λ (s : List ℕ). path_text file.path ++ 32 ∷ s) (line ∙ ap (λ (s : List ℕ). s ++ 10 ∷ v) (size.1 ∙ ap decimal (sym same)) ∙ ap (λ (s : List ℕ). decimal (length file.bytes) ++ 10 ∷ s) body)) in
    let parts : text ≡ item_text file ++ x = whole ∙ sym (item_text-append file x) in
    let sizes : length text ≡ length (item_text file) + length x = ap length parts ∙ length-append (item_text file) x in
    let at : length (item_text file) ≡ length text - length x = omega arith in
    let behind : drop (length text - length x) text ≡ x = ap (λ (s : List ℕ). drop (length text - length x) s) parts ∙ drop_at (item_text file) x (length text - length x) at in
    let some : 0 < length (item_text file) = item_some file in
    (record { names = path.0; some = path.1; size = omega (arith, size.0) }, omega arith, omega arith, parts ∙ ap (λ (s : List ℕ). item_text file ++ s) (sym behind))

-- a text has one item at its front
pub first_item : (one other : File) (x y : List ℕ) → IsFile one → IsFile other → item_text one ++ x ≡ item_text other ++ y → (one ≡ other) × (x ≡ y)
first_item one other x y is there e =
    let t : path_text one.path ++ (32 ∷ behind_path one x) ≡ path_text other.path ++ (32 ∷ behind_path other y) =
    after_head (item_text one ++ x) (path_text one.path ++ (32 ∷ behind_path one x)) other y (item_text-append one x) e in
    let paths = word_is 32 (path_text one.path) (path_text other.path) (behind_path one x) (behind_path other y) (path_text_free one.path is.names) (path_text_free other.path there.names) t in
    let sizes = word_is 10 (decimal (length one.bytes)) (decimal (length other.bytes)) (behind_size one x) (behind_size other y) (decimal_free (length one.bytes) is.size) (decimal_free (length other.bytes) there.size) paths.1 in
    let bodies = same_size one.bytes other.bytes (10 ∷ x) (10 ∷ y) (decimal_injective (length one.bytes) (length other.bytes) is.size there.size sizes.0) sizes.1 in
    let path_is = path_text_same one.path other.path is.some there.some is.names there.names paths.0 in
    let rests : x ≡ y = cc bodies.1 in
    ((λ i. record { path = path_is i; bytes = bodies.0 i }), rests)
