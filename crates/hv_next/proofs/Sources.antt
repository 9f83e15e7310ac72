-- The files answer each step in one way.
use Rattle.std.proofs.Common.{◌≡◌, ℕ, ◌⊎◌, inl, inr, List, refl, sym, ap, ◌∙◌}
use Rattle.std.specs.Prelude.{Result, Ok, Err, Option, None, Some}
use Rattle.hv_asm.specs.Assembly.{IsAssembled, HasBadLine}
use Rattle.hv_asm.proofs.Assemblies.{one_assembly, one_bad_line, not_both}
use Rattle.hv_dtree.specs.declared.node.Node.{Node}
use Rattle.hv_dts.specs.Reading.{IsSourceOf, IsRefusedAt, no_token, unexpected, twice_named, bad_phandle, no_label, IsRefusedAs, IsAnswer}
use Rattle.hv_dts.specs.declared.refusal.DtsRefusal.{DtsRefusal}
use Rattle.hv_dts.specs.declared.refusal.DtsRefusal.TheVariants as dts
use Rattle.hv_dts.proofs.Exclusive.{same_refusal, source_answer}
use Rattle.hv_files.specs.declared.refusal.FileRefusal.{FileRefusal}
use Rattle.hv_refusal.specs.declared.refusal.Refusal.{Refusal}
use Rattle.hv_refusal.specs.declared.refusal.Refusal.TheVariants as refusal
use Rattle.hv_model.specs.Files.{FileMap, with_file, done, AnswersSource, words_written, AnswersText, AnswersAssembly}

-- the offset that a refusal carries
abbrev offset_of : DtsRefusal → Option ℕ
offset_of (dts.BadToken n) = Some n
offset_of (dts.Unexpected n) = Some n
offset_of (dts.TwiceNamed n) = Some n
offset_of (dts.BadPhandle n) = Some n
offset_of (dts.NoLabel n) = Some n
offset_of (dts.Memory e) = None

-- a text that is refused at an offset is refused in some way with this offset
refused-so : (text : List ℕ) (n : ℕ) → IsRefusedAt text n → (why : DtsRefusal) × IsRefusedAs text why × (offset_of why ≡ Some n)
refused-so text n (no_token h) = (dts.BadToken n, h, refl)
refused-so text n (unexpected h) = (dts.Unexpected n, h, refl)
refused-so text n (twice_named h) = (dts.TwiceNamed n, h, refl)
refused-so text n (bad_phandle h) = (dts.BadPhandle n, h, refl)
refused-so text n (no_label h) = (dts.NoLabel n, h, refl)

some-same : {A : Type 0} (x y : A) → Some x ≡ Some y → x ≡ y
some-same x y e = cc

offset-same : (one other : DtsRefusal) (m n : ℕ) → IsAnswer (Err one) other → offset_of one ≡ Some m → offset_of other ≡ Some n → m ≡ n
offset-same one (dts.Memory e) m n h p q = absurd (cc q)
offset-same (dts.Memory e) other m n h p q = absurd (cc p)
offset-same one other m n h p q = some-same m n (sym p ∙ ap offset_of h ∙ q)

no-answer : (tree : Node) (why : DtsRefusal) (n : ℕ) → IsAnswer (Ok tree) why → offset_of why ≡ Some n → ⊥
no-answer tree (dts.Memory e) n h p = cc p
no-answer tree why n h p = h

-- a text is refused at one offset, and no source is refused
refused-once : (text : List ℕ) (m n : ℕ) → IsRefusedAt text m → IsRefusedAt text n → m ≡ n
refused-once text m n h k =
    let a = refused-so text m h in
    let b = refused-so text n k in
    offset-same a.0 b.0 m n (same_refusal text a.0 b.0 a.1 b.1) a.2 b.2

source-refused : (text : List ℕ) (tree : Node) (n : ℕ) → IsSourceOf text tree → IsRefusedAt text n → ⊥
source-refused text tree n is h =
    let a = refused-so text n h in
    no-answer tree a.0 n (source_answer text tree a.0 is a.1) a.2

-- what a file that is there is answered as a source
abbrev SourceCases : List ℕ → Result (List ℕ) Refusal → Type 0
SourceCases bytes a =
    ((a ≡ Ok bytes) × (tree : Node) × IsSourceOf bytes tree) ⊎ ((n : ℕ) × (a ≡ Err (refusal.BadTree n)) × IsRefusedAt bytes n)

source-cases : (bytes : List ℕ) (a : Result (List ℕ) Refusal) → AnswersSource (Ok bytes) a → SourceCases bytes a
source-cases bytes (Ok given) h = inl (ap Ok h.0, h.1, h.2)
source-cases bytes (Err (refusal.BadTree n)) h = inr (n, refl, h)
source-cases bytes (Err why) h = absurd h

pub source-once : (found : Result (List ℕ) FileRefusal) (a b : Result (List ℕ) Refusal) → AnswersSource found a → AnswersSource found b → a ≡ b
source-once (Err why) a b h k = h ∙ sym k
source-once (Ok bytes) a b h k =
    elim (source-cases bytes a h) [
      | inl x ↦ elim (source-cases bytes b k) [
        | inl y ↦ x.0 ∙ sym y.0
        | inr y ↦ absurd (source-refused bytes x.1 y.0 x.2 y.2)
      ]
      | inr x ↦ elim (source-cases bytes b k) [
        | inl y ↦ absurd (source-refused bytes y.1 x.0 y.2 x.2)
        | inr y ↦ x.1 ∙ ap (λ (n : ℕ). Err (refusal.BadTree n)) (refused-once bytes x.0 y.0 x.2 y.2) ∙ sym y.1
      ]
    ]

-- what a text is answered where it is assembled to a path
abbrev TextCases : FileMap → List ℕ → List (List ℕ) → Result ℕ Refusal → Type 0
TextCases m text path a =
    ((n : ℕ) × (a ≡ Err (refusal.BadAsm n)) × HasBadLine text n)
    ⊎ ((image : List ℕ) × IsAssembled text image × (a ≡ words_written image (done (with_file m path image))))

text-cases : (m : FileMap) (text : List ℕ) (path : List (List ℕ)) (a : Result ℕ Refusal) → AnswersText m text path a → TextCases m text path a
text-cases m text path (Ok count) h = inr h
text-cases m text path (Err (refusal.BadAsm n)) h = inl (n, refl, h)
text-cases m text path (Err why) h = inr h

pub assembly-once : (m : FileMap) (found : Result (List ℕ) FileRefusal) (path : List (List ℕ)) (a b : Result ℕ Refusal) → AnswersAssembly m found path a → AnswersAssembly m found path b → a ≡ b
assembly-once m (Err why) path a b h k = h ∙ sym k
assembly-once m (Ok text) path a b h k =
    let written = λ (image : List ℕ). words_written image (done (with_file m path image)) in
    elim (text-cases m text path a h) [
      | inl x ↦ elim (text-cases m text path b k) [
        | inl y ↦ x.1 ∙ ap (λ (n : ℕ). Err (refusal.BadAsm n)) (one_bad_line text x.0 y.0 x.2 y.2) ∙ sym y.1
        | inr y ↦ absurd (not_both text y.0 x.0 y.1 x.2)
      ]
      | inr x ↦ elim (text-cases m text path b k) [
        | inl y ↦ absurd (not_both text x.0 y.0 x.1 y.2)
        | inr y ↦ x.2 ∙ ap written (one_assembly text x.0 y.0 x.1 y.1) ∙ sym y.2
      ]
    ]
