-- Refusals and their words.
use Rattle.std.proofs.Common.{◌≡◌, ℕ, ◌<◌, Bool, true, not, eqb, List, [], ◌∷◌, length, refl, sym, ap, subst, ◌∙◌, inl, inr, arith}
use Rattle.std.specs.Prelude.{◌⊎◌, if◌then◌else◌, codes, Option, Some, None, Result, Ok, Err, MatchResult}
use Rattle.std.specs.List.{list_all}
use Rattle.std.specs.Fmt.{decimal}
use Rattle.std.proofs.lemmas.Fmt.{decimal_injective}
use Rattle.hv_kinds.specs.declared.cause.Cause.{Cause}
use Rattle.hv_kinds.specs.declared.cause.Cause.TheVariants as cause
use Rattle.hv_kinds.specs.Cause.{cause_word}
use Rattle.hv_data.specs.declared.refusal.WordRefusal.{WordRefusal}
use Rattle.hv_data.specs.Text.{stage_text, state_name_text}
use Rattle.hv_data.specs.Written.{IsNumber, IsNumber8, IsAny}
use Rattle.hv_data.specs.Reading.{Because}
use Rattle.hv_data.specs.Data.{Number, Number8, At, Named, HaveNoSpace}
use Rattle.hv_data.proofs.Composed.{because_more}
use Rattle.hv_data.proofs.DataLemmas.{same_stage, same_state_name, free_by_test, data_free}
use Rattle.hv_refusal.specs.declared.refusal.Refusal.{Refusal}
use Rattle.hv_refusal.specs.declared.refusal.Refusal.TheVariants as refusal
use Rattle.hv_refusal.specs.declared.arguments.Telling.{Telling}
use Rattle.hv_refusal.specs.declared.arguments.Telling.TheVariants as telling
use Rattle.hv_refusal.specs.Refusal.{refusal_name, refusal_arguments, refusal_words, IsRefusal}
use Rattle.hv_refusal.proofs.Nodes.{node_path_free}
use Rattle.hv_refusal.specs.Reading.{AreRefusalWords, is_word, bare_spelled, telling_word, telling_spelled, IsAlone, AreArguments}

-- a refusal that tells nothing
pub record IsBare (why : Refusal) : Type 0 where
  pub spelled : bare_spelled (refusal_name why) ≡ Some why
  pub nothing : refusal_arguments why ≡ []

-- a refusal that tells something
pub record Tells (why : Refusal) : Type 0 where
  pub name : Telling
  pub not_bare : bare_spelled (refusal_name why) ≡ None
  pub spelled : telling_spelled (refusal_name why) ≡ Some name
  pub arguments : AreArguments name (refusal_arguments why) why

-- each refusal is one of the two
sorted : (why : Refusal) → IsRefusal why → IsBare why ⊎ Tells why
sorted (refusal.BadWords n) h = inr (record { name = telling.BadWords; not_bare = refl; spelled = refl; arguments = (n, refl, (h, refl)) })
sorted (refusal.BadTree n) h = inr (record { name = telling.BadTree; not_bare = refl; spelled = refl; arguments = (n, refl, (h, refl)) })
sorted (refusal.BadAsm n) h = inr (record { name = telling.BadAsm; not_bare = refl; spelled = refl; arguments = (n, refl, (h, refl)) })
sorted (refusal.GuestState s) h = inr (record { name = telling.GuestState; not_bare = refl; spelled = refl; arguments = (s, refl, (tt, refl)) })
sorted (refusal.BadNode p c) h = inr (record { name = telling.BadNode; not_bare = refl; spelled = refl; arguments = (p, c, refl, h, refl) })
sorted (refusal.Overlap row) h = inr (record { name = telling.Overlap; not_bare = refl; spelled = refl; arguments = (row, refl, (h, refl)) })
sorted (refusal.WrongState s) h = inr (record { name = telling.WrongState; not_bare = refl; spelled = refl; arguments = (s, refl, (tt, refl)) })
sorted _ h = inl (record { spelled = refl; nothing = refl })

-- what the words of a refusal say of its name and of what it tells
record Behind (first : List ℕ) (rest : List (List ℕ)) (why : Refusal) : Type 0 where
  name_is : first ≡ refusal_name why
  rest_is : rest ≡ refusal_arguments why

behind : (words rest : List (List ℕ)) (first : List ℕ) (why : Refusal) → words ≡ first ∷ rest → AreRefusalWords words why → Behind first rest why
behind words rest first why is h =
    let both : first ∷ rest ≡ refusal_name why ∷ refusal_arguments why = sym is ∙ h.1 in
    record { name_is = cc both; rest_is = cc both }

-- the name of a refusal that tells nothing stands alone
pub none_behind_bare : (words rest : List (List ℕ)) (first : List ℕ) (found : Refusal) → words ≡ first ∷ rest → bare_spelled first ≡ Some found → 0 < length rest → (why : Refusal) → AreRefusalWords words why → ⊥
none_behind_bare words rest first found is bare some why h =
    let b = behind words rest first why is h in
    elim (sorted why h.0) [
      | inl nothing ↦ omega (arith, ap length (b.rest_is ∙ nothing.nothing), some)
      | inr tells ↦
          let both : Some found ≡ None = sym bare ∙ ap bare_spelled b.name_is ∙ tells.not_bare in
          cc both
    ]

-- a word that names no refusal begins none
pub none_unnamed : (words rest : List (List ℕ)) (first : List ℕ) → words ≡ first ∷ rest → bare_spelled first ≡ None → telling_spelled first ≡ None → (why : Refusal) → AreRefusalWords words why → ⊥
none_unnamed words rest first is bare telling why h =
    let b = behind words rest first why is h in
    elim (sorted why h.0) [
      | inl nothing ↦
          let both : None ≡ Some why = sym bare ∙ ap bare_spelled b.name_is ∙ nothing.spelled in
          cc both
      | inr tells ↦
          let both : None ≡ Some tells.name = sym telling ∙ ap telling_spelled b.name_is ∙ tells.spelled in
          cc both
    ]

-- what stands behind a name is what the refusal tells
arguments_from : (words rest : List (List ℕ)) (first : List ℕ) (name : Telling) (why : Refusal) → words ≡ first ∷ rest → bare_spelled first ≡ None → telling_spelled first ≡ Some name → AreRefusalWords words why → AreArguments name rest why
arguments_from words rest first name why is bare telling h =
    let b = behind words rest first why is h in
    elim (sorted why h.0) [
      | inl nothing ↦
          let both : None ≡ Some why = sym bare ∙ ap bare_spelled b.name_is ∙ nothing.spelled in
          absurd (cc both)
      | inr tells ↦
          let both : Some tells.name ≡ Some name = sym tells.spelled ∙ sym (ap telling_spelled b.name_is) ∙ telling in
          let named : tells.name ≡ name = cc both in
          subst (λ (n : Telling). AreArguments n rest why) named (subst (λ (ws : List (List ℕ)). AreArguments tells.name ws why) (sym b.rest_is) tells.arguments)
    ]

words_of : (name : Telling) (rest : List (List ℕ)) (why : Refusal) → AreArguments name rest why → AreRefusalWords (telling_word name ∷ rest) why
words_of telling.BadWords rest why h = subst (AreRefusalWords _) (sym h.1) (h.2.0, ap (λ (ws : List (List ℕ)). telling_word telling.BadWords ∷ ws) h.2.1)
words_of telling.BadTree rest why h = subst (AreRefusalWords _) (sym h.1) (h.2.0, ap (λ (ws : List (List ℕ)). telling_word telling.BadTree ∷ ws) h.2.1)
words_of telling.BadAsm rest why h = subst (AreRefusalWords _) (sym h.1) (h.2.0, ap (λ (ws : List (List ℕ)). telling_word telling.BadAsm ∷ ws) h.2.1)
words_of telling.GuestState rest why h = subst (AreRefusalWords _) (sym h.1) (tt, ap (λ (ws : List (List ℕ)). telling_word telling.GuestState ∷ ws) h.2.1)
words_of telling.BadNode rest why h = subst (AreRefusalWords _) (sym h.2) (h.3, ap (λ (ws : List (List ℕ)). telling_word telling.BadNode ∷ ws) h.4)
words_of telling.Overlap rest why h = subst (AreRefusalWords _) (sym h.1) (h.2.0, ap (λ (ws : List (List ℕ)). telling_word telling.Overlap ∷ ws) h.2.1)
words_of telling.WrongState rest why h = subst (AreRefusalWords _) (sym h.1) (tt, ap (λ (ws : List (List ℕ)). telling_word telling.WrongState ∷ ws) h.2.1)

-- what the words behind a name are read as is what all words are
pub refusal_read : (words rest : List (List ℕ)) (first : List ℕ) (name : Telling) (r : Result Refusal WordRefusal) → words ≡ first ∷ rest → bare_spelled first ≡ None → telling_spelled first ≡ Some name → first ≡ telling_word name
    → MatchResult r (λ why. AreArguments name rest why) (λ e. Because e ((why : Refusal) → AreArguments name rest why → ⊥))
    → MatchResult r (λ why. AreRefusalWords words why) (λ e. Because e ((why : Refusal) → AreRefusalWords words why → ⊥))
refusal_read words rest first name (Ok why) is bare telling word h =
    subst (λ (ws : List (List ℕ)). AreRefusalWords ws why) (sym (is ∙ ap (λ (w : List ℕ). w ∷ rest) word)) (words_of name rest why h)
refusal_read words rest first name (Err e) is bare telling word h =
    because_more e (λ none why there. none why (arguments_from words rest first name why is bare telling there)) h

-- two written values with one word alone are one
same_alone : {A : Type 0} (good : A → Type 0) (shown : A → List ℕ) → ((x y : A) → good x → good y → shown x ≡ shown y → x ≡ y) → (words : List (List ℕ)) (x y : A) → IsAlone good shown words x → IsAlone good shown words y → x ≡ y
same_alone good shown same words x y h k =
    let both : shown x ∷ [] ≡ shown y ∷ [] = sym h.1 ∙ k.1 in
    same x y h.0 k.0 (cc both)

same_row : (m n : ℕ) → IsNumber8 m → IsNumber8 n → decimal m ≡ decimal n → m ≡ n
same_row m n h k e = decimal_injective m n (omega arith) (omega arith) e

-- the cause that a word stands for
abbrev cause_spelled : List ℕ → Option Cause
cause_spelled word =
    if is_word word (codes "Missing") then Some cause.Missing else (
    if is_word word (codes "TooMany") then Some cause.TooMany else (
    if is_word word (codes "Kind") then Some cause.Kind else (
    if is_word word (codes "Form") then Some cause.Form else (
    if is_word word (codes "NoArea") then Some cause.NoArea else (
    if is_word word (codes "Parent") then Some cause.Parent else (
    if is_word word (codes "SourceUsed") then Some cause.SourceUsed else (
    if is_word word (codes "Overlap") then Some cause.Overlap else (
    if is_word word (codes "AliasTarget") then Some cause.AliasTarget else None))))))))

cause_back : (c : Cause) → cause_spelled (cause_word c) ≡ Some c
cause_back cause.Missing = refl
cause_back cause.TooMany = refl
cause_back cause.Kind = refl
cause_back cause.Form = refl
cause_back cause.NoArea = refl
cause_back cause.Parent = refl
cause_back cause.SourceUsed = refl
cause_back cause.Overlap = refl
cause_back cause.AliasTarget = refl

same_cause : (c d : Cause) → cause_word c ≡ cause_word d → c ≡ d
same_cause c d e =
    let both : Some c ≡ Some d = sym (cause_back c) ∙ ap cause_spelled e ∙ cause_back d in
    cc both

same_arguments : (name : Telling) (words : List (List ℕ)) (why other : Refusal) → AreArguments name words why → AreArguments name words other → why ≡ other
same_arguments telling.BadWords words why other h k = h.1 ∙ ap refusal.BadWords (same_alone IsNumber decimal decimal_injective words h.0 k.0 h.2 k.2) ∙ sym k.1
same_arguments telling.BadTree words why other h k = h.1 ∙ ap refusal.BadTree (same_alone IsNumber decimal decimal_injective words h.0 k.0 h.2 k.2) ∙ sym k.1
same_arguments telling.BadAsm words why other h k = h.1 ∙ ap refusal.BadAsm (same_alone IsNumber decimal decimal_injective words h.0 k.0 h.2 k.2) ∙ sym k.1
same_arguments telling.GuestState words why other h k =
    h.1 ∙ ap refusal.GuestState (same_alone IsAny stage_text (λ s t _ _ e. same_stage s t e) words h.0 k.0 h.2 k.2) ∙ sym k.1
same_arguments telling.BadNode words why other h k =
    let both : h.0 ∷ cause_word h.1 ∷ [] ≡ k.0 ∷ cause_word k.1 ∷ [] = sym h.4 ∙ k.4 in
    let paths : h.0 ≡ k.0 = cc both in
    let causes : h.1 ≡ k.1 = same_cause h.1 k.1 (cc both) in
    h.2 ∙ ap (λ (p : List ℕ). refusal.BadNode p h.1) paths ∙ ap (λ (c : Cause). refusal.BadNode k.0 c) causes ∙ sym k.2
same_arguments telling.Overlap words why other h k = h.1 ∙ ap refusal.Overlap (same_alone IsNumber8 decimal same_row words h.0 k.0 h.2 k.2) ∙ sym k.1
same_arguments telling.WrongState words why other h k =
    h.1 ∙ ap refusal.WrongState (same_alone IsAny state_name_text (λ s t _ _ e. same_state_name s t e) words h.0 k.0 h.2 k.2) ∙ sym k.1

-- two refusals with the same words are one
pub same_refusal : (why other : Refusal) → IsRefusal why → IsRefusal other → refusal_words why ≡ refusal_words other → why ≡ other
same_refusal why other h k e =
    let names : refusal_name why ≡ refusal_name other = cc e in
    elim (sorted why h) [
      | inl bare ↦ elim (sorted other k) [
        | inl bare' ↦
            let both : Some why ≡ Some other = sym bare.spelled ∙ ap bare_spelled names ∙ bare'.spelled in
            cc both
        | inr tells ↦
            let both : Some why ≡ None = sym bare.spelled ∙ ap bare_spelled names ∙ tells.not_bare in
            absurd (cc both)
      ]
      | inr tells ↦
          same_arguments tells.name (refusal_arguments why) why other tells.arguments
          (arguments_from (refusal_words why) (refusal_arguments why) (refusal_name why) tells.name other refl tells.not_bare tells.spelled (k, e))
    ]

-- no name has a space
abbrev lacks_space : List ℕ → Bool
lacks_space text = list_all (λ b. not (eqb b 32)) text

name_lacks : (why : Refusal) → lacks_space (refusal_name why) ≡ true
name_lacks refusal.NoCommand = refl
name_lacks _ = refl

cause_lacks : (c : Cause) → lacks_space (cause_word c) ≡ true
cause_lacks cause.Missing = refl
cause_lacks _ = refl

arguments_free : (why : Refusal) → IsRefusal why → HaveNoSpace (refusal_arguments why)
arguments_free (refusal.BadWords n) h = data_free (Number n ∷ []) (h, tt)
arguments_free (refusal.BadTree n) h = data_free (Number n ∷ []) (h, tt)
arguments_free (refusal.BadAsm n) h = data_free (Number n ∷ []) (h, tt)
arguments_free (refusal.GuestState s) h = data_free (At s ∷ []) (tt, tt)
arguments_free (refusal.BadNode p c) h = (node_path_free p h, (free_by_test 32 (cause_word c) (cause_lacks c), tt))
arguments_free (refusal.Overlap row) h = data_free (Number8 row ∷ []) (h, tt)
arguments_free (refusal.WrongState s) h = data_free (Named s ∷ []) (tt, tt)
arguments_free _ h = tt

-- no word of a refusal has a space
pub refusal_free : (why : Refusal) → IsRefusal why → HaveNoSpace (refusal_words why)
refusal_free why h = (free_by_test 32 (refusal_name why) (name_lacks why), arguments_free why h)
