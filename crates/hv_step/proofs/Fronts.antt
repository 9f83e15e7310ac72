-- Words in front of others: which step they are, and that it is one.
use Rattle.std.proofs.Common.{◌≡◌, ℕ, Bool, true, false, List, [], ◌∷◌, ◌++◌, refl, sym, ap, subst, ◌∙◌}
use Rattle.std.specs.Prelude.{Option, Some, None, is_some, Result, Ok, Err, MatchResult}
use Rattle.hv_kinds.specs.declared.generation.Generation.{Generation}
use Rattle.hv_data.specs.declared.refusal.WordRefusal.{WordRefusal}
use Rattle.hv_data.specs.Text.{generation_text}
use Rattle.hv_data.specs.Reading.{Because}
use Rattle.hv_data.specs.Data.{Datum, Number8, Name, Born, data_words, kinds_of}
use Rattle.hv_data.proofs.Composed.{because_more}
use Rattle.hv_data.proofs.DataLemmas.{same_data}
use Rattle.hv_name.specs.declared.name.StepName.{StepName}
use Rattle.hv_name.specs.declared.name.StepName.TheVariants as name
use Rattle.hv_name.specs.StepName.{name_word, name_spelled}
use Rattle.hv_name.proofs.Names.{spelled_back, same_name}
use Rattle.hv_step.specs.declared.step.ByGuest.{ByGuest}
use Rattle.hv_step.specs.declared.step.Step.{Step}
use Rattle.hv_step.specs.declared.step.Step.TheVariants as step
use Rattle.hv_step.specs.Words.{name_of, guest_data, step_data, step_words, GoesOn, IsOver, Ends, EndsBefore, BeginWithStep, BeginWithNoStep, IsOneStep}
use Rattle.hv_step.specs.Reading.{AreArguments, AreNoArguments, AreGuest}
use Rattle.hv_step.proofs.Tables.{no_step_of, step_of, step_back, number_in, at, guest_in}

name_back : (n : StepName) (ds : List Datum) → name_of (step_of n ds) ≡ n
name_back name.Bad ds = refl
name_back n ds = refl

-- whether a VCPU's step is made by its guest
abbrev by_guest : Step → Bool
by_guest (step.Kick s) = is_some s.guest
by_guest (step.Resume s) = is_some s.guest
by_guest (step.Pause s) = is_some s.guest
by_guest (step.Halt s) = is_some s.guest
by_guest (step.Reset s) = is_some s.guest
by_guest s = false

-- some data of a step of this form
abbrev example : Bool → List Datum
example true = Number8 0 ∷ Name [] ∷ Born None ∷ []
example false = []

guest_kinds : (v : ℕ) (o : Option ByGuest) → kinds_of (Number8 v ∷ guest_data o) ≡ kinds_of (Number8 (number_in (at (example (is_some o)) 0)) ∷ guest_data (guest_in (example (is_some o))))
guest_kinds v None = refl
guest_kinds v (Some g) = refl

-- the kinds of a step's data follow from its name and form
kinds_are : (s : Step) → kinds_of (step_data s) ≡ kinds_of (step_data (step_of (name_of s) (example (by_guest s))))
kinds_are (step.Kick s) = guest_kinds s.vcpu s.guest
kinds_are (step.Resume s) = guest_kinds s.vcpu s.guest
kinds_are (step.Pause s) = guest_kinds s.vcpu s.guest
kinds_are (step.Halt s) = guest_kinds s.vcpu s.guest
kinds_are (step.Reset s) = guest_kinds s.vcpu s.guest
kinds_are (step.Bad s) = refl
kinds_are s = refl

-- a generation stands where a step by number alone ends
clash : (n : List ℕ) (g : Option Generation) (rest behind : List (List ℕ)) → Ends behind → behind ≡ n ∷ generation_text g ∷ rest → ⊥
clash n None rest behind ends e = ends n (45 ∷ []) rest e
clash n (Some g) rest behind ends e = ends n _ rest e

same_guest : (v w : ℕ) (o p : Option ByGuest) (rest behind : List (List ℕ)) → IsOver o rest → IsOver p behind → data_words (Number8 v ∷ guest_data o) ++ rest ≡ data_words (Number8 w ∷ guest_data p) ++ behind → is_some o ≡ is_some p
same_guest v w None None rest behind h k e = refl
same_guest v w (Some g) (Some f) rest behind h k e = refl
same_guest v w None (Some f) rest behind h k e = absurd (clash f.name f.generation behind rest h (cc e))
same_guest v w (Some g) None rest behind h k e = absurd (clash g.name g.generation rest behind k (cc (sym e)))

-- two steps of one name in front of the same words have one form
same_form : (s : Step) (ds : List Datum) (rest behind : List (List ℕ)) → EndsBefore s rest → EndsBefore (step_of (name_of s) ds) behind
    → data_words (step_data s) ++ rest ≡ data_words (step_data (step_of (name_of s) ds)) ++ behind → by_guest s ≡ by_guest (step_of (name_of s) ds)
same_form (step.Kick s) ds rest behind h k e = same_guest s.vcpu (number_in (at ds 0)) s.guest (guest_in ds) rest behind h k e
same_form (step.Resume s) ds rest behind h k e = same_guest s.vcpu (number_in (at ds 0)) s.guest (guest_in ds) rest behind h k e
same_form (step.Pause s) ds rest behind h k e = same_guest s.vcpu (number_in (at ds 0)) s.guest (guest_in ds) rest behind h k e
same_form (step.Halt s) ds rest behind h k e = same_guest s.vcpu (number_in (at ds 0)) s.guest (guest_in ds) rest behind h k e
same_form (step.Reset s) ds rest behind h k e = same_guest s.vcpu (number_in (at ds 0)) s.guest (guest_in ds) rest behind h k e
same_form (step.Bad s) ds rest behind h k e = refl
same_form s ds rest behind h k e = refl

-- two steps of one name in front of the same words are one
one_named : (s : Step) (ds : List Datum) (rest behind : List (List ℕ)) (words : List (List ℕ)) → BeginWithStep words s rest → BeginWithStep words (step_of (name_of s) ds) behind → IsOneStep s (step_of (name_of s) ds) rest behind
one_named s ds rest behind words h k =
    let t : Step = step_of (name_of s) ds in
    let both : step_words s ++ rest ≡ step_words t ++ behind = sym h.words_are ∙ k.words_are in
    let data_are : data_words (step_data s) ++ rest ≡ data_words (step_data t) ++ behind = cc both in
    let named : name_of t ≡ name_of s = name_back (name_of s) ds in
    let form : by_guest s ≡ by_guest t = same_form s ds rest behind h.ends k.ends data_are in
    let kinds : kinds_of (step_data s) ≡ kinds_of (step_data t) =
    kinds_are s ∙ ap (λ (b : Bool). kinds_of (step_data (step_of (name_of s) (example b)))) form
    ∙ ap (λ (n : StepName). kinds_of (step_data (step_of n (example (by_guest t))))) (sym named) ∙ sym (kinds_are t) in
    let same = same_data (step_data s) (step_data t) rest behind kinds h.written k.written data_are in
    record {
      same_step = sym (step_back s) ∙ ap (step_of (name_of s)) same.same_data ∙ ap (λ (n : StepName). step_of n (step_data t)) (sym named) ∙ step_back t;
      same_rest = same.same_rest;
    }

pub same_step : (words : List (List ℕ)) (one other : Step) (rest behind : List (List ℕ)) → BeginWithStep words one rest → BeginWithStep words other behind → IsOneStep one other rest behind
same_step words one other rest behind h k =
    let both : step_words one ++ rest ≡ step_words other ++ behind = sym h.words_are ∙ k.words_are in
    let named : name_of one ≡ name_of other = same_name (name_of one) (name_of other) (cc both) in
    let is : step_of (name_of one) (step_data other) ≡ other = ap (λ (n : StepName). step_of n (step_data other)) named ∙ step_back other in
    let there : BeginWithStep words (step_of (name_of one) (step_data other)) behind = subst (λ (t : Step). BeginWithStep words t behind) (sym is) k in
    subst (λ (t : Step). IsOneStep one t rest behind) is (one_named one (step_data other) rest behind words h there)

-- what the words behind a name are read as is what all words are
pub step_read : {T : Type 0} (step_in : T → Step) (rest_in : T → List (List ℕ)) (words behind : List (List ℕ)) (first : List ℕ) (n : StepName) (r : Result T WordRefusal) → words ≡ first ∷ behind → first ≡ name_word n
    → MatchResult r (λ f. AreArguments n behind (step_in f) (rest_in f)) (λ e. Because e (AreNoArguments n behind))
    → MatchResult r (λ f. BeginWithStep words (step_in f) (rest_in f)) (λ e. Because e (BeginWithNoStep words))
step_read step_in rest_in words behind first n (Ok f) is word h = record {
  written = h.1.0;
  words_are = cc (is, word, ap name_word h.0, h.1.1);
  ends = h.1.2;
}
step_read step_in rest_in words behind first n (Err e) is word h = because_more e (λ none s rest there. none_here none s rest there) h
  where
    none_here : AreNoArguments n behind → BeginWithNoStep words
    none_here none s rest there =
        let both : first ∷ behind ≡ name_word (name_of s) ∷ (data_words (step_data s) ++ rest) = sym is ∙ there.words_are in
        let word_is : first ≡ name_word (name_of s) = cc both in
        let named : n ≡ name_of s = same_name n (name_of s) (sym word ∙ word_is) in
        no_step_of s behind rest (subst (λ (m : StepName). AreNoArguments m behind) named none) (there.written, cc both, there.ends)

-- words of which the first is no name are those of no step
pub no_step_where_unnamed : (words behind : List (List ℕ)) (first : List ℕ) → words ≡ first ∷ behind → None ≡ name_spelled first → BeginWithNoStep words
no_step_where_unnamed words behind first is none s rest h =
    let both : first ∷ behind ≡ name_word (name_of s) ∷ (data_words (step_data s) ++ rest) = sym is ∙ h.words_are in
    let word_is : first ≡ name_word (name_of s) = cc both in
    let found : None ≡ Some (name_of s) = none ∙ ap name_spelled word_is ∙ spelled_back (name_of s) in
    cc found

-- words behind which a guest follows are read as that guest's alone
pub no_guest : (words : List (List ℕ)) → GoesOn words → ((g : ByGuest) (rest : List (List ℕ)) → AreGuest words (Some g) rest → ⊥) → (o : Option ByGuest) (rest : List (List ℕ)) → AreGuest words o rest → ⊥
no_guest words goes none None rest h = h.2 goes.0 goes.1 goes.2 (sym h.1 ∙ goes.3)
no_guest words goes none (Some g) rest h = none g rest h
