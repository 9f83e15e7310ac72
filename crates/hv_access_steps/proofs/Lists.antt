-- Components that stand in one list, of which the first takes a step apart from the others.
use Rattle.std.proofs.Common.{◌≡◌, List, [], ◌∷◌, ◌++◌, map, length, slice_index_or, slice_set, ap, sym, subst, ◌∙◌, arith, Option, None, Some}
use Rattle.std.specs.Prelude.{IfOk, IfSome, Result, Ok, Err}
use Rattle.hv_answer.specs.declared.reply.Reply.{Reply}
use Rattle.hv_event.specs.declared.event.ActorId.{ActorId}
use Rattle.hv_event.specs.declared.event.CellId.{CellId}
use Rattle.hv_parts.specs.Kinds.{AreOf}
use Rattle.hv_parts.specs.Takes.{PartTakes, AllTake}
use Rattle.hv_parts.specs.Value.{PartValue}
use Rattle.hv_parts.proofs.Lists.{kept-as}
use Rattle.hv_rules.specs.Carry.{Carry}
use Rattle.hv_step.specs.declared.step.Step.{Step}
use Rattle.hv_access_steps.specs.First.{StandFirst}

module _ {P : Type 0} (f : P → PartValue) where
  -- The first component and the others are of their kinds.
  pub first-of : (x : CellId) (xs : List CellId) (ps front back : List P) → AreOf (x ∷ xs) (map f ps) → ps ≡ front ++ back → length front ≡ 1 → AreOf (x ∷ []) (map f front)
  first-of x xs ps [] back are is long = absurd (omega (arith, long))
  first-of x xs ps (p ∷ q ∷ front) back are is long = absurd (omega (arith, long))
  first-of x xs ps (p ∷ []) back are is long = ((subst (λ l. AreOf (x ∷ xs) (map f l)) is are).0, tt)

  pub others-of : (x : CellId) (xs : List CellId) (ps front back : List P) → AreOf (x ∷ xs) (map f ps) → ps ≡ front ++ back → length front ≡ 1 → AreOf xs (map f back)
  others-of x xs ps [] back are is long = absurd (omega (arith, long))
  others-of x xs ps (p ∷ q ∷ front) back are is long = absurd (omega (arith, long))
  others-of x xs ps (p ∷ []) back are is long = (subst (λ l. AreOf (x ∷ xs) (map f l)) is are).1

module _ {P : Type 0} (f : P → PartValue) (by : ActorId) (s : Step) (r : Reply) (c : Carry) where
  -- The first component takes a step, and so do the others.
  pub both-take :
      (x : CellId) (xs : List CellId) (ps front back front' back' : List P) → ps ≡ front ++ back → length front ≡ 1 → AllTake by (x ∷ []) s r c (map f front) (map f front')
      → AllTake by xs s r c (map f back) (map f back') → AllTake by (x ∷ xs) s r c (map f ps) (map f (front' ++ back'))
  both-take x xs ps [] back front' back' is long first others = absurd (omega (arith, long))
  both-take x xs ps (p ∷ q ∷ front) back front' back' is long first others = absurd (omega (arith, long))
  both-take x xs ps (p ∷ []) back [] back' is long first others = absurd first
  both-take x xs ps (p ∷ []) back (p' ∷ q' ∷ front') back' is long first others = absurd first.1
  both-take x xs ps (p ∷ []) back (p' ∷ []) back' is long first others =
      subst (λ l. AllTake by (x ∷ xs) s r c (map f l) (f p' ∷ map f back')) (sym is) (first.0, others)

  -- One component stays as it is.
  pub one-stays : (x : CellId) (ps : List P) (a b : P) → AreOf (x ∷ []) (map f ps) → slice_index_or ps 0 a ≡ b → PartTakes by x s r c (f b) (f b) → AllTake by (x ∷ []) s r c (map f ps) (map f ps)
  one-stays x [] a b are at takes = absurd are
  one-stays x (p ∷ []) a b are at takes = (subst (λ t. PartTakes by x s r c (f t) (f t)) (sym at) takes, tt)
  one-stays x (p ∷ q ∷ ps) a b are at takes = absurd are.1

  -- Two components are read.
  pub two-read :
      (x y : CellId) (ps : List P) (a b a0 b0 : P) → AreOf (x ∷ y ∷ []) (map f ps) → a ≡ slice_index_or ps 0 a → a ≡ a0 → b ≡ slice_index_or ps 1 b → b ≡ b0
      → PartTakes by x s r c (f a0) (f a0) → PartTakes by y s r c (f b0) (f b0) → AllTake by (x ∷ y ∷ []) s r c (map f ps) (map f ps)
  two-read x y [] a b a0 b0 are at0 is0 at1 is1 first second = absurd are
  two-read x y (p ∷ []) a b a0 b0 are at0 is0 at1 is1 first second = absurd are.1
  two-read x y (p ∷ q ∷ t ∷ ps) a b a0 b0 are at0 is0 at1 is1 first second = absurd are.1.1
  two-read x y (p ∷ q ∷ []) a b a0 b0 are at0 is0 at1 is1 first second = (
    subst (λ k. PartTakes by x s r c (f k) (f k)) (sym is0 ∙ at0) first,
    (subst (λ k. PartTakes by y s r c (f k) (f k)) (sym is1 ∙ at1) second, tt),
  )

  -- Three components are read.
  pub three-read :
      (x y z : CellId) (ps : List P) (a b k a0 b0 k0 : P) → AreOf (x ∷ y ∷ z ∷ []) (map f ps) → a ≡ slice_index_or ps 0 a → a ≡ a0 → b ≡ slice_index_or ps 1 b → b ≡ b0
      → k ≡ slice_index_or ps 2 k → k ≡ k0 → PartTakes by x s r c (f a0) (f a0) → PartTakes by y s r c (f b0) (f b0) → PartTakes by z s r c (f k0) (f k0)
      → AllTake by (x ∷ y ∷ z ∷ []) s r c (map f ps) (map f ps)
  three-read x y z [] a b k a0 b0 k0 are at0 is0 at1 is1 at2 is2 first second third = absurd are
  three-read x y z (p ∷ ps) a b k a0 b0 k0 are at0 is0 at1 is1 at2 is2 first second third = (
    subst (λ l. PartTakes by x s r c (f l) (f l)) (sym is0 ∙ at0) first,
    two-read y z ps b k b0 k0 are.1 at1 is1 at2 is2 second third,
  )

-- What stands first, and what it gives.
module _ {P : Type 0} (f : P → PartValue) where
  -- One component stands first, or two, or three stand alone.
  pub one-is : (cx : CellId) (zs : List CellId) (ps : List P) (a x : P) → AreOf (cx ∷ zs) (map f ps) → slice_index_or ps 0 a ≡ x → (rest : List P) × (ps ≡ x ∷ rest)
  one-is cx zs [] a x are at0 = absurd are
  one-is cx zs (p ∷ rest) a x are at0 = (rest, ap (λ k. k ∷ rest) at0)

  pub two-is : (cx cy : CellId) (zs : List CellId) (ps : List P) (a b x y : P) → AreOf (cx ∷ cy ∷ zs) (map f ps) → slice_index_or ps 0 a ≡ x → slice_index_or ps 1 b ≡ y
      → (rest : List P) × (ps ≡ x ∷ y ∷ rest)
  two-is cx cy zs [] a b x y are at0 at1 = absurd are
  two-is cx cy zs (p ∷ []) a b x y are at0 at1 = absurd are.1
  two-is cx cy zs (p ∷ q ∷ rest) a b x y are at0 at1 = (rest, ap (λ k. k ∷ q ∷ rest) at0 ∙ ap (λ k. x ∷ k ∷ rest) at1)

  pub three-is : (cx cy cz : CellId) (ps : List P) (a b k x y z : P) → AreOf (cx ∷ cy ∷ cz ∷ []) (map f ps) → slice_index_or ps 0 a ≡ x → slice_index_or ps 1 b ≡ y
      → slice_index_or ps 2 k ≡ z → ps ≡ x ∷ y ∷ z ∷ []
  three-is cx cy cz [] a b k x y z are at0 at1 at2 = absurd are
  three-is cx cy cz (p ∷ []) a b k x y z are at0 at1 at2 = absurd are.1
  three-is cx cy cz (p ∷ q ∷ []) a b k x y z are at0 at1 at2 = absurd are.1.1
  three-is cx cy cz (p ∷ q ∷ t ∷ u ∷ rest) a b k x y z are at0 at1 at2 = absurd are.1.1.1
  three-is cx cy cz (p ∷ q ∷ t ∷ []) a b k x y z are at0 at1 at2 =
      ap (λ l. l ∷ q ∷ t ∷ []) at0 ∙ (ap (λ l. x ∷ l ∷ t ∷ []) at1 ∙ ap (λ l. x ∷ y ∷ l ∷ []) at2)

  -- Two components of these kinds stand before any others.
  pub two-first : (cx cy : CellId) (ps : List P) (a b x y : P) → StandFirst (cx ∷ cy ∷ []) (map f ps) → slice_index_or ps 0 a ≡ x → slice_index_or ps 1 b ≡ y
      → (rest : List P) × (ps ≡ x ∷ y ∷ rest)
  two-first cx cy [] a b x y are at0 at1 = absurd are
  two-first cx cy (p ∷ []) a b x y are at0 at1 = absurd are.1
  two-first cx cy (p ∷ q ∷ rest) a b x y are at0 at1 = (rest, ap (λ k. k ∷ q ∷ rest) at0 ∙ ap (λ k. x ∷ k ∷ rest) at1)

  -- Two components stand first, the first of them apart.
  pub two-are : (cx cy : CellId) (zs : List CellId) (ps front back : List P) (a b x y : P) → AreOf (cx ∷ cy ∷ zs) (map f ps) → ps ≡ front ++ back → length front ≡ 1
      → slice_index_or front 0 a ≡ x → slice_index_or back 0 b ≡ y → (rest : List P) × (ps ≡ x ∷ y ∷ rest) × (back ≡ y ∷ rest)
  two-are cx cy zs ps [] back a b x y are is long at0 at1 = absurd (omega (arith, long))
  two-are cx cy zs ps (p ∷ q ∷ front) back a b x y are is long at0 at1 = absurd (omega (arith, long))
  two-are cx cy zs ps (p ∷ []) [] a b x y are is long at0 at1 = absurd ((subst (λ l. AreOf (cx ∷ cy ∷ zs) (map f l)) is are).1)
  two-are cx cy zs ps (p ∷ []) (q ∷ rest) a b x y are is long at0 at1 =
      (rest, is ∙ (ap (λ k. k ∷ q ∷ rest) at0 ∙ ap (λ k. x ∷ k ∷ rest) at1), ap (λ k. k ∷ rest) at1)

  -- Three components stand alone, of which two are read behind the first.
  pub three-are : (cx cy cz : CellId) (ps front back : List P) (a b k x y z : P) → AreOf (cx ∷ cy ∷ cz ∷ []) (map f ps) → ps ≡ front ++ back → length front ≡ 1
      → slice_index_or front 0 a ≡ x → slice_index_or back 0 b ≡ y → slice_index_or back 1 k ≡ z → ps ≡ x ∷ y ∷ z ∷ []
  three-are cx cy cz ps [] back a b k x y z are is long at0 at1 at2 = absurd (omega (arith, long))
  three-are cx cy cz ps (p ∷ q ∷ front) back a b k x y z are is long at0 at1 at2 = absurd (omega (arith, long))
  three-are cx cy cz ps (p ∷ []) [] a b k x y z are is long at0 at1 at2 = absurd ((subst (λ l. AreOf (cx ∷ cy ∷ cz ∷ []) (map f l)) is are).1)
  three-are cx cy cz ps (p ∷ []) (q ∷ []) a b k x y z are is long at0 at1 at2 = absurd ((subst (λ l. AreOf (cx ∷ cy ∷ cz ∷ []) (map f l)) is are).1.1)
  three-are cx cy cz ps (p ∷ []) (q ∷ t ∷ u ∷ rest) a b k x y z are is long at0 at1 at2 =
      absurd ((subst (λ l. AreOf (cx ∷ cy ∷ cz ∷ []) (map f l)) is are).1.1.1)
  three-are cx cy cz ps (p ∷ []) (q ∷ t ∷ []) a b k x y z are is long at0 at1 at2 =
      is ∙ (ap (λ l. l ∷ q ∷ t ∷ []) at0 ∙ (ap (λ l. x ∷ l ∷ t ∷ []) at1 ∙ ap (λ l. x ∷ y ∷ l ∷ []) at2))

  -- The same where the third stands apart from the second.
  pub three-apart : (cx cy cz : CellId) (ps front back second third : List P) (a b k x y z : P) → AreOf (cx ∷ cy ∷ cz ∷ []) (map f ps) → ps ≡ front ++ back → length front ≡ 1
      → back ≡ second ++ third → length second ≡ 1 → slice_index_or front 0 a ≡ x → slice_index_or second 0 b ≡ y → slice_index_or third 0 k ≡ z → ps ≡ x ∷ y ∷ z ∷ []
  three-apart cx cy cz ps front back [] third a b k x y z are is long is1 long1 at0 at1 at2 = absurd (omega (arith, long1))
  three-apart cx cy cz ps front back (q ∷ t ∷ second) third a b k x y z are is long is1 long1 at0 at1 at2 = absurd (omega (arith, long1))
  three-apart cx cy cz ps front back (q ∷ []) third a b k x y z are is long is1 long1 at0 at1 at2 =
      three-are cx cy cz ps front back a b k x y z are is long at0 (ap (λ l. slice_index_or l 0 b) is1 ∙ at1) (ap (λ l. slice_index_or l 1 k) is1 ∙ at2)

  -- A list keeps what it is worth where its first component does.
  pub kept-first : (ps front back : List P) (a b a' : P) → ps ≡ front ++ back → length front ≡ 1 → slice_index_or front 0 a ≡ b → f a' ≡ f b → map f (slice_set front 0 a' ++ back) ≡ map f ps
  kept-first ps [] back a b a' is long at same = absurd (omega (arith, long))
  kept-first ps (p ∷ q ∷ front) back a b a' is long at same = absurd (omega (arith, long))
  kept-first ps (p ∷ []) back a b a' is long at same = ap (λ v. v ∷ map f back) (same ∙ ap f (sym at)) ∙ sym (ap (map f) is)

  -- And where its first two do.
  pub kept-two : (ps front back : List P) (a b a' d e d' : P) → ps ≡ front ++ back → length front ≡ 1 → slice_index_or front 0 a ≡ b → f a' ≡ f b
      → slice_index_or back 0 d ≡ e → f d' ≡ f e → map f (slice_set front 0 a' ++ slice_set back 0 d') ≡ map f ps
  kept-two ps [] back a b a' d e d' is long at same at1 same1 = absurd (omega (arith, long))
  kept-two ps (p ∷ q ∷ front) back a b a' d e d' is long at same at1 same1 = absurd (omega (arith, long))
  kept-two ps (p ∷ []) back a b a' d e d' is long at same at1 same1 =
      ap (λ v. v ∷ map f (slice_set back 0 d')) (same ∙ ap f (sym at))
      ∙ (ap (λ vs. f p ∷ vs) (kept-as f back d e d' at1 same1) ∙ sym (ap (map f) is))

-- What holds of a value where there is one follows from others that do.
pub some-four : {A : Type 0} (o : Option A) (F G H I J : A → Type 0) → IfSome o F → IfSome o G → IfSome o H → IfSome o I → ((a : A) → F a → G a → H a → I a → J a) → IfSome o J
some-four None F G H I J one two three four all = tt
some-four (Some a) F G H I J one two three four all = all a one two three four

pub ok-four : {A B : Type 0} (o : Result A B) (F G H I J : A → Type 0) → IfOk o F → IfOk o G → IfOk o H → IfOk o I → ((a : A) → F a → G a → H a → I a → J a) → IfOk o J
ok-four (Err why) F G H I J one two three four all = tt
ok-four (Ok a) F G H I J one two three four all = all a one two three four

pub ok-five : {A B : Type 0} (o : Result A B) (F G H I J K : A → Type 0) → IfOk o F → IfOk o G → IfOk o H → IfOk o I → IfOk o J → ((a : A) → F a → G a → H a → I a → J a → K a) → IfOk o K
ok-five (Err why) F G H I J K one two three four five all = tt
ok-five (Ok a) F G H I J K one two three four five all = all a one two three four five

pub ok-then : {A B : Type 0} (o : Result A B) (F G : A → Type 0) → IfOk o F → ((a : A) → F a → G a) → IfOk o G
ok-then (Err why) F G one all = tt
ok-then (Ok a) F G one all = all a one

pub ok-two : {A B : Type 0} (o : Result A B) (F G H : A → Type 0) → IfOk o F → IfOk o G → ((a : A) → F a → G a → H a) → IfOk o H
ok-two (Err why) F G H one two all = tt
ok-two (Ok a) F G H one two all = all a one two
