-- The directory, which stands first where a step is by guest.
use Rattle.std.proofs.Common.{◌≡◌, ℕ, ◌≤◌, List, [], ◌∷◌, ◌++◌, map, length, slice_index_or, slice_set, Option, None, Some, refl, sym, subst, arith}
use Rattle.std.specs.Prelude.{IsSome, Result, Ok, Err}
use Rattle.std.specs.Result.{result_ok}
use Rattle.hv_answer.specs.declared.reply.Reply.{Reply}
use Rattle.hv_dir.specs.Directory.{DirState}
use Rattle.hv_event.specs.declared.event.ActorId.{ActorId}
use Rattle.hv_event.specs.declared.event.CellId.{CellId}
use Rattle.hv_event.specs.declared.event.CellId.TheVariants as component
use Rattle.hv_handed.specs.Takes.{DirTakes}
use Rattle.hv_kinds.specs.declared.generation.Generation.{Generation}
use Rattle.hv_parts.specs.Kinds.{IsPartOf, AreOf}
use Rattle.hv_parts.specs.Takes.{PartTakes, AllTake}
use Rattle.hv_parts.specs.Value as value
use Rattle.hv_parts.specs.Value.{PartValue}
use Rattle.hv_refusal.specs.declared.refusal.Refusal.{Refusal}
use Rattle.hv_rules.specs.Carry.{Carry}
use Rattle.hv_kinds.specs.declared.stage.Stage.{Stage}
use Rattle.hv_kinds.specs.declared.stage.Stage.TheVariants.{Made}
use Rattle.hv_rules.specs.Dir.{Admits, AdmitsBy, guest_in}
use Rattle.hv_rules.specs.Footprint.{past_dir, past_dir_if}
use Rattle.hv_step.specs.declared.step.ByGuest.{ByGuest}
use Rattle.hv_step.specs.declared.step.Step.{Step}
use Rattle.hv_parts.specs.Admission.{IsAdmitted, IsAdmittedBy, directories}
use Rattle.hv_parts.proofs.Lists.{one-takes, one-reads}

-- A guest whose generation is shown is admitted.
pub admits :
    (guest : Result Generation Refusal) (shown : Option Generation) (refused : Refusal → Reply) (r : Reply) (c : Carry) → IsSome shown → shown ≡ result_ok guest
    → Admits guest shown refused r c
admits (Ok guest) shown refused r c there is = is
admits (Err why) None refused r c there is = absurd (cc)
admits (Err why) (Some g) refused r c there is = absurd (cc)

-- No list without a directory is that of a step on a guest.
none-are : (shown : Option Generation) (xs : Generation → List CellId) → AreOf (past_dir shown xs) [] → ⊥
none-are None xs are = are
none-are (Some g) xs are = are

-- The directory stands first.
first-is : (shown : Option Generation) (xs : Generation → List CellId) (v : PartValue) (vs : List PartValue) → AreOf (past_dir shown xs) (v ∷ vs) → IsPartOf component.Dir v
first-is None xs v vs are = are.0
first-is (Some g) xs v vs are = are.0

-- What stands behind the directory that shows a generation.
others-are :
    (shown : Option Generation) (xs : Generation → List CellId) (v : PartValue) (vs : List PartValue) → IsSome shown → AreOf (past_dir shown xs) (v ∷ vs)
    → (g : Generation) × (shown ≡ Some g) × AreOf (xs g) vs
others-are None xs v vs there are = absurd (cc)
others-are (Some g) xs v vs there are = (g, refl, are.1)

-- A directory that admits a step takes it as it is.
dir-takes :
    (by : ActorId) (s : Step) (r : Reply) (c : Carry) (name : List ℕ) (stage : Stage) (shown : Option Generation) (v : PartValue) (vs : List PartValue)
    → ((d : DirState) → IsSome shown → shown ≡ result_ok (guest_in d name stage) → DirTakes s r c d d) → IsPartOf component.Dir v → IsAdmitted (v ∷ vs) name stage shown
    → PartTakes by component.Dir s r c v v
dir-takes by s r c name stage shown (value.Dir d) vs takes is admitted = takes d admitted.there admitted.granted
dir-takes by s r c name stage shown (value.Shelf x) vs takes is admitted = absurd is
dir-takes by s r c name stage shown (value.Files x) vs takes is admitted = absurd is
dir-takes by s r c name stage shown (value.Space x) vs takes is admitted = absurd is
dir-takes by s r c name stage shown (value.Queue x) vs takes is admitted = absurd is
dir-takes by s r c name stage shown (value.Vcpu x) vs takes is admitted = absurd is
dir-takes by s r c name stage shown (value.Body x) vs takes is admitted = absurd is
dir-takes by s r c name stage shown (value.Area x) vs takes is admitted = absurd is

-- The directory takes a step, and so do the components behind it.
both-take :
    (by : ActorId) (s : Step) (r : Reply) (c : Carry) (shown : Option Generation) (xs : Generation → List CellId) (v : PartValue) (vs vs' : List PartValue)
    → IsSome shown → PartTakes by component.Dir s r c v v → ((g : Generation) → shown ≡ Some g → AllTake by (xs g) s r c vs vs')
    → AllTake by (past_dir shown xs) s r c (v ∷ vs) (v ∷ vs')
both-take by s r c None xs v vs vs' there first others = absurd (cc)
both-take by s r c (Some g) xs v vs vs' there first others = (first, others g refl)

-- A step that is admitted is taken by all components that it touches, where those behind the directory take it.
pub past-take :
    (by : ActorId) (s : Step) (r : Reply) (c : Carry) (name : List ℕ) (stage : Stage) (shown : Option Generation) (xs : Generation → List CellId) (v : PartValue)
    (vs vs' : List PartValue) → ((d : DirState) → IsSome shown → shown ≡ result_ok (guest_in d name stage) → DirTakes s r c d d) → IsAdmitted (v ∷ vs) name stage shown
    → AreOf (past_dir shown xs) (v ∷ vs) → ((g : Generation) → AreOf (xs g) vs → AllTake by (xs g) s r c vs vs')
    → AllTake by (past_dir shown xs) s r c (v ∷ vs) (v ∷ vs')
past-take by s r c name stage shown xs v vs vs' takes admitted are others =
    both-take by s r c shown xs v vs vs' admitted.there (dir-takes by s r c name stage shown v vs takes (first-is shown xs v vs are) admitted) (
    λ g is.
    others g (subst (λ (k : Option Generation). AreOf (past_dir k xs) (v ∷ vs)) is are).1
    )

-- What stands behind the directory where a VCPU's step is by guest.
pub are-behind :
    {P : Type 0} (f : P → PartValue) (guest : Option ByGuest) (xs : List CellId) (ps front back : List P) → IsAdmittedBy (map f ps) guest
    → AreOf (past_dir_if guest xs) (map f ps) → ps ≡ front ++ back → length front ≡ directories guest → AreOf xs (map f back)
are-behind f None xs ps [] back admitted are is long = subst (λ l. AreOf xs (map f l)) is are
are-behind f None xs ps (p ∷ front) back admitted are is long = absurd (omega (arith, long))
are-behind f (Some guest) xs ps [] back admitted are is long = absurd (omega (arith, long))
are-behind f (Some guest) xs ps (p ∷ []) back admitted are is long =
    (others-are guest.generation (λ g. xs) (f p) (map f back) admitted.there
    (subst (λ l. AreOf (past_dir guest.generation (λ g. xs)) (map f l)) is are)).2
are-behind f (Some guest) xs ps (p ∷ q ∷ front) back admitted are is long = absurd (omega (arith, long))

-- The directories that stand first are there.
pub behind-long :
    {P : Type 0} (f : P → PartValue) (guest : Option ByGuest) (xs : List CellId) (ps : List P) (n : ℕ) → n ≡ directories guest → IsAdmittedBy (map f ps) guest
    → AreOf (past_dir_if guest xs) (map f ps) → n ≤ length ps
behind-long f None xs ps n is admitted are = omega (arith, is)
behind-long f (Some guest) xs [] n is admitted are = absurd (none-are guest.generation (λ g. xs) are)
behind-long f (Some guest) xs (p ∷ ps) n is admitted are = omega (arith, is)

-- A VCPU's step is taken by all components that it touches, where those behind the directory take it.
pub behind-take :
    {P : Type 0} (f : P → PartValue) (by : ActorId) (s : Step) (r : Reply) (c : Carry) (refused : Refusal → Reply) (guest : Option ByGuest) (xs : List CellId)
    (ps front back back' : List P) → ((d : DirState) → AdmitsBy d guest refused r c → DirTakes s r c d d) → IsAdmittedBy (map f ps) guest
    → AreOf (past_dir_if guest xs) (map f ps) → ps ≡ front ++ back → length front ≡ directories guest → AllTake by xs s r c (map f back) (map f back')
    → AllTake by (past_dir_if guest xs) s r c (map f ps) (map f (front ++ back'))
behind-take f by s r c refused None xs ps [] back back' takes admitted are is long others =
    subst (λ l. AllTake by xs s r c (map f l) (map f back')) (sym is) others
behind-take f by s r c refused None xs ps (p ∷ front) back back' takes admitted are is long others = absurd (omega (arith, long))
behind-take f by s r c refused (Some guest) xs ps [] back back' takes admitted are is long others = absurd (omega (arith, long))
behind-take f by s r c refused (Some guest) xs ps (p ∷ []) back back' takes admitted are is long others =
    subst (λ l. AllTake by (past_dir guest.generation (λ g. xs)) s r c (map f l) (f p ∷ map f back')) (sym is)
    (past-take by s r c guest.name Made guest.generation (λ g. xs) (f p) (map f back) (map f back')
    (λ d there shown. takes d (admits (guest_in d guest.name Made) guest.generation refused r c there shown))
    (subst (λ l. IsAdmitted (map f l) guest.name Made guest.generation) is admitted)
    (subst (λ l. AreOf (past_dir guest.generation (λ g. xs)) (map f l)) is are) (λ g here. others))
behind-take f by s r c refused (Some guest) xs ps (p ∷ q ∷ front) back back' takes admitted are is long others = absurd (omega (arith, long))

-- A step that is admitted changes the one component behind the directory.
pub second-takes :
    {P : Type 0} (f : P → PartValue) (by : ActorId) (s : Step) (r : Reply) (c : Carry) (name : List ℕ) (stage : Stage) (shown : Option Generation)
    (x : Generation → CellId) (ps : List P) (a b a' : P) → ((d : DirState) → IsSome shown → shown ≡ result_ok (guest_in d name stage) → DirTakes s r c d d)
    → IsAdmitted (map f ps) name stage shown → AreOf (past_dir shown (λ g. x g ∷ [])) (map f ps) → slice_index_or ps 1 a ≡ b
    → ((g : Generation) → PartTakes by (x g) s r c (f b) (f a')) → AllTake by (past_dir shown (λ g. x g ∷ [])) s r c (map f ps) (map f (slice_set ps 1 a'))
second-takes f by s r c name stage shown x [] a b a' takes admitted are is others = absurd (none-are shown (λ g. x g ∷ []) are)
second-takes f by s r c name stage shown x (p ∷ []) a b a' takes admitted are is others =
    absurd ((others-are shown (λ g. x g ∷ []) (f p) [] admitted.there are).2)
second-takes f by s r c name stage shown x (p ∷ q ∷ ps) a b a' takes admitted are is others =
    past-take by s r c name stage shown (λ g. x g ∷ []) (f p) (f q ∷ map f ps) (f a' ∷ map f ps) takes admitted are
    (λ g those. one-takes f by s r c (x g) (q ∷ ps) a b a' those is (others g))

-- A step that is admitted reads the one component behind the directory.
pub second-reads :
    {P : Type 0} (f : P → PartValue) (by : ActorId) (s : Step) (r : Reply) (c : Carry) (name : List ℕ) (stage : Stage) (shown : Option Generation)
    (x : Generation → CellId) (ps : List P) (a b : P) → ((d : DirState) → IsSome shown → shown ≡ result_ok (guest_in d name stage) → DirTakes s r c d d)
    → IsAdmitted (map f ps) name stage shown → AreOf (past_dir shown (λ g. x g ∷ [])) (map f ps) → a ≡ slice_index_or ps 1 a → a ≡ b
    → ((g : Generation) → PartTakes by (x g) s r c (f b) (f b)) → AllTake by (past_dir shown (λ g. x g ∷ [])) s r c (map f ps) (map f ps)
second-reads f by s r c name stage shown x [] a b takes admitted are at is others = absurd (none-are shown (λ g. x g ∷ []) are)
second-reads f by s r c name stage shown x (p ∷ []) a b takes admitted are at is others =
    absurd ((others-are shown (λ g. x g ∷ []) (f p) [] admitted.there are).2)
second-reads f by s r c name stage shown x (p ∷ q ∷ ps) a b takes admitted are at is others =
    past-take by s r c name stage shown (λ g. x g ∷ []) (f p) (f q ∷ map f ps) (f q ∷ map f ps) takes admitted are
    (λ g those. one-reads f by s r c (x g) (q ∷ ps) a b those at is (others g))

-- The component behind the directory is of its kind.
pub second-is :
    {P : Type 0} (f : P → PartValue) (x : Generation → CellId) (kind : CellId) (shown : Option Generation) (ps : List P) (d : P)
    → ((g : Generation) (v : PartValue) → IsPartOf (x g) v → IsPartOf kind v) → IsSome shown → AreOf (past_dir shown (λ g. x g ∷ [])) (map f ps)
    → IsPartOf kind (f (slice_index_or ps 1 d))
second-is f x kind shown [] d same there are = absurd (none-are shown (λ g. x g ∷ []) are)
second-is f x kind shown (p ∷ []) d same there are = absurd ((others-are shown (λ g. x g ∷ []) (f p) [] there are).2)
second-is f x kind shown (p ∷ q ∷ ps) d same there are =
    let those = others-are shown (λ g. x g ∷ []) (f p) (f q ∷ map f ps) there are in
    same those.0 (f q) those.2.0

-- There are two components.
pub two-long :
    {P : Type 0} (f : P → PartValue) (x : Generation → CellId) (shown : Option Generation) (ps : List P) → IsSome shown
    → AreOf (past_dir shown (λ g. x g ∷ [])) (map f ps) → length ps ≡ 2
two-long f x shown [] there are = absurd (none-are shown (λ g. x g ∷ []) are)
two-long f x shown (p ∷ []) there are = absurd ((others-are shown (λ g. x g ∷ []) (f p) [] there are).2)
two-long f x shown (p ∷ q ∷ []) there are = refl
two-long f x shown (p ∷ q ∷ t ∷ ps) there are =
    absurd ((others-are shown (λ g. x g ∷ []) (f p) (f q ∷ f t ∷ map f ps) there are).2.1)
