-- What is known of a scene and of the lines of all terminals, and that each step keeps it.
use Rattle.std.proofs.Common.{◌≡◌, ℕ, inl, inr, true, false, refl, sym, ap, subst, ◌∙◌, List, Option, None, Some}
use Rattle.std.specs.List.{AllByRecursion}
use Rattle.std.proofs.lemmas.Option.{same_Some}
use Rattle.hv_answer.specs.declared.reply.Reply.{Reply}
use Rattle.hv_dir.specs.Directory.{entry_at}
use Rattle.hv_dir.specs.declared.entry.Entry.{Entry}
use Rattle.hv_kinds.specs.declared.stage.Stage.{Stage}
use Rattle.hv_kinds.specs.declared.stage.Stage.TheVariants.{Making, Made, Ending}
use Rattle.hv_model.specs.Plans.{Planned}
use Rattle.hv_region.specs.declared.plan.RegionPlan.{RegionPlan}
use Rattle.hv_region.specs.declared.window.Window.{Window}
use Rattle.hv_rules.specs.Carry.{Carry}
use Rattle.hv_rules.specs.Line.{Ask, Asked, LineState, Place, back, create, destroy, each_vcpu, looks, on, over, rests}
use Rattle.hv_step.specs.declared.step.Step.{Step}
use Rattle.hv_order_laws.specs.Lines.{IsAdded, IsToDrop}
use Rattle.hv_order_laws.specs.Owners.{CanTurnBack, EndsAt, FitsAs, HasOwners, IsGuest, LineFits, MakesAt, Scene, SlotFits, owned_by, owned_name, rows_of}
use Rattle.hv_order_laws.proofs.Directory.{equal-or}
use Rattle.hv_order_laws.proofs.Lines.{IsFree, LineStep}
use Rattle.hv_order_laws.proofs.Steps.{IsProper, SceneStep, Spares, StaysAt, directory-kept, none-true, slot-kept, spared}

making-made : Making ≡ Made → ⊥
making-made is = cc

ending-made : Ending ≡ Made → ⊥
ending-made is = cc

-- a line fits on where its slot stays as it was

module _ (before after : Scene) (slot : ℕ) (stays : StaysAt before after slot) where
  guest-stays : (name : List ℕ) (birth : ℕ) (stage : Stage) → IsGuest before.dir name slot birth stage → IsGuest after.dir name slot birth stage
  guest-stays name birth stage is = record {
    entry = is.entry;
    at = stays.entry ∙ is.at;
    called = is.called;
    born = is.born;
    at_stage = is.at_stage;
  }

  can-stays : (rows : ℕ → Option ℕ) (made : List Ask) → CanTurnBack before rows slot made → CanTurnBack after rows slot made
  can-stays rows made can = record {
    asks = can.asks;
    windows = subst (AllByRecursion (λ (w : Window). IsAdded rows made w.owner)) (sym stays.windows) can.windows;
    vcpus = λ v here. none-true (after.is_there v) (λ is. let never : true ≡ false = sym (stays.vcpus v here is) ∙ can.vcpus v here in cc);
  }

  makes-stays : (rows : ℕ → Option ℕ) (place : Place) → MakesAt before rows slot place → MakesAt after rows slot place
  makes-stays rows (on made todo) (inl both) = inl (can-stays rows made both.0, both.1)
  makes-stays rows (on made todo) (inr both) = inr both
  makes-stays rows (back why made) can = can-stays rows made can
  makes-stays rows (over why) at = at

  ends-stays : (rows : ℕ → Option ℕ) (place : Place) → EndsAt before rows slot place → EndsAt after rows slot place
  ends-stays rows (on made todo) at = (
    at.0,
    record {
      asks = at.1.asks;
      windows = subst (AllByRecursion (λ (w : Window). IsToDrop rows todo w.target)) (sym stays.windows) at.1.windows;
      vcpus = λ v here there. at.1.vcpus v here (stays.vcpus v here there);
    },
  )
  ends-stays rows (back why made) at = at
  ends-stays rows (over why) at = at

-- a slot is left as it was whose guest is being made or ended, and has one of these names
abbrev Leaves : (before after : Scene) → (owned : Option (List ℕ)) → Type 0
Leaves before after owned = (slot : ℕ) (e : Entry) → entry_at before.dir slot ≡ Some e → (e.stage ≡ Made → ⊥) → owned ≡ Some e.name → StaysAt before after slot

module _ (plans : List Planned) (before after : Scene) where
  stays-of : (owned : Option (List ℕ)) (name : List ℕ) (slot birth : ℕ) (stage : Stage) → owned ≡ Some name → (stage ≡ Made → ⊥) → IsGuest before.dir name slot birth stage
      → Leaves before after owned → StaysAt before after slot
  stays-of owned name slot birth stage owns unmade is leaves =
      leaves slot is.entry is.at (λ made. unmade (sym is.at_stage ∙ made)) (owns ∙ sym (ap (λ (n : List ℕ). Some n) is.called))

  frame : (asked : Asked) (regions : List RegionPlan) (guest : Option (ℕ × ℕ)) (place : Place) → Leaves before after (owned_name asked) → FitsAs before plans asked regions guest place
      → FitsAs after plans asked regions guest place
  frame (create name) regions guest place leaves owns =
      let stays = stays-of (Some name) name owns.slot owns.birth Making refl making-made owns.is leaves in
      record {
        slot = owns.slot;
        birth = owns.birth;
        learnt = owns.learnt;
        is = guest-stays before after owns.slot stays name owns.birth Making owns.is;
        at = makes-stays before after owns.slot stays (rows_of plans name regions) place owns.at;
      }
  frame (destroy name) regions guest place leaves owns =
      let stays = stays-of (Some name) name owns.slot owns.birth Ending refl ending-made owns.is leaves in
      record {
        slot = owns.slot;
        birth = owns.birth;
        learnt = owns.learnt;
        is = guest-stays before after owns.slot stays name owns.birth Ending owns.is;
        at = ends-stays before after owns.slot stays (rows_of plans name regions) place owns.at;
      }
  frame (rests count) regions guest place leaves at = at
  frame looks regions guest place leaves at = at
  frame (each_vcpu change name) regions guest place leaves at = at

  line-frame : (line : Option LineState) → Leaves before after (owned_by line) → LineFits before plans line → LineFits after plans line
  line-frame None leaves fits = tt
  line-frame (Some line) leaves fits = frame line.asked line.regions line.guest line.place leaves fits

-- what a line owns is being made or ended

free-of : (scene : Scene) (plans : List Planned) (asked : Asked) (regions : List RegionPlan) (guest : Option (ℕ × ℕ)) (place : Place) (name : List ℕ) → FitsAs scene plans asked regions guest place
    → owned_name asked ≡ Some name → IsFree scene.dir name → ⊥
free-of scene plans (create own) regions guest place name owns is free =
    let same : own ≡ name = same_Some own name is in
    free owns.slot owns.birth Making making-made (subst (λ (n : List ℕ). IsGuest scene.dir n owns.slot owns.birth Making) same owns.is)
free-of scene plans (destroy own) regions guest place name owns is free =
    let same : own ≡ name = same_Some own name is in
    free owns.slot owns.birth Ending ending-made (subst (λ (n : List ℕ). IsGuest scene.dir n owns.slot owns.birth Ending) same owns.is)
free-of scene plans _ regions guest place name owns is free = absurd (let never : None ≡ Some name = is in cc)

not-free : (scene : Scene) (plans : List Planned) (line : Option LineState) (name : List ℕ) → LineFits scene plans line → owned_by line ≡ Some name → IsFree scene.dir name → ⊥
not-free scene plans None name fits is free = absurd (let never : None ≡ Some name = is in cc)
not-free scene plans (Some line) name fits is free = free-of scene plans line.asked line.regions line.guest line.place name fits is free

module _ (plans : List Planned) (before after : Scene) (s : Step) (r : Reply) (c : Carry) (happened : SceneStep before after s r c) (lines next : ℕ → Option LineState) (J : HasOwners plans before lines) where
  slots-kept : IsProper plans before s c → (slot : ℕ) → SlotFits plans after slot
  slots-kept proper slot = slot-kept plans before after s r c J.directory slot (J.slots slot) happened proper

  -- a step that spares each guest, and moves no line on
  pub quiet-ordered : IsProper plans before s c → ((slot : ℕ) (e : Entry) → entry_at before.dir slot ≡ Some e → Spares e.name slot s) → ((t : ℕ) → next t ≡ lines t) → HasOwners plans after next
  quiet-ordered proper spares same = record {
    directory = directory-kept before.dir after.dir s r c happened.dir J.directory;
    slots = slots-kept proper;
    fits = λ t.
        subst (LineFits after plans) (sym (same t))
        (line-frame plans before after (lines t) (λ slot e at unmade owned. spared before after s r c slot e J.directory happened at unmade (spares slot e at)) (J.fits t));
    apart = λ t u name other one two. J.apart t u name other (sym (ap owned_by (same t)) ∙ one) (sym (ap owned_by (same u)) ∙ two);
  }

  -- a step that moves one terminal's line on
  module _ (t : ℕ) (made : LineStep plans before after (owned_by (lines t)) (next t) s c) (same : (u : ℕ) → (t ≡ u → ⊥) → next u ≡ lines u) where
    others-fit : (u : ℕ) → (t ≡ u → ⊥) → LineFits after plans (next u)
    others-fit u other =
        subst (LineFits after plans) (sym (same u other))
        (line-frame plans before after (lines u)
        (λ slot e at unmade owned. spared before after s r c slot e J.directory happened at unmade (made.spares slot e at (λ own. J.apart t u e.name other own owned))) (J.fits u))

    -- what this line owns now no other owns
    own-apart : (u : ℕ) (name : List ℕ) → (t ≡ u → ⊥) → owned_by (next t) ≡ Some name → owned_by (next u) ≡ Some name → ⊥
    own-apart u name other one two =
        let was : owned_by (lines u) ≡ Some name = sym (ap owned_by (same u other)) ∙ two in
        elim (made.own name one) [
          | inl owned ↦ J.apart t u name other owned was
          | inr free ↦ not-free before plans (lines u) name (J.fits u) was free
        ]

    still-apart : (a b : ℕ) (name : List ℕ) → (a ≡ b → ⊥) → owned_by (next a) ≡ Some name → owned_by (next b) ≡ Some name → ⊥
    still-apart a b name other one two = elim (equal-or t a) [
      | inl is-a ↦ own-apart b name (λ is-b. other (sym is-a ∙ is-b)) (ap (λ (n : ℕ). owned_by (next n)) is-a ∙ one) two
      | inr not-a ↦ elim (equal-or t b) [
        | inl is-b ↦ own-apart a name not-a (ap (λ (n : ℕ). owned_by (next n)) is-b ∙ two) one
        | inr not-b ↦ J.apart a b name other (sym (ap owned_by (same a not-a)) ∙ one) (sym (ap owned_by (same b not-b)) ∙ two)
      ]
    ]

    pub line-ordered : HasOwners plans after next
    line-ordered = record {
      directory = directory-kept before.dir after.dir s r c happened.dir J.directory;
      slots = slots-kept made.proper;
      fits = λ u. elim (equal-or t u) [
        | inl is ↦ subst (λ (n : ℕ). LineFits after plans (next n)) is made.fits
        | inr other ↦ others-fit u other
      ];
      apart = still-apart;
    }
