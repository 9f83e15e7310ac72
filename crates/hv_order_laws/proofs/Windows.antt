-- Windows of a slot, once one is put among them or those of a row are gone.
use Rattle.std.proofs.Common.{◌≡◌, ℕ, ◌==◌, eq-eqb, eqb-true, Bool, true, false, not, ◌&&◌, cond, refl, sym, ap, subst, ◌∙◌, List, [], ◌∷◌, filter, find, Option, None, Some, option_map, is_none, nat_lt}
use Rattle.std.specs.Bool.{then_some}
use Rattle.std.specs.List.{AllByRecursion, list_any}
use Rattle.std.specs.Option.{option_or}
use Rattle.std.proofs.lemmas.Option.{same_Some}
use Rattle.hv_body.specs.Windows.{meets, offset_in, put_in_order}
use Rattle.hv_refusal.specs.declared.refusal.Refusal.{Refusal}
use Rattle.hv_refusal.specs.declared.refusal.Refusal.TheVariants as refusal
use Rattle.hv_region.specs.Windows.{start_of, without_owner, without_target}
use Rattle.hv_region.specs.declared.plan.Form.{Form}
use Rattle.hv_region.specs.declared.plan.Form.TheVariants.{Alias}
use Rattle.hv_region.specs.declared.window.Window.{Window}
use Rattle.hv_rules.specs.Line.{is_alias}
use Rattle.hv_rules.specs.Space.{is_of, is_own, lacks_target, least_row, refusal_in, target_of, unless_refused}
use Rattle.hv_rules.specs.Windows.{Region, has_range, window_of}

-- lists of windows

found-step : {A : Type 0} (P : A → Type 0) (p : A → Bool) (x w : A) (rest : Option A) (b : Bool) → p x ≡ b → P x
    → (rest ≡ Some w → P w × (p w ≡ true)) → cond b (Some x) rest ≡ Some w → P w × (p w ≡ true)
found-step P p x w rest true is here later found =
    let same : x ≡ w = same_Some x w found in
    (subst P same here, subst (λ y. p y ≡ true) same is)
found-step P p x w rest false is here later found = later found

pub found-one : {A : Type 0} (P : A → Type 0) (p : A → Bool) (ws : List A) (w : A) → AllByRecursion P ws → find p ws ≡ Some w → P w × (p w ≡ true)
found-one P p [] w all found = absurd (cc found)
found-one P p (x ∷ xs) w all found = found-step P p x w (find p xs) (p x) refl all.0 (λ is. found-one P p xs w all.1 is) found

pub all-map : {A : Type 0} (P Q : A → Type 0) (ws : List A) → ((w : A) → P w → Q w) → AllByRecursion P ws → AllByRecursion Q ws
all-map P Q [] f all = tt
all-map P Q (w ∷ ws) f all = (f w all.0, all-map P Q ws f all.1)

pub all-both : {A : Type 0} (P Q R : A → Type 0) (ws : List A) → ((w : A) → P w → Q w → R w) → AllByRecursion P ws → AllByRecursion Q ws → AllByRecursion R ws
all-both P Q R [] f one two = tt
all-both P Q R (w ∷ ws) f one two = (f w one.0 two.0, all-both P Q R ws f one.1 two.1)

pub none-left : {A : Type 0} (P : A → Type 0) (ws : List A) → ((w : A) → P w → ⊥) → AllByRecursion P ws → ws ≡ []
none-left P [] never all = refl
none-left P (w ∷ ws) never all = absurd (never w all.0)

none-step : (p : Window → Bool) (x : Window) (rest : Option Window) (b : Bool) → p x ≡ b → cond b (Some x) rest ≡ None → (p x ≡ false) × (rest ≡ None)
none-step p x rest true is none = absurd (cc none)
none-step p x rest false is none = (is, none)

pub none-found : (p : Window → Bool) (ws : List Window) → find p ws ≡ None → AllByRecursion (λ w. p w ≡ false) ws
none-found p [] none = tt
none-found p (x ∷ xs) none = let both = none-step p x (find p xs) (p x) refl none in (both.0, none-found p xs both.1)

filter-step : (P Q : Window → Type 0) (p : Window → Bool) (w : Window) (rest : List Window) (b : Bool) → p w ≡ b → P w → ((x : Window) → P x → p x ≡ true → Q x)
    → AllByRecursion Q rest → AllByRecursion Q (cond b (w ∷ rest) rest)
filter-step P Q p w rest true is here f later = (f w here is, later)
filter-step P Q p w rest false is here f later = later

pub all-filter : (P Q : Window → Type 0) (p : Window → Bool) (ws : List Window) → ((x : Window) → P x → p x ≡ true → Q x) → AllByRecursion P ws → AllByRecursion Q (filter p ws)
all-filter P Q p [] f all = tt
all-filter P Q p (w ∷ ws) f all = filter-step P Q p w (filter p ws) (p w) refl all.0 f (all-filter P Q p ws f all.1)

put-step : (P : Window → Type 0) (w x : Window) (xs rest : List Window) (b : Bool) → P w → P x → AllByRecursion P xs → AllByRecursion P rest
    → AllByRecursion P (cond b (x ∷ rest) (w ∷ x ∷ xs))
put-step P w x xs rest true new here all put = (here, put)
put-step P w x xs rest false new here all put = (new, (here, all))

pub all-put : (P : Window → Type 0) (w : Window) (xs : List Window) → P w → AllByRecursion P xs → AllByRecursion P (put_in_order w xs)
all-put P w [] new all = (new, tt)
all-put P w (x ∷ xs) new all = put-step P w x xs (put_in_order w xs) (nat_lt (start_of x) (start_of w)) new all.0 all.1 (all-put P w xs new all.1)

-- the windows of a row are gone

other-number : (a b : ℕ) → not (a == b) ≡ true → a ≡ b → ⊥
other-number a b is same = no (sym is ∙ ap not (eq-eqb a b same))
  where
    no : true ≡ false → ⊥
    no e = cc

-- a window is neither of a row nor leads there
pub record IsElse (row : ℕ) (w : Window) : Type 0 where
  pub owner : w.owner ≡ row → ⊥
  pub target : w.target ≡ row → ⊥

pub dropped-all : (P : Window → Type 0) (row : ℕ) (ws : List Window) → AllByRecursion P ws
    → AllByRecursion (λ w. P w × IsElse row w) (without_target row (without_owner row ws))
dropped-all P row ws all =
    let Owned : Window → Type 0 = λ w. P w × (w.owner ≡ row → ⊥) in
    all-filter Owned (λ w. P w × IsElse row w) (λ w. not (w.target == row)) (without_owner row ws)
    (λ w was is. (was.0, record { owner = was.1; target = other-number w.target row is }))
    (all-filter P Owned (λ w. not (w.owner == row)) ws (λ w was is. (was, other-number w.owner row is)) all)

-- a window that is put leads to its own row, or to one to which a window leads that is there

or-none : {A : Type 0} (a b : Option A) → option_or a b ≡ None → b ≡ None
or-none None b is = is
or-none (Some x) b is = absurd (cc is)

then-none : {A : Type 0} (b : Bool) (x : A) → then_some b x ≡ None → b ≡ false
then-none true x is = absurd (cc is)
then-none false x is = refl

pub has-target : (ws : List Window) (region : Region) → refusal_in ws region ≡ None → lacks_target ws region.plan region.plan.form ≡ false
has-target ws region none =
    then-none (lacks_target ws region.plan region.plan.form) refusal.AliasTarget
    (or-none (option_map refusal.Overlap (least_row (filter (meets (window_of region None)) ws))) _
    (or-none (then_some (list_any (is_of region.row) ws) refusal.Live) _ none))

and-first : (a b : Bool) → (a && b) ≡ true → a ≡ true
and-first true b is = refl
and-first false b is = absurd (cc is)

module _ (P : ℕ → Type 0) (ws : List Window) (all : AllByRecursion (λ w. P w.target) ws) (region : Region) where
  abbrev leads : (address : ℕ) → Window → ℕ × ℕ
  leads address window = (window.owner, offset_in window address)

  abbrev may_lead : (address : ℕ) → Window → Bool
  may_lead address window = is_own window && has_range region.plan.kind address region.plan.size window

  at-target : (address : ℕ) (found : Option Window) → find (may_lead address) ws ≡ found → is_none (option_map (leads address) found) ≡ false
      → P (window_of region (option_map (leads address) found)).target
  at-target address None is some = absurd (cc some)
  at-target address (Some w) is some =
      let own = found-one (λ w. P w.target) (may_lead address) ws w all is in
      let same : w.owner ≡ w.target = eqb-true w.owner w.target (and-first (is_own w) (has_range region.plan.kind address region.plan.size w) own.1) in
      subst P (sym same) own.0

  by-form : (form : Form) → lacks_target ws region.plan form ≡ false → (is_alias form ≡ false → P region.row) → P (window_of region (target_of ws region.plan form)).target
  by-form (Alias address) has own = at-target address (find (may_lead address) ws) refl has
  by-form _ has own = own refl

  pub target-put : (target : Option (ℕ × ℕ)) → refusal_in ws region ≡ None → target ≡ unless_refused (refusal_in ws region) (target_of ws region.plan region.plan.form)
      → (is_alias region.plan.form ≡ false → P region.row) → P (window_of region target).target
  target-put target none is own =
      let given : target ≡ target_of ws region.plan region.plan.form =
      is ∙ ap (λ (o : Option Refusal). unless_refused o (target_of ws region.plan region.plan.form)) none in
      subst (λ (t : Option (ℕ × ℕ)). P (window_of region t).target) (sym given) (by-form region.plan.form (has-target ws region none) own)

owner-of : (region : Region) (target : Option (ℕ × ℕ)) → (window_of region target).owner ≡ region.row
owner-of region None = refl
owner-of region (Some target) = refl

-- windows after an addition, by what is known of targets and of owners
pub targets-added : (P : ℕ → Type 0) (ws : List Window) (region : Region) (target : Option (ℕ × ℕ)) → AllByRecursion (λ w. P w.target) ws → refusal_in ws region ≡ None
    → target ≡ unless_refused (refusal_in ws region) (target_of ws region.plan region.plan.form) → (is_alias region.plan.form ≡ false → P region.row)
    → AllByRecursion (λ w. P w.target) (put_in_order (window_of region target) ws)
targets-added P ws region target all none is own = all-put (λ w. P w.target) (window_of region target) ws (target-put P ws all region target none is own) all

pub owners-added : (P : ℕ → Type 0) (ws : List Window) (region : Region) (target : Option (ℕ × ℕ)) → AllByRecursion (λ w. P w.owner) ws → P region.row
    → AllByRecursion (λ w. P w.owner) (put_in_order (window_of region target) ws)
owners-added P ws region target all new = all-put (λ w. P w.owner) (window_of region target) ws (subst P (sym (owner-of region target)) new) all
