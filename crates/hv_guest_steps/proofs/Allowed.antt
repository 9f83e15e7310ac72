-- What the rules say of an addition, from its parts.
use Rattle.std.proofs.Common.{◌≡◌, ℕ, List, [], ◌∷◌, get_or, Bool, true, false, cond, refl, sym, subst, Option, Some, None}
use Rattle.std.specs.Prelude.{◌||◌, filter, find, is_some, is_none, option_map, ok_or, MatchResult, Result, Ok, Err}
use Rattle.std.specs.Bool.{then_some}
use Rattle.std.specs.List.{list_any}
use Rattle.std.specs.Option.{option_or}
use Rattle.std.specs.Result.{is_ok}
use Rattle.std.proofs.lemmas.Bool.{true≢false}
use Rattle.std.proofs.lemmas.List.Folds.{list_any_at}
use Rattle.hv_body.specs.Windows.{meets}
use Rattle.hv_body.proofs.WindowLemmas.{eqb_true}
use Rattle.hv_dir.specs.Pool.{taken}
use Rattle.hv_emu.specs.Device.{DevState}
use Rattle.hv_refusal.specs.declared.refusal.Refusal.{Refusal}
use Rattle.hv_refusal.specs.declared.refusal.Refusal.TheVariants as refusal
use Rattle.hv_region.specs.Windows.{HasNone}
use Rattle.hv_region.specs.declared.plan.Form.{Form}
use Rattle.hv_region.specs.declared.plan.Form.TheVariants.{Ram, Rom, Device, Real, Alias}
use Rattle.hv_region.specs.declared.plan.RegionPlan.{RegionPlan}
use Rattle.hv_region.specs.declared.window.Window.{Window}
use Rattle.hv_rules.specs.Shelf.{device_for}
use Rattle.hv_rules.specs.Space.{is_of, lacks_target, least_row, refusal_in, target_of}
use Rattle.hv_rules.specs.Windows.{Region, window_of}
use Rattle.hv_guest_steps.specs.Additions.{LeadsTo, MayAdd, MayNotAdd}
use Rattle.hv_guest_steps.specs.declared.row.NotAdded.{NotAdded}
use Rattle.hv_guest_steps.specs.declared.row.NotAdded.TheVariants.{Live, Overlap, AliasTarget, NoEmulator}

-- a row has a window where one is found

any_either : (b : Bool) (w : Window) (found : Option Window) (others : Bool) → others ≡ is_some found → (b || others) ≡ is_some (cond b (Some w) found)
any_either true w found others e = refl
any_either false w found others e = e

pub any_found : (p : Window → Bool) (ws : List Window) → list_any p ws ≡ is_some (find p ws)
any_found p [] = refl
any_found p (w ∷ ws) = any_either (p w) w (find p ws) (list_any p ws) (any_found p ws)

-- the refusal of a space, from what it looks at

abbrev pub stop : (live : Bool) → (met : Option ℕ) → (lacks : Bool) → Option Refusal
stop live met lacks =
    option_or (then_some live refusal.Live) (option_or (option_map refusal.Overlap met) (then_some lacks refusal.AliasTarget))

pub refusal_is : (windows : List Window) (region : Region) (live : Bool) (met : Option ℕ) (lacks : Bool)
    → list_any (is_of region.row) windows ≡ live → least_row (filter (meets (window_of region None)) windows) ≡ met
    → lacks_target windows region.plan region.plan.form ≡ lacks → refusal_in windows region ≡ stop live met lacks
refusal_is windows region live met lacks is_live is_met does_lack = λ i. stop (is_live i) (is_met i) (does_lack i)

pub is_live : (windows : List Window) (region : Region) (devices : List DevState) → list_any (is_of region.row) windows ≡ true
    → MayNotAdd windows devices region Live
is_live windows region devices live = record { stopped = refusal_is windows region true _ _ live refl refl; refused = refl }

pub is_overlap : (windows : List Window) (region : Region) (devices : List DevState) (row : ℕ) → list_any (is_of region.row) windows ≡ false
    → least_row (filter (meets (window_of region None)) windows) ≡ Some row → MayNotAdd windows devices region (Overlap row)
is_overlap windows region devices row live met =
    record { stopped = refusal_is windows region false (Some row) _ live met refl; refused = refl }

pub is_alias : (windows : List Window) (region : Region) (devices : List DevState) → list_any (is_of region.row) windows ≡ false
    → least_row (filter (meets (window_of region None)) windows) ≡ None → lacks_target windows region.plan region.plan.form ≡ true
    → MayNotAdd windows devices region AliasTarget
is_alias windows region devices live met lacks = record { stopped = refusal_is windows region false None true live met lacks; refused = refl }

-- what a space looked at that refuses nothing

pub record Allowed (live : Bool) (met : Option ℕ) (lacks : Bool) : Type 0 where
  pub not_live : live ≡ false
  pub none_met : met ≡ None
  pub not_lacking : lacks ≡ false

pub looked_at : (live : Bool) (met : Option ℕ) (lacks : Bool) → stop live met lacks ≡ None → Allowed live met lacks
looked_at true met lacks e = absurd (cc e)
looked_at false (Some row) lacks e = absurd (cc e)
looked_at false None true e = absurd (cc e)
looked_at false None false e = record { not_live = refl; none_met = refl; not_lacking = refl }

pub allowed_by : (windows : List Window) (region : Region) → refusal_in windows region ≡ None
    → Allowed (list_any (is_of region.row) windows) (least_row (filter (meets (window_of region None)) windows)) (lacks_target windows region.plan region.plan.form)
allowed_by windows region e =
    looked_at (list_any (is_of region.row) windows) (least_row (filter (meets (window_of region None)) windows))
    (lacks_target windows region.plan region.plan.form) e

-- then no window is of the row
pub has_none : (windows : List Window) (row : ℕ) → list_any (is_of row) windows ≡ false → HasNone windows row
has_none windows row none = λ k d lt same. cc (none, list_any_at (is_of row) windows k d lt (eqb_true (get_or windows k d).owner row same))

-- and there is a target exactly for an alias
pub leads : (windows : List Window) (plan : RegionPlan) (form : Form) (target : Option (ℕ × ℕ)) → lacks_target windows plan form ≡ false
    → target ≡ target_of windows plan form → LeadsTo target form
leads windows plan Ram None lacks is = tt
leads windows plan Rom None lacks is = tt
leads windows plan (Device names) None lacks is = tt
leads windows plan (Real area offset) None lacks is = tt
leads windows plan (Alias address) None lacks is =
    absurd (true≢false (subst (λ (o : Option (ℕ × ℕ)). is_none o ≡ false) (sym is) lacks))
leads windows plan (Alias address) (Some t) lacks is = tt
leads windows plan Ram (Some t) lacks is = absurd (cc is)
leads windows plan Rom (Some t) lacks is = absurd (cc is)
leads windows plan (Device names) (Some t) lacks is = absurd (cc is)
leads windows plan (Real area offset) (Some t) lacks is = absurd (cc is)

-- what the rules say once a row has no window and none is met
pub then_alias : (windows : List Window) (region : Region) (answer : Result (Option (ℕ × ℕ)) NotAdded)
    → list_any (is_of region.row) windows ≡ false → least_row (filter (meets (window_of region None)) windows) ≡ None
    → MatchResult answer
    (λ target. (lacks_target windows region.plan region.plan.form ≡ false) × (target ≡ target_of windows region.plan region.plan.form))
    (λ why. (lacks_target windows region.plan region.plan.form ≡ true) × (why ≡ AliasTarget))
    → MatchResult answer
    (λ target. (refusal_in windows region ≡ None) × (target ≡ target_of windows region.plan region.plan.form))
    (λ why. (devices : List DevState) → MayNotAdd windows devices region why)
then_alias windows region (Ok target) live met it = (refusal_is windows region false None false live met it.0, it.1)
then_alias windows region (Err why) live met it =
    λ devices. subst (λ (w : NotAdded). MayNotAdd windows devices region w) (sym it.1) (is_alias windows region devices live met it.0)

-- and what is said once the pool is asked too
pub may_add : (windows : List Window) (devices : List DevState) (region : Region) (target : Option (ℕ × ℕ)) → refusal_in windows region ≡ None
    → target ≡ target_of windows region.plan region.plan.form → is_ok (device_for devices region.plan.form) ≡ true
    → MayAdd windows devices region target
may_add windows devices region target allowed leads_to device = record { allowed = allowed; leads_to = leads_to; device = device }

no_emulator : (devices : List DevState) (form : Form) → is_ok (device_for devices form) ≡ false
    → device_for devices form ≡ Err refusal.NoEmulator
no_emulator devices Ram none = absurd (true≢false none)
no_emulator devices Rom none = absurd (true≢false none)
no_emulator devices (Device names) none = for_none (taken devices names) none
  where
    for_none : (split : Option (DevState × List DevState)) → is_ok (ok_or (option_map (λ s. Some s.0) split) refusal.NoEmulator) ≡ false
        → ok_or (option_map (λ s. Some s.0) split) refusal.NoEmulator ≡ Err refusal.NoEmulator
    for_none None e = refl
    for_none (Some s) e = absurd (true≢false e)
no_emulator devices (Real area offset) none = absurd (true≢false none)
no_emulator devices (Alias address) none = absurd (true≢false none)

pub may_not_add : (windows : List Window) (devices : List DevState) (region : Region) → refusal_in windows region ≡ None
    → is_ok (device_for devices region.plan.form) ≡ false → MayNotAdd windows devices region NoEmulator
may_not_add windows devices region allowed none = record { stopped = allowed; refused = no_emulator devices region.plan.form none }
