-- Devices that regions get.
use Rattle.std.proofs.Common.{◌≡◌, ℕ, ◌<◌, List, length, true, refl, sym, ap, ◌∙◌, arith, Option, Some, None, slice_get}
use Rattle.std.specs.Prelude.{is_some, remove, Result, Ok, ok_or}
use Rattle.std.specs.Option.{option_and_then, option_flatten, option_map, option_map_or}
use Rattle.std.specs.Result.{IsOk, is_ok, result_ok}
use Rattle.std.proofs.lemmas.Bool.{true≢false}
use Rattle.hv_body.specs.Rules.{CanMake}
use Rattle.hv_dir.specs.Pool.{place_of, taken, taken_at}
use Rattle.hv_dir.proofs.PoolLemmas.{place_within}
use Rattle.hv_emu.specs.Device.{DevState, after_attach}
use Rattle.hv_refusal.specs.declared.refusal.Refusal.{Refusal}
use Rattle.hv_refusal.specs.declared.refusal.Refusal.TheVariants.{NoEmulator}
use Rattle.hv_region.specs.declared.plan.Form.{Form}
use Rattle.hv_region.specs.declared.plan.Form.TheVariants.{Ram, Rom, Device, Real, Alias}
use Rattle.hv_rules.specs.Shelf.{device_for, without_device}
use Rattle.hv_guest_steps.specs.Additions.{LeadsTo, device_got}
use Rattle.hv_guest_steps.proofs.Told.{past_all}

-- what is answered where a list of names takes something
abbrev pub got : Option (DevState × List DevState) → Result (Option DevState) Refusal
got split = ok_or (option_map (λ split. Some split.0) split) NoEmulator

-- a device of the names is taken where one has a place

took_at : (devices : List DevState) (k : ℕ) (there : Option DevState) → slice_get devices k ≡ there → k < length devices
    → is_ok (got (option_map (λ device. (device, remove devices k)) there)) ≡ true
took_at devices k (Some device) e within = refl
took_at devices k None e within = let past = past_all devices k e in absurd (omega arith)

pub took_some : (devices : List DevState) (names : List (List ℕ)) (place : Option ℕ) → place_of devices names ≡ place
    → is_ok (got (option_and_then (taken_at devices) place)) ≡ is_some place
took_some devices names None e = refl
took_some devices names (Some k) e = took_at devices k (slice_get devices k) refl (place_within devices names k e)

-- a taking that is made

pub device_taken : (devices left : List DevState) (names : List (List ℕ)) (device : DevState) → taken devices names ≡ Some (device, left)
    → device_for devices (Device names) ≡ Ok (Some device)
device_taken devices left names device is = ap got is

pub device_leaves : (devices left : List DevState) (names : List (List ℕ)) (device : DevState) → taken devices names ≡ Some (device, left)
    → left ≡ without_device devices (Device names)
device_leaves devices left names device is =
    sym (ap (λ (split : Option (DevState × List DevState)). option_map_or (λ taken. taken.1) split devices) is)

pub must_take : {X : Type 0} (devices : List DevState) (names : List (List ℕ)) → IsOk (device_for devices (Device names))
    → taken devices names ≡ None → X
must_take devices names ok none = absurd (true≢false (sym ok ∙ ap (λ (split : Option (DevState × List DevState)). is_ok (got split)) none))

-- a region can be made with what it gets

no_device : {X : Type 0} (split : Option (DevState × List DevState)) → got split ≡ Ok None → X
no_device None e = absurd (cc e)
no_device (Some s) e = absurd (cc e)

pub can_make : {E : Type 0} (state : E → DevState) (devices : List DevState) (form : Form) (part : Option E) → LeadsTo None form
    → device_for devices form ≡ Ok (option_map state part) → CanMake form part
can_make state devices Ram None leads is = tt
can_make state devices Rom None leads is = tt
can_make state devices (Real area offset) None leads is = tt
can_make state devices (Device names) (Some part) leads is = tt
can_make state devices (Device names) None leads is = no_device (taken devices names) is
can_make state devices Ram (Some part) leads is = absurd (cc is)
can_make state devices Rom (Some part) leads is = absurd (cc is)
can_make state devices (Real area offset) (Some part) leads is = absurd (cc is)
can_make state devices (Alias address) part leads is = absurd leads

-- the device that is got
pub device_is : (devices : List DevState) (form : Form) (device : Option DevState) → device_for devices form ≡ Ok device
    → device_got devices form ≡ device
device_is devices form device is = ap (λ (r : Result (Option DevState) Refusal). option_flatten (result_ok r)) is

-- an alias gets none, and leaves all devices

pub alias_none : (devices : List DevState) (form : Form) (target : ℕ × ℕ) → LeadsTo (Some target) form → device_got devices form ≡ None
alias_none devices Ram target leads = absurd leads
alias_none devices Rom target leads = absurd leads
alias_none devices (Device names) target leads = absurd leads
alias_none devices (Real area offset) target leads = absurd leads
alias_none devices (Alias address) target leads = refl

pub alias_leaves : (devices : List DevState) (form : Form) (target : ℕ × ℕ) → LeadsTo (Some target) form → devices ≡ without_device devices form
alias_leaves devices Ram target leads = absurd leads
alias_leaves devices Rom target leads = absurd leads
alias_leaves devices (Device names) target leads = absurd leads
alias_leaves devices (Real area offset) target leads = absurd leads
alias_leaves devices (Alias address) target leads = refl

-- a device is attached as the state that it stands for
pub attached : {E : Type 0} (state : E → DevState) (vcpus : ℕ) (part : Option E) (device : Option DevState) → device ≡ option_map state part
    → option_map (λ p. after_attach (state p) vcpus) part ≡ option_map (λ cold. after_attach cold vcpus) device
attached state vcpus None device is = ap (option_map (λ cold. after_attach cold vcpus)) (sym is)
attached state vcpus (Some part) device is = ap (option_map (λ cold. after_attach cold vcpus)) (sym is)
