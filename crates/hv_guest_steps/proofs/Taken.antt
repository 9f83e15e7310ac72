-- Components that are left as a step's rule says take the step.
use Rattle.std.proofs.Common.{◌≡◌, ℕ, ◌∙◌, ap, sym, subst, refl, List, Option, Some}
use Rattle.std.specs.Prelude.{find, Ok}
use Rattle.std.specs.Option.{option_map_or}
use Rattle.hv_answer.specs.declared.reply.Reply.TheVariants as reply
use Rattle.hv_body.specs.Body.{device_of}
use Rattle.hv_dir.specs.Pool.{given_back}
use Rattle.hv_emu.specs.Device.{DevState}
use Rattle.hv_kinds.specs.declared.changes.SignalChanges.{SignalChanges}
use Rattle.hv_region.specs.declared.window.Window.{Window}
use Rattle.hv_space.specs.Space.{SpaceState}
use Rattle.hv_rules.specs.Body.{BodyValue, changes, dropped, unless_alias}
use Rattle.hv_rules.specs.Carry.{Carry}
use Rattle.hv_rules.specs.Space.{AgreesToDrop, alias_in, is_of, without_region}
use Rattle.hv_guest_steps.specs.Regions.{IsDropped, drop_carry}

-- a removal
pub is_dropped :
    (row : ℕ) (window : Window) (changed : SignalChanges) (c : Carry) (shelf shelf' : List DevState) (space space' : SpaceState) (body body' : BodyValue)
    → find (is_of row) space.windows ≡ Some window → c ≡ drop_carry row (alias_in window) body → changed ≡ changes body body'
    → shelf' ≡ option_map_or (given_back shelf) (unless_alias (alias_in window) (device_of body)) shelf → space' ≡ without_region space row
    → body' ≡ dropped row (alias_in window) body → IsDropped (reply.Drop (Ok changed)) c shelf shelf' space space' body body'
is_dropped row window changed c shelf shelf' space space' body body' there handed changes_are shelf_is space_is body_is =
    subst (λ (k : Carry). IsDropped (reply.Drop (Ok changed)) k shelf shelf' space space' body body') (sym handed)
    (record {
      shelf = λ s. record { agrees = tt; after = shelf_is };
      space =
          λ s.
          record {
            agrees =
                subst (λ (f : Option Window). AgreesToDrop f (reply.Drop (Ok changed)) (alias_in window)) (sym there)
                (refl, refl);
            after = space_is;
          };
      body =
          λ cell s.
          record {
            agrees = (ap (λ (k : SignalChanges). reply.Drop (Ok k)) (changes_are ∙ ap (changes body) body_is), refl, refl);
            after = body_is;
          };
    })
