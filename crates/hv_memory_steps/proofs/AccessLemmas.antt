-- Bodies and areas take accesses.
use Rattle.std.proofs.Common.{◌≡◌, ℕ, Bool, true, false, refl, sym, ap, subst, ◌∙◌, Option, Some, None}
use Rattle.std.specs.Prelude.{is_some, if◌then◌else◌}
use Rattle.std.specs.Option.{option_map_or}
use Rattle.hv_answer.specs.declared.reply.Reply.{Reply}
use Rattle.hv_answer.specs.declared.reply.Reply.TheVariants as reply
use Rattle.hv_body.specs.Body.{with_contents}
use Rattle.hv_body.specs.Contents.{after_load, after_store, answer_of, loaded, stored}
use Rattle.hv_body.specs.Windows.{offset_of}
use Rattle.hv_body.specs.declared.contents.Contents.{Contents}
use Rattle.hv_body.specs.declared.contents.Contents.TheVariants.{Writable, ReadOnly, Emulated, Shared}
use Rattle.hv_body.specs.declared.live.Live.{Live}
use Rattle.hv_body.specs.declared.place.Answer.{Answer}
use Rattle.hv_body.specs.declared.place.Answer.TheVariants.{Answered, Denied, NotHere}
use Rattle.hv_body.specs.declared.place.Place.{Place}
use Rattle.hv_emu.specs.Access.{load, store}
use Rattle.hv_emu.specs.Device.{DevState, device_access}
use Rattle.hv_handed.specs.Takes.{BodyTakes}
use Rattle.hv_kinds.specs.declared.access.Direction.{Direction}
use Rattle.hv_kinds.specs.declared.access.Direction.TheVariants.{Read, Write}
use Rattle.hv_kinds.specs.declared.changes.SignalChanges.{SignalChanges}
use Rattle.hv_rules.specs.Body.{BodyAgrees, BodyValue, ShowsAccess, access_answer, access_leaves, accessed, answer_to, area_in, changes, left_by, no_changes, parent_of, place_of}
use Rattle.hv_rules.specs.Carry as rules
use Rattle.hv_rules.specs.Carry.{Carry}
use Rattle.hv_step.specs.declared.step.Access.{Access}
use Rattle.hv_step.specs.declared.step.Step.TheVariants as step
use Rattle.hv_memory_steps.specs.Hands.{access_carry}

-- No reply shows an answer.
abbrev pub NeverShown : Answer → Type 0
NeverShown answer = (changed : SignalChanges) (r : Reply) → ShowsAccess answer changed r → ⊥

-- what a device answers is shown by some reply
answer_shown : (given : Option ℕ) → NeverShown (answer_of given) → ⊥
answer_shown None never = never no_changes (reply.Access None) refl
answer_shown (Some value) never = never no_changes (reply.Access (Some (accessed value no_changes))) refl

store_shown : (b : Bool) → NeverShown (if b then Answered 0 else Denied) → ⊥
store_shown true never = never no_changes (reply.Access (Some (accessed 0 no_changes))) refl
store_shown false never = never no_changes (reply.Access None) refl

load_keeps : (contents : Contents DevState) (offset size : ℕ) → NeverShown (loaded contents offset size) → after_load contents offset size ≡ contents
load_keeps (Writable bytes) offset size never = refl
load_keeps (ReadOnly bytes) offset size never = refl
load_keeps (Emulated device) offset size never = absurd (answer_shown (device_access device (load offset size)).answer never)
load_keeps (Shared number start) offset size never = refl

store_keeps : (contents : Contents DevState) (offset size value : ℕ) → NeverShown (stored contents offset size value) → after_store contents offset size value ≡ contents
store_keeps (Writable bytes) offset size value never = absurd (store_shown true never)
store_keeps (ReadOnly bytes) offset size value never = refl
store_keeps (Emulated device) offset size value never = absurd (store_shown (is_some (device_access device (store offset size value)).answer) never)
store_keeps (Shared number start) offset size value never = refl

load_keeps_at : (live : Live DevState) (at : Option ℕ) (size : ℕ) → NeverShown (option_map_or (λ offset. loaded live.contents offset size) at NotHere)
    → Some (with_contents live (option_map_or (λ offset. after_load live.contents offset size) at live.contents)) ≡ Some live
load_keeps_at live None size never = refl
load_keeps_at live (Some offset) size never = ap (λ (contents : Contents DevState). Some (with_contents live contents)) (load_keeps live.contents offset size never)

store_keeps_at : (live : Live DevState) (at : Option ℕ) (size value : ℕ) → NeverShown (option_map_or (λ offset. stored live.contents offset size value) at NotHere)
    → Some (with_contents live (option_map_or (λ offset. after_store live.contents offset size value) at live.contents)) ≡ Some live
store_keeps_at live None size value never = refl
store_keeps_at live (Some offset) size value never = ap (λ (contents : Contents DevState). Some (with_contents live contents)) (store_keeps live.contents offset size value never)

place_keeps : (body : BodyValue) (direction : Direction) (value : ℕ) (place : Place) → NeverShown (access_answer body direction value place) → access_leaves body direction value place ≡ body
place_keeps None Read value place never = refl
place_keeps None Write value place never = refl
place_keeps (Some live) Read value place never = load_keeps_at live (offset_of live.windows place) place.size never
place_keeps (Some live) Write value place never = store_keeps_at live (offset_of live.windows place) place.size value never

keeps_at : (body : BodyValue) (direction : Direction) (value : ℕ) (place : Option Place) → NeverShown (option_map_or (access_answer body direction value) place NotHere)
    → option_map_or (access_leaves body direction value) place body ≡ body
keeps_at body direction value None never = refl
keeps_at body direction value (Some place) never = place_keeps body direction value place never

-- an access that no reply shows leaves the body as it was
pub keeps : (body : BodyValue) (s : Access) → NeverShown (answer_to body s) → left_by body s ≡ body
keeps body s never = keeps_at body s.direction s.value (place_of s.generation.birth s.address s.size) never

-- a body takes an access that shows what it answers
pub access_taken : (row : ℕ) (s : Access) (r : Reply) (c : Carry) (pending : rules.Pending) (area parent : Option (ℕ × ℕ)) (old new : BodyValue) (answer : Answer) (changed : SignalChanges)
    → c ≡ access_carry pending area parent → answer ≡ answer_to old s → new ≡ left_by old s → changed ≡ changes old new → ShowsAccess answer changed r → area ≡ area_in answer → parent ≡ parent_of old
    → BodyTakes row (step.Access s) r c old new
access_taken row s r c pending area parent old new answer changed handed is left turned shows from link = record {
  agrees =
      subst (BodyAgrees row old (step.Access s) r) (sym handed) (
        subst (λ (n : SignalChanges). ShowsAccess (answer_to old s) n r) (turned ∙ ap (λ (b : BodyValue). changes old b) left)
            (subst (λ (a : Answer). ShowsAccess a changed r) is shows),
        from ∙ ap area_in is,
        link,
      );
  after = left;
}
