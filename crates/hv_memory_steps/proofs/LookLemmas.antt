-- Bytes that are read out of memory, and looks that no window holds.
use Rattle.std.proofs.Common.{◌≡◌, ℕ, zero, suc, ◌+◌, ◌<◌, List, [], ◌∷◌, ◌++◌, length, take, drop, slice_get, refl, sym, ap, subst, ◌∙◌, arith, Option, Some, None}
use Rattle.std.specs.Prelude.{Err}
use Rattle.std.proofs.Math.Seq.{take-suc}
use Rattle.std.proofs.lemmas.Option.{get_or_from_slice_get, slice_get_within}
use Rattle.hv_answer.specs.declared.reply.Reply.TheVariants as reply
use Rattle.hv_body.specs.Body.{byte_of}
use Rattle.hv_body.specs.Rules.{HasMemory, IsMemory}
use Rattle.hv_body.specs.Contents.{byte_at}
use Rattle.hv_body.specs.declared.contents.Contents.{Contents}
use Rattle.hv_body.specs.declared.contents.Contents.TheVariants.{Writable, ReadOnly, Emulated, Shared}
use Rattle.hv_body.specs.declared.live.Live.{Live}
use Rattle.hv_handed.specs.Takes.{SpaceTakes}
use Rattle.hv_kinds.specs.declared.address.AddressType.TheVariants.{Memory}
use Rattle.hv_refusal.specs.declared.refusal.Refusal.TheVariants as refusal
use Rattle.hv_region.specs.declared.window.Window.{Window}
use Rattle.hv_rules.specs.Carry.{Carry, nothing}
use Rattle.hv_rules.specs.Space.{HandsWindow}
use Rattle.hv_rules.specs.Windows.{window_at}
use Rattle.hv_space.specs.Space.{SpaceState}
use Rattle.hv_step.specs.declared.step.Mem.{Mem}
use Rattle.hv_step.specs.declared.step.Step.TheVariants as step
use Rattle.hv_memory_steps.specs.Ranges.{own_bytes, own_memory}

byte_in : {D : Type 0} (contents : Contents D) (end offset : ℕ) → IsMemory contents end → byte_at contents offset ≡ slice_get (own_bytes contents) offset
byte_in (Writable bytes) end offset is = refl
byte_in (ReadOnly bytes) end offset is = refl
byte_in (Emulated device) end offset is = absurd is
byte_in (Shared number start) end offset is = absurd is

-- a byte of memory is one of its bytes
pub byte_is : {D : Type 0} (body : Option (Live D)) (end offset : ℕ) → HasMemory body end → byte_of body offset ≡ slice_get (own_memory body) offset
byte_is None end offset is = absurd is
byte_is (Some live) end offset is = byte_in live.contents end offset is

get_behind : (bytes : List ℕ) (offset index : ℕ) → slice_get (drop offset bytes) index ≡ slice_get bytes (offset + index)
get_behind bytes zero index = let here : index ≡ zero + index = omega arith in ap (slice_get bytes) here
get_behind [] (suc offset) index = refl
get_behind (byte ∷ bytes) (suc offset) index =
    let next : suc (offset + index) ≡ suc offset + index = omega arith in
    get_behind bytes offset index ∙ ap (slice_get (byte ∷ bytes)) next

-- a byte that is read stands behind those before it
pub read_more : (bytes read : List ℕ) (offset index byte : ℕ) → slice_get bytes (offset + index) ≡ Some byte → read ≡ take index (drop offset bytes)
    → read ++ byte ∷ [] ≡ take (index + 1) (drop offset bytes)
read_more bytes read offset index byte is before =
    let there : slice_get (drop offset bytes) index ≡ Some byte = get_behind bytes offset index ∙ is in
    let within : index < length (drop offset bytes) = slice_get_within (drop offset bytes) index byte there in
    let next : index + 1 ≡ suc index = omega arith in
    ap (λ (some : List ℕ). some ++ byte ∷ []) before
    ∙ (ap (λ (last : ℕ). take index (drop offset bytes) ++ last ∷ []) (sym (get_or_from_slice_get (drop offset bytes) index byte byte there))
    ∙ sym (ap (λ (n : ℕ). take n (drop offset bytes)) next ∙ take-suc (drop offset bytes) index byte within))

-- a space takes a look that no window holds
pub space_mem_refused : (s : Mem) (c : Carry) (space : SpaceState) → c ≡ nothing → window_at space.windows Memory s.address s.count ≡ None
    → SpaceTakes (step.Mem s) (reply.Mem (Err refusal.NoWindow)) c space space
space_mem_refused s c space handed is = record {
  agrees =
      subst (λ (found : Option Window). HandsWindow found (reply.Mem (Err refusal.NoWindow)) (reply.Mem (Err refusal.NoWindow)) c) (sym is)
      (refl, ap (λ (k : Carry). k.window) handed, ap (λ (k : Carry). k.area) handed);
  after = refl;
}
