-- What calls of a body's device leave and show, the device seen as its state.
use Rattle.std.proofs.Common.{◌≡◌, ℕ, ◌+◌, ◌<◌, ◌≤◌, List, [], ◌∷◌, ◌++◌, length, take, get_or, refl, sym, ap, ◌∙◌, Option, Some, None, slice_get, take_all, inl, inr}
use Rattle.std.specs.Prelude.{fold}
use Rattle.std.specs.Option.{option_map_or}
use Rattle.std.proofs.lemmas.Bool.{cases_lt}
use Rattle.std.proofs.lemmas.List.{take_more}
use Rattle.std.proofs.lemmas.List.Sums.{fold-append}
use Rattle.std.proofs.lemmas.Option.{slice_get-get_or, slice_get_within, get_or_from_slice_get}
use Rattle.hv_body.specs.Body.{device_of, on_device, shown, with_contents}
use Rattle.hv_body.specs.Contents.{map_device}
use Rattle.hv_body.specs.declared.contents.Contents.{Contents}
use Rattle.hv_body.specs.declared.contents.Contents.TheVariants.{Writable, ReadOnly, Emulated, Shared}
use Rattle.hv_emu.specs.Device.{DevState, uart, plic, timer, after_feed, output_at}
use Rattle.hv_rules.specs.Body.{BodyValue, fed, output_of}

none_in : (contents : Contents DevState) → map_device (λ (device : DevState). fold after_feed device []) contents ≡ contents
none_in (Writable bytes) = refl
none_in (ReadOnly bytes) = refl
none_in (Emulated device) = refl
none_in (Shared number start) = refl

-- no byte changes nothing
pub fed_none : (body : BodyValue) → fed [] body ≡ body
fed_none None = refl
fed_none (Some live) = ap (λ (contents : Contents DevState). Some (with_contents live contents)) (none_in live.contents)

fold_more : (device : DevState) (bytes : List ℕ) (i : ℕ) → i < length bytes
    → after_feed (fold after_feed device (take i bytes)) (get_or bytes i 0) ≡ fold after_feed device (take (i + 1) bytes)
fold_more device bytes i lt =
    sym (ap (λ (some : List ℕ). fold after_feed device some) (take_more bytes i 0 lt)
    ∙ fold-append after_feed device (take i bytes) (get_or bytes i 0 ∷ []))

more_in : (contents : Contents DevState) (bytes : List ℕ) (i : ℕ) → i < length bytes
    → map_device (λ (device : DevState). after_feed device (get_or bytes i 0))
    (map_device (λ (device : DevState). fold after_feed device (take i bytes)) contents)
    ≡ map_device (λ (device : DevState). fold after_feed device (take (i + 1) bytes)) contents
more_in (Writable own) bytes i lt = refl
more_in (ReadOnly own) bytes i lt = refl
more_in (Emulated device) bytes i lt = ap Emulated (fold_more device bytes i lt)
more_in (Shared number start) bytes i lt = refl

-- a byte more arrives
pub fed_more : (body : BodyValue) (bytes : List ℕ) (i : ℕ) → i < length bytes
    → on_device (λ (device : DevState). after_feed device (get_or bytes i 0)) (fed (take i bytes) body)
    ≡ fed (take (i + 1) bytes) body
fed_more None bytes i lt = refl
fed_more (Some live) bytes i lt =
    ap (λ (contents : Contents DevState). Some (with_contents live contents)) (more_in live.contents bytes i lt)

output_is : (device : DevState) (place : ℕ) → output_at device place ≡ slice_get (output_of device) place
unfolding output_at
output_is (uart u) place = refl
output_is (plic p) place = refl
output_is (timer t) place = refl

shown_in : (device : Option DevState) (place : ℕ)
    → option_map_or (λ (d : DevState). output_at d place) device None ≡ slice_get (option_map_or output_of device []) place
shown_in None place = refl
shown_in (Some device) place = output_is device place

-- a byte of the output stands at its place in the whole
pub shown_output : (body : BodyValue) (place : ℕ)
    → shown (λ (d : DevState). output_at d place) None body ≡ slice_get (shown output_of [] body) place
shown_output body place = shown_in (device_of body) place

no_some : (x : ℕ) → None ≡ Some x → ⊥
no_some x e = cc

-- the output is whole where there is no byte at its end
pub all_sent : (bytes : List ℕ) (n : ℕ) → slice_get bytes n ≡ None → n ≤ length bytes → take n bytes ≡ bytes
all_sent bytes n none le =
    elim (cases_lt n (length bytes)) [
      | inl lt ↦ absurd (no_some _ (sym none ∙ slice_get-get_or bytes n 0 lt))
      | inr ge ↦ take_all n bytes ge
    ]

-- a byte more was sent
pub sent_more : (bytes : List ℕ) (n b : ℕ) → slice_get bytes n ≡ Some b → take n bytes ++ b ∷ [] ≡ take (n + 1) bytes
sent_more bytes n b there =
    let lt : n < length bytes = slice_get_within bytes n b there in
    ap (λ (z : ℕ). take n bytes ++ z ∷ []) (sym (get_or_from_slice_get bytes n b b there)) ∙ sym (take_more bytes n b lt)

-- a byte that was sent stands before the end
pub sent_within : (bytes : List ℕ) (n b : ℕ) → slice_get bytes n ≡ Some b → n < length bytes
sent_within bytes n b there = slice_get_within bytes n b there
