-- The component of an area, which regions of guests share: to which events it agrees, and what an event leaves in it.
use Rattle.std.specs.Prelude.{◌≡◌, ℕ, ◌+◌, List, slice_range, IsSomeAnd, Option, Some, Ok}
use Rattle.std.specs.Option.{option_map_or}
use Rattle.hv_answer.specs.declared.reply.Reply.{Reply}
use Rattle.hv_answer.specs.declared.reply.Reply.TheVariants as reply
use Rattle.hv_body.specs.Memory.{number_at, with_bytes, with_number}
use Rattle.hv_kinds.specs.declared.access.Direction.{Direction}
use Rattle.hv_kinds.specs.declared.access.Direction.TheVariants.{Read, Write}
use Rattle.hv_step.specs.declared.step.Step.{Step}
use Rattle.hv_step.specs.declared.step.Step.TheVariants as step
use Rattle.hv_rules.specs.Body.{word_of, accessed, no_changes}
use Rattle.hv_rules.specs.Carry.{Carry}

-- What a load reads of an area from an offset on; a store reads nothing.
abbrev pub value_read : List ℕ → Direction → (offset size : ℕ) → ℕ
value_read bytes Read offset size = number_at bytes offset size
value_read bytes Write offset size = 0

-- An area once an access is made: a store alone changes it.
abbrev pub accessed_area : List ℕ → Direction → (offset size value : ℕ) → List ℕ
accessed_area bytes Read offset size value = bytes
accessed_area bytes Write offset size value = with_number bytes offset size value

-- An area agrees to a fetch, a load and a look at memory where the reply shows its bytes at the offset that is handed
-- over, to a store there, and to bytes that are put there; no signal changes.
abbrev pub AreaAgrees : List ℕ → Step → Reply → Carry → Type 0
AreaAgrees bytes (step.Load s) r c = IsSomeAnd c.area (λ place. Unit {0})
AreaAgrees bytes (step.Mem s) r c =
    IsSomeAnd c.area (λ place. r ≡ reply.Mem (Ok (slice_range bytes place.1 (place.1 + s.count))))
AreaAgrees bytes (step.Fetch s) r c = IsSomeAnd c.area (λ place. word_of r ≡ Some (number_at bytes place.1 4))
AreaAgrees bytes (step.Access s) r c =
    IsSomeAnd c.area (λ place.
    r ≡ reply.Access (Some (accessed (value_read bytes s.direction place.1 s.size) no_changes)))
AreaAgrees bytes _ r c = ⊥

-- The area with a file's bytes at the offset that is handed over.
abbrev pub loaded_area : List ℕ → (area : Option (ℕ × ℕ)) → (file : Option (List ℕ)) → List ℕ
loaded_area bytes (Some place) (Some file) = with_bytes bytes place.1 file
loaded_area bytes area file = bytes

-- A load of a file and a store of an instruction alone change the area.
abbrev pub area_after : List ℕ → Step → Reply → Carry → List ℕ
area_after bytes (step.Load s) r c = loaded_area bytes c.area c.bytes
area_after bytes (step.Access s) r c =
    option_map_or (λ place. accessed_area bytes s.direction place.1 s.size s.value) c.area bytes
area_after bytes _ r c = bytes
