-- The platform-level interrupt controller, by the RISC-V PLIC Specification 1.0.0, with sources 1 to 31 and eight
-- priorities. Context i is VCPU i. Sets of sources are words with bit s for source s.
use Rattle.std.specs.Prelude.{ℕ, ◌-◌, ◌%◌, max, Bool, not, ◌&&◌, ◌==◌, nat_lt, if◌then◌else◌, List, [], ◌∷◌, replicate, filter, slice_index, slice_set, Option, Some, None, option_map, unwrap_or}
use Rattle.std.specs.List.{list_any}
use Rattle.hv_emu.specs.Access.{Access, load, store, Outcome, loaded, stored}
use Rattle.hv_emu.specs.Registers.{is_set, with_bit, without_bit, put_bit, index_at, resized}

pub record PlicState : Type 0 where
  pub contexts : ℕ
  -- by the number of the source, from 0, which stays 0
  pub priority : List ℕ
  -- the sources whose signal is high
  pub level : ℕ
  -- the sources with an interrupt that wasn't claimed
  pub pending : ℕ
  -- the sources with an interrupt that was claimed and isn't completed
  pub service : ℕ
  -- per context, the sources that it takes
  pub enable : List ℕ
  -- per context, the priority above which a source raises its pin
  pub threshold : List ℕ

-- After a reset all is 0.
abbrev pub plic_reset : ℕ → PlicState
plic_reset contexts =
    record {
      contexts = contexts;
      priority = replicate 32 0;
      level = 0;
      pending = 0;
      service = 0;
      enable = replicate contexts 0;
      threshold = replicate contexts 0;
    }

-- New contexts take no source, and have the threshold 0.
abbrev pub plic_attached : PlicState → ℕ → PlicState
plic_attached p contexts =
    record p {
      contexts = contexts;
      enable = resized contexts 0 p.enable;
      threshold = resized contexts 0 p.threshold;
    }

-- The registers, some of them one per source or per context.
pub data PlicRegister : Type 0 where
  priority_of : (source : ℕ) → PlicRegister
  pending_bits : PlicRegister
  enable_of : (context : ℕ) → PlicRegister
  threshold_of : (context : ℕ) → PlicRegister
  claim_complete : (context : ℕ) → PlicRegister
  -- a place with no register, which reads 0 and isn't written
  reserved : PlicRegister

-- The register of a source, of which 0 has none.
abbrev pub source_register : ℕ → PlicRegister
source_register source = if source == 0 then reserved else priority_of source

-- The register at an offset, among those of so many contexts.
abbrev pub plic_register : (contexts offset : ℕ) → PlicRegister
plic_register contexts offset =
    let priorities = option_map source_register (index_at 0 4 32 offset) in
    let pending = if offset == 0x1000 then Some pending_bits else None in
    let enables = option_map enable_of (index_at 0x2000 0x80 contexts offset) in
    let thresholds = option_map threshold_of (index_at 0x200000 0x1000 contexts offset) in
    let claims = option_map claim_complete (index_at 0x200004 0x1000 contexts offset) in
    unwrap_or priorities (unwrap_or pending (unwrap_or enables (unwrap_or thresholds (unwrap_or claims reserved))))

-- The register that an access reaches: only whole words are accessed.
abbrev pub plic_register_of : PlicState → (offset size : ℕ) → Option PlicRegister
plic_register_of p offset size =
    if (size == 4) && (offset % 4 == 0) then Some (plic_register p.contexts offset) else None

-- The numbers of the sources.
unfoldable pub sources : List ℕ
sources =
    1 ∷ 2 ∷ 3 ∷ 4 ∷ 5 ∷ 6 ∷ 7 ∷ 8 ∷ 9 ∷ 10 ∷ 11 ∷ 12 ∷ 13 ∷ 14 ∷ 15 ∷ 16 ∷ 17 ∷ 18 ∷ 19 ∷ 20 ∷ 21 ∷ 22 ∷ 23 ∷ 24
    ∷ 25 ∷ 26 ∷ 27 ∷ 28 ∷ 29 ∷ 30 ∷ 31 ∷ []

-- A number of a source, from 1 to 31.
abbrev pub is_source : ℕ → Bool
is_source number = nat_lt 0 number && nat_lt number 32

-- A source is a candidate of a context that takes it, where it is pending and its priority is above 0.
abbrev pub is_candidate : PlicState → (context source : ℕ) → Bool
is_candidate p context source =
    is_set p.pending source && is_set (slice_index p.enable context) source
    && nat_lt 0 (slice_index p.priority source)

-- The candidates of a context, by rising number.
unfoldable pub candidates : PlicState → (context : ℕ) → List ℕ
candidates p context = filter (is_candidate p context) sources

-- The greatest priority of some sources, 0 where there are none.
abbrev pub greatest_priority : PlicState → List ℕ → ℕ
greatest_priority p [] = 0
greatest_priority p (source ∷ rest) = max (slice_index p.priority source) (greatest_priority p rest)

-- What a claim gives: of the candidates with the greatest priority that of the least number, or 0 where there are
-- none. The threshold doesn't matter to it.
unfoldable pub claimed : PlicState → (context : ℕ) → ℕ
claimed p context =
    let all = candidates p context in
    slice_index (filter (λ s. slice_index p.priority s == greatest_priority p all) all) 0

-- After a claim the source is in service and no more pending.
abbrev pub plic_after_claim : PlicState → (source : ℕ) → PlicState
plic_after_claim p source =
    if source == 0 then p
    else record p { pending = without_bit p.pending source; service = with_bit p.service source }

-- A completion ends the service of a source that the context takes, and any other is ignored. Where the source was
-- in service and its signal is still high, it is pending again.
abbrev pub plic_completed : PlicState → (context source : ℕ) → PlicState
plic_completed p context source =
    if is_source source && is_set (slice_index p.enable context) source then
    record p {
      service = without_bit p.service source;
      pending =
          if is_set p.service source && is_set p.level source then with_bit p.pending source else p.pending;
    }
    else p

-- What a read of a register answers.
abbrev pub plic_value : PlicState → PlicRegister → ℕ
plic_value p (priority_of source) = slice_index p.priority source
plic_value p pending_bits = p.pending
plic_value p (enable_of context) = slice_index p.enable context
plic_value p (threshold_of context) = slice_index p.threshold context
plic_value p (claim_complete context) = claimed p context
plic_value p reserved = 0

-- What a read of a register leaves: it is a claim, or changes nothing.
abbrev pub plic_after_read : PlicState → PlicRegister → PlicState
plic_after_read p (claim_complete context) = plic_after_claim p (claimed p context)
plic_after_read p _ = p

-- What a write to a register leaves: priorities and thresholds keep three bits, there is no source 0 to be enabled,
-- and the pending bits aren't written.
abbrev pub plic_written : PlicState → PlicRegister → ℕ → PlicState
plic_written p (priority_of source) value = record p { priority = slice_set p.priority source (value % 8) }
plic_written p pending_bits value = p
plic_written p (enable_of context) value = record p { enable = slice_set p.enable context (value - value % 2) }
plic_written p (threshold_of context) value = record p { threshold = slice_set p.threshold context (value % 8) }
plic_written p (claim_complete context) value = plic_completed p context value
plic_written p reserved value = p

-- An access to the controller.
abbrev pub plic_access : PlicState → Access → Outcome PlicState
plic_access p (load offset size) =
    loaded p (plic_register_of p offset size) (plic_value p) (plic_after_read p)
plic_access p (store offset size value) =
    stored p (plic_register_of p offset size) (λ register. plic_written p register value)

-- A signal changes. Where it is high and its source isn't in service, an interrupt is pending; where it is low, what
-- is pending stays.
abbrev pub plic_signalled : PlicState → (source : ℕ) → (level : Bool) → PlicState
plic_signalled p source level =
    if is_source source then
    record p {
      level = put_bit p.level source level;
      pending = if level && not (is_set p.service source) then with_bit p.pending source else p.pending;
    }
    else p

-- The external pin of a context is high where a candidate has a priority above the threshold.
abbrev pub plic_pin : PlicState → (context : ℕ) → Bool
plic_pin p context =
    nat_lt context p.contexts
    && list_any (λ source. nat_lt (slice_index p.threshold context) (slice_index p.priority source))
    (candidates p context)
