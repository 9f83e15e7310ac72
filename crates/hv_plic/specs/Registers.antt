-- The registers of the code as those of the memory map. Used by proofs alone.
use Rattle.hv_emu.specs.Plic.{PlicRegister, priority_of, pending_bits, enable_of, threshold_of, claim_complete, reserved}
use Rattle.hv_plic.specs.declared.register.Register.{Register}
use Rattle.hv_plic.specs.declared.register.Register.TheVariants.{Priority, Pending, Enable, Threshold, ClaimComplete, Reserved}

-- A register as the map has it.
abbrev pub meaning_of : Register → PlicRegister
meaning_of (Priority source) = priority_of source
meaning_of Pending = pending_bits
meaning_of (Enable context) = enable_of context
meaning_of (Threshold context) = threshold_of context
meaning_of (ClaimComplete context) = claim_complete context
meaning_of Reserved = reserved
