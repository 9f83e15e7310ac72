pub use Rattle.hv_exec.specs.Operation
pub mod Table
pub mod Instruction
pub mod Vcpu
