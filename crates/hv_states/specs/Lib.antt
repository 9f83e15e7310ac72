-- The states of all VCPUs as one list.
pub mod ByNumber
