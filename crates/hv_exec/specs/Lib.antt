pub mod Numbers
pub mod Arithmetic
pub mod Context
pub mod Fields
pub mod Operation
pub mod OperationFields
pub mod Result
pub mod Meaning
