pub mod Count
pub mod Reading
pub mod Writing
pub mod MemSource
pub mod MemSink
pub mod SureSource
pub mod Adapters
