pub mod Board
pub mod Run
pub mod Laws
pub mod Example
pub mod Legal
