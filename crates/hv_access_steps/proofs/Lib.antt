pub mod Lists
pub mod Fetching
pub mod Admitted
pub mod Looking
pub mod Loading
