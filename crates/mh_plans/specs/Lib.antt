pub mod Order
pub mod Paths
pub mod Renumbered
pub mod Plans
pub mod View
pub mod Planned
pub mod Walks
pub mod Places
