pub mod Rooms
pub mod Seen
pub mod Woken
pub mod Holding
