pub mod Parts
pub mod RoomLaws
pub mod Values
pub mod Woken
pub mod Holdings
