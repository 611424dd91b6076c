pub mod Entries
pub mod MemShelf
pub mod OtherShelves
pub mod Shelf
