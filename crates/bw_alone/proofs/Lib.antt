pub mod Calming
pub mod Copies
pub mod Following
pub mod Removals
pub mod InPlaces
