pub mod Ranges
pub mod Reasons
pub mod Limits
pub mod Rooms
pub mod Texts
pub mod Words
