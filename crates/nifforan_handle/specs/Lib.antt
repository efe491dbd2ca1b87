pub mod Answers
pub mod Calls
pub mod Filling
pub mod Frozen
pub mod Held
pub mod Owned
pub mod Reading
pub mod Statuses
