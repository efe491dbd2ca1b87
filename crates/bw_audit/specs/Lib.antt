pub mod Changes
pub mod Legal
pub mod Verdicts
pub mod Indexed
pub mod Replays
pub mod Events
pub mod Explained
pub mod Opened
