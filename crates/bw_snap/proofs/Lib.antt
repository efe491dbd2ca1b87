pub mod Adding
pub mod Beginnings
pub mod Notes
pub mod Changes
pub mod Crossing
pub mod Seats
