pub mod Answers
pub mod Faults
pub mod Lines
pub mod Played
