pub mod Calls
pub mod Workers
pub mod Answers
pub mod Clears
pub mod Faults
pub mod Reads
pub mod Scans
pub mod Sharing
