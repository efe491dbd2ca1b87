pub mod Bulk
mod Crossing
pub mod Filling
pub mod Steps
