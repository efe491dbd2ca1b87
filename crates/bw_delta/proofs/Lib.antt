pub mod Runs
pub mod Following
pub mod At
pub mod Rises
pub mod Stands
pub mod Zips
