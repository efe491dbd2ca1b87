pub mod Calm
pub mod Leading
pub mod Showing
pub mod Clearing
pub mod Doing
