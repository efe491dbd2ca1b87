pub mod Statuses
pub mod Verdicts
pub mod Options
