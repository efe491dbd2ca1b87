-- Lemmas of the pass over a whole chain.
pub mod Around
pub mod Changes
pub mod Descents
pub mod Fronts
pub mod Heads
pub mod Inserts
pub mod Listing
pub mod Lists
pub mod Merges
pub mod Notes
pub mod Passes
pub mod Taking
pub mod Writes
