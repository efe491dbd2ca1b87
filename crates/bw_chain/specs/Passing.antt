-- What the pass over a whole chain cites.
pub mod Appends
pub mod Counts
pub mod Cuts
pub mod Edited
pub mod Firsts
pub mod Heads
pub mod Rests
