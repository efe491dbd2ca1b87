pub mod AtOnce
pub mod Crossing
pub mod Staying
pub mod Trees
