pub mod Counting
pub mod Laws
pub mod Converse
pub mod Indexing
pub mod Leaving
pub mod Adding
pub mod Explained
pub mod Interleaved
