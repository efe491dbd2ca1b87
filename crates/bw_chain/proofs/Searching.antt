-- Lemmas of the searches down a chain.
pub mod Candidates
pub mod Gaps
pub mod Reaches
pub mod Stretches
