-- What the searches down a chain cite.
pub mod Deciding
pub mod Gaps
pub mod Reaches
pub mod Stretches
