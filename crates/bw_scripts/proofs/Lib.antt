pub mod Foretelling
pub mod Playing
