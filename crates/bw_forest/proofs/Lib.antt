pub mod Bounding
mod Closing
pub mod Fits
pub mod Joining
pub mod Mapping
mod Opening
mod Quantiles
