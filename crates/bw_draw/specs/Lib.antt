pub mod Pictures
pub mod Figures
