pub mod Bounds
pub mod Plots
pub mod Forests
pub mod Fitting
