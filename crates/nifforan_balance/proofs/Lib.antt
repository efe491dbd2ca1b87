pub mod Dividing
pub mod Bordering
pub mod Filling
