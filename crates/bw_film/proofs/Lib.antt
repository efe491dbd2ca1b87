pub mod Drawn
pub mod Pages
pub mod Filming
pub mod Faulty
pub mod Crews
