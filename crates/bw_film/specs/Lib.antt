pub mod Choices
pub mod Pages
pub mod Films
pub mod Filming
pub mod Faults
pub mod Crews
pub mod CrewPages
