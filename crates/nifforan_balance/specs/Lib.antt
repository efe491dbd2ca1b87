pub mod Balancing
