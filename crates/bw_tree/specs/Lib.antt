pub mod Ranges
pub mod Shares
pub mod Trees
pub mod Stocks
