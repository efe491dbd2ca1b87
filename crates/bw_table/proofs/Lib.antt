mod Consolidating
mod Halving
pub mod Actions
pub mod Appends
pub mod InPlaces
pub mod Mergings
pub mod Doing
pub mod FreeIds
pub mod LiveRoutes
pub mod Reasons
pub mod Reports
pub mod RowWalk
pub mod Same
pub mod Ways
pub mod Whole
pub mod Writes
pub mod Zips
pub mod Gets
pub mod Listings
pub mod Cuts
pub mod Rests
pub mod Todos
pub mod Undone
pub mod Orders
