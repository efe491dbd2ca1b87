pub mod Fields
pub mod Digits
pub mod RowsRead
pub mod Drawn
pub mod Trails
pub mod TrailsWritten
pub mod Counted
