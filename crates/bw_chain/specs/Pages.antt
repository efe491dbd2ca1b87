-- What the page that a chain stands for, and its halves, cite.
pub mod Ends
pub mod Halves
