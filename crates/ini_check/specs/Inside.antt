pub mod Walks
pub mod Positions
