pub mod Candidates
pub mod Chains
pub mod Filled
pub mod Fits
pub mod Loans
pub mod Moves
pub mod Tags
