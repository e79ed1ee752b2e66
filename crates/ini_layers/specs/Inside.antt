pub mod Finding
pub mod Listings
