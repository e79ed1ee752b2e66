pub mod EditReading
pub mod Shared
