pub mod Lines
pub mod Pages
pub mod Prints
pub mod Refusals
pub mod Words
