-- The options that are used where none are given.
pub mod Backslashes
pub mod ReadOptions
pub mod WriteOptions
