pub mod Traps
pub mod Messages
pub mod Kinds
pub mod Warnings
pub mod Mends
pub mod Inside
