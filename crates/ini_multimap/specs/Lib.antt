pub mod Inside
pub mod Iter
pub mod KeyLaws
pub mod Keys
pub mod Lends
pub mod Pairs
pub mod Slots
