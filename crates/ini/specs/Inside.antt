-- What serves private functions alone: no public contract and no law rests on it.
pub mod InnerLends
pub mod LentNames
pub mod StreamLoader
pub mod ReadBytes
pub mod PlainSections
