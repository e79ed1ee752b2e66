pub mod LoadLemmas
pub mod ReadLemmas
