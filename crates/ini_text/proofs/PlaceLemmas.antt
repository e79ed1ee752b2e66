-- The places of an element: its stretches, as they are found.
pub mod SpaceAfterLemmas
pub mod TailLemmas
pub mod PairLemmas
