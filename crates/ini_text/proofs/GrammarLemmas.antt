-- What follows from the grammar alone.
pub mod SpellingLemmas
pub mod KindLemmas
pub mod BracketedNameLemmas
pub mod LineLemmas
pub mod ItemLemmas
