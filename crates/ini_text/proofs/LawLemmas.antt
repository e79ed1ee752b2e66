-- The laws of any text.
pub mod OneReadingLemmas
pub mod OneAheadLemmas
pub mod OneRefusalLemmas
pub mod LocalLemmas
pub mod PieceLemmas
pub mod MovedLemmas
pub mod ExportedLemmas
