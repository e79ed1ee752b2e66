pub mod StringLemmas
pub mod GrammarLemmas
pub mod Worked
pub mod WriteLemmas
pub mod ReaderLemmas
pub mod LawLemmas
pub mod PlaceLemmas
pub mod PlainLemmas
