-- What is written for plain names and pairs, and read back.
pub mod EscapedTextLemmas
pub mod PlainTrimLemmas
pub mod PlainLineLemmas
pub mod PlainPairLemmas
pub mod PlainHeaderLemmas
pub mod ScalarLemmas
pub mod PlainTestLemmas
