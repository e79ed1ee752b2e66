-- Total readers on lists, which find whatever the grammar says of a text.
pub mod ReaderLemmas
pub mod StringReaderLemmas
pub mod ShortPieceLemmas
pub mod LineReaderLemmas
pub mod RunReaderLemmas
pub mod NoteLemmas
pub mod ValueReaderLemmas
pub mod LineTurnLemmas
pub mod KeyReaderLemmas
pub mod ElementReaderLemmas
pub mod TriviaLemmas
