-- Bytes on their way to a device.
pub mod BufferLemmas
pub mod EscapeByteLemmas
pub mod MarkedByteLemmas
pub mod ProgressLemmas
pub mod SendLemmas
pub mod VerbatimRunLemmas
