-- Strings and their bytes, seen as characters.
pub mod FrontLemmas
pub mod TrimLemmas
pub mod ScanLemmas
pub mod LaneLemmas
pub mod RunLemmas
pub mod NoteRunLemmas
pub mod PushLemmas
pub mod BlockLemmas
pub mod TableLemmas
pub mod LineFeedLemmas
pub mod LineCountLemmas
pub mod PositionLemmas
pub mod SameTextLemmas
pub mod ByteOrderMarkLemmas
pub mod VisibleEndLemmas
