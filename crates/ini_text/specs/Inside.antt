-- What serves private functions alone: no public contract and no law rests on it.
pub mod Endpoints
pub mod Faults
pub mod Scans
pub mod Reading
pub mod StringReader
pub mod LineReader
pub mod ValueReader
pub mod ElementReader
pub mod ItemSearch
pub mod TriviaSearch
pub mod PlaceReader
pub mod Lanes
pub mod ShortPieces
pub mod Verbatim
pub mod PlainTests
