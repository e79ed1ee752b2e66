-- What the laws say, of any text and of plain ones.
pub mod Readings
pub mod Plain
pub mod PlainLaws
pub mod PieceLaws
