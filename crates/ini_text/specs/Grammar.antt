-- The grammar: what a text means. The files are in reading order, from characters to whole texts.
pub mod CharacterKinds
pub mod WhiteSpace
pub mod Positions
pub mod EscapeSequences
pub mod Strings
pub mod Lines
pub mod Values
pub mod Keys
pub mod Elements
pub mod Texts
pub mod Pieces
pub mod Places
