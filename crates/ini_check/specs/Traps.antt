pub mod LexicalStates
pub mod Lines
pub mod Values
pub mod Keys
pub mod Quotes
pub mod LostLines
