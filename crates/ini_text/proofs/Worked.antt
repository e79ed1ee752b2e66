-- Texts that are worked out over the definitions alone.
pub mod DerivationLemmas
pub mod WorkedTexts
pub mod WorkedRefusals
pub mod WorkedBrackets
pub mod WorkedBackslashes
pub mod WorkedLoneLines
pub mod WorkedComments
pub mod WorkedNotes
pub mod EscapedSamples
pub mod PlainSamples
