-- What is written for a text.
pub mod Policies
pub mod EscapedTexts
