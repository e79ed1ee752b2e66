-- What a call of a parser does.
pub mod ByteOrderMarks
pub mod Fronts
pub mod Items
pub mod Trivia
pub mod Parser
pub mod Places
