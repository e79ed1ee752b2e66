pub mod PositionLemmas
pub mod NoteLemmas
pub mod WalkLemmas
pub mod Worked
pub mod OneListLemmas
pub mod MendLemmas
pub mod LoneLineLemmas
pub mod CommentLemmas
