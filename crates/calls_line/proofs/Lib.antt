pub mod ReadLaws
pub mod WalkLaws
pub mod WholeWalk
